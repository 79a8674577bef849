use Rattle.std.proofs.Common.{◌∙◌, ◌≡◌, ap, codes, false, subst, sym}
use Rattle.std.proofs.lemmas.Result.{IfOk-weaker}
use Rattle.serde_json.proofs.Views.{view-Object}
use Rattle.serde_json.specs.Data as json
use Rattle.serde_json.specs.View.{members_view}
use Rattle.serde_json.specs.Written.{has_float, members_have_float}
use Rattle.tw_json_output.specs.Run.{json_line}
use Rattle.tw_run_output.proofs.Orders.{end_order_fine}
use Rattle.tw_run_output.proofs.event_order.order_line.Goals as goal

pub line_of-requires : goal.line_of-requires
line_of-requires c =
    let members = members_view c.in_ok-members.members.entries in
    let put = c.in_ok-put.ensures.ok ∙ ap (λ (d : json.Data). json.put (codes "order") d members) c.in_ok-answer.ensures in
    subst (λ (d : json.Data). has_float d ≡ false) (sym (view-Object c.put.new.map))
    (subst (λ (ms : json.Members). members_have_float ms ≡ false) (sym put) (end_order_fine c.args.closing c.in_ok-found.found members c.in_ok-members.ensures.whole))

pub returns : goal.returns
returns c =
    let members = members_view c.in_ok-members.members.entries in
    let put = c.in_ok-put.ensures.ok ∙ ap (λ (d : json.Data). json.put (codes "order") d members) c.in_ok-answer.ensures in
    IfOk-weaker c.line_of.result _ _
    (λ line is. (c.in_ok-found.found, members, c.in_ok-found.ensures.first, c.in_ok-members.ensures.are, is ∙ ap json_line (view-Object c.put.new.map ∙ ap json.object put))) c.line_of.ensures
