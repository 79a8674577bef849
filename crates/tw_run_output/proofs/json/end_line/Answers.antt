use Rattle.std.proofs.Common.{◌∙◌, ◌≡◌, ap, false, subst, sym}
use Rattle.std.proofs.lemmas.Result.{IfOk-weaker}
use Rattle.serde_json.proofs.Views.{view-Object}
use Rattle.serde_json.specs.Data as json
use Rattle.serde_json.specs.Written.{has_float}
use Rattle.tw_json_output.specs.Run.{json_line}
use Rattle.tw_run_output.proofs.json.end_line.Goals as goal

pub line_of-requires : goal.line_of-requires
line_of-requires c = subst (λ (d : json.Data). has_float d ≡ false) (sym (view-Object c.in_ok-members.members)) c.in_ok-members.ensures.whole

pub returns : goal.returns
returns c =
    let members = c.in_ok-members.members in
    IfOk-weaker c.line_of.result _ _
    (λ line is p history shut. is ∙ ap json_line (view-Object members ∙ ap json.object (c.in_ok-members.ensures.are p history shut))) c.line_of.ensures
