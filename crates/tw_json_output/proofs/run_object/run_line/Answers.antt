use Rattle.std.proofs.Common.{◌∙◌, ap, sym, subst, ◌≡◌, false}
use Rattle.std.proofs.lemmas.Result.{IfOk-weaker}
use Rattle.serde_json.proofs.Views.{view-Object}
use Rattle.serde_json.specs.Data as json
use Rattle.serde_json.specs.Written.{has_float}
use Rattle.tw_json_output.specs.Run.{json_line}
use Rattle.tw_json_output.proofs.run_object.run_line.Goals as goal

pub line_of-requires : goal.line_of-requires
line_of-requires g c = subst (λ (d : json.Data). has_float d ≡ false) (sym (view-Object c.in_ok-members.members)) c.in_ok-members.ensures.whole

pub returns : goal.returns
returns g c =
    IfOk-weaker c.line_of.result _ _
    (λ line is. is ∙ ap json_line (view-Object c.in_ok-members.members ∙ ap json.object c.in_ok-members.ensures.is)) c.line_of.ensures
