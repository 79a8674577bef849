use Rattle.std.proofs.Common.{◌≡◌, ◌∙◌, Option, List, option_map, sym, subst}
use Rattle.std.proofs.lemmas.Result.{IfOk-weaker}
use Rattle.tw_types.specs.declared.pending.Link.{Link}
use Rattle.tw_pool.specs.declared.answer.Closing.{Closing}
use Rattle.tw_run_output.specs.Json.{circle_in}
use Rattle.tw_run_output.proofs.json.circle_of.Goals as goal

pub returns-in-Stuck : goal.returns-in-Stuck
returns-in-Stuck c =
    IfOk-weaker c.circle.result _ _
    (λ found is p history shut. subst (λ (closing : Closing). option_map (λ v. v.items) found ≡ circle_in p.program.program shut.state closing) (sym c.in-Stuck.is) (is p history shut)) c.circle.ensures
