use Rattle.std.proofs.Common.{◌≡◌, ◌∙◌, true, List, Option, Vec, Global, ap, option_map, sym}
use Rattle.std.proofs.lemmas.Result.{IfOk-weaker}
use Rattle.tw_types.specs.Circle.{circle_of}
use Rattle.tw_types.specs.declared.pending.Link.{Link}
use Rattle.tw_run_output.specs.Ends.{IsEndCircle, has_ended}
use Rattle.tw_run_output.proofs.Finals.{circle_ended}
use Rattle.tw_run_output.proofs.end_report.circle.Goals as goal

pub returns : goal.returns
returns c =
    let final = c.args.left.now in
    let ended : true ≡ c.has_ended.result = cc in
    IfOk-weaker c.circle_of.result (λ (found : Option (Vec Link Global)). option_map (λ (v : Vec Link Global). v.items) found ≡ circle_of c.deref.result.now)
    (λ (found : Option (Vec Link Global)). IsEndCircle final (option_map (λ (v : Vec Link Global). v.items) found))
    (λ found h p history shut.
    h ∙ ap circle_of (c.deref.ensures.value ∙ c.in_ok-rules.ensures ∙ shut.left.pending)
    ∙ sym (circle_ended p.program.program p shut.state (ended ∙ c.has_ended.ensures ∙ ap has_ended (c.closing.ensures ∙ shut.closing))))
    c.circle_of.ensures
