use Rattle.std.proofs.Common.{◌∙◌, Some, ap, sym}
use Rattle.std.proofs.lemmas.Result.{on_ok_weaker}
use Rattle.tw_types.specs.declared.ending.Ending.{Ending}
use Rattle.tw_code.specs.machine.Ending.{ending}
use Rattle.tw_replay_output.proofs.Behinds.{ended_stuck}
use Rattle.tw_replay_output.proofs.replay_details.put_ending_details.Goals as goal

pub returns-in-Some-Stuck : goal.returns-in-Some-Stuck
returns-in-Some-Stuck c =
    let s = c.args.replaying.now.plain.state in
    let is = sym c.ending.ensures ∙ c.in-Some-Stuck.is ∙ ap (λ (e : Ending). Some e) c.in-Some-Stuck.field-0-is in
    on_ok_weaker c.put_circle.result
    (λ printed start events source replay. ended_stuck c.args.source.now.text.now start events s (ending s) _ c.args.out.now.items c.put_circle.new.out.items is (printed start events source replay)) c.put_circle.ensures
