use Rattle.std.proofs.Common.{◌+◌, ◌∙◌, ℕ, ap, arith}
use Rattle.tw_replay_output.proofs.Instructions.{all_counted, next_counted}
use Rattle.tw_replay_output.proofs.state_json.instructions_in.Goals as goal

pub returns : goal.returns
returns c = all_counted c.args.events.now c.loop-event.event-index c.loop-event.sum c.loop-event-test.false c.loop-event.invariant.sum

pub loop-event-preserved : goal.loop-event-preserved
loop-event-preserved c =
    let counted = c.from-sum.ensures ∙ c.instructions_by.ensures in
    record {
      sum = next_counted c.args.events.now c.loop-event.event-index c.event-item.result c.loop-event.sum _ c.loop-event-test.true c.event-item.is c.loop-event.invariant.sum (ap (λ (n : ℕ). c.loop-event.sum + n) counted);
      small = omega (arith, c.loop-event.invariant.small, c.from-sum.ensures, c.instructions_by.type_inv);
    }
