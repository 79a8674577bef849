use Rattle.std.proofs.Common.{◌+◌, ◌*◌, ◌≤◌, arith}
use Rattle.tw_code.specs.machine.Bounds.{size_of, opening_bound}
use Rattle.tw_code.proofs.Growth.{below_more}
use Rattle.tw_case_lines.proofs.play.play.Goals as goal

pub loop-event-preserved : goal.loop-event-preserved
loop-event-preserved c =
    let n = opening_bound + 1000000000 * c.loop-event.event-index in
    let short : size_of c.event-item.result ≤ 1000000000 = c.has_few_instructions.ensures.0 c.if-not-has_few_instructions.false in
    below_more _ _ _ (omega arith) (c.step.ensures.below n c.loop-event.invariant)
