use Rattle.std.proofs.Common.{◌+◌, ◌*◌, ◌≤◌, arith}
use Rattle.tw_code.specs.machine.Bounds.{opening_bound, size_of}
use Rattle.tw_code.proofs.Growth.{below_more}
use Rattle.tw_fuzz.proofs.replay.goes.Goals as goal

pub step-requires-clause-small : goal.step-requires-clause-small
step-requires-clause-small c = below_more _ _ _ (omega arith) c.requires.low

pub returns : goal.returns
returns c = λ went.
    let n = opening_bound + 1000000000 * c.args.before in
    let short : size_of c.args.event.now ≤ 1000000000 = c.is_short.ensures.0 c.if-not-is_short.false in
    below_more _ _ _ (omega arith) (c.step.ensures.below n c.requires.low)
