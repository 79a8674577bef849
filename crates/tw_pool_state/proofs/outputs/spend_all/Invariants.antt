use Rattle.std.proofs.Common.{length}
use Rattle.tw_pool_state.proofs.outputs.spend_all.Given as goal

abbrev pub invariant-loop-right : goal.invariant-loop-right
invariant-loop-right l = Unit {0}

abbrev pub decreases-loop-right : goal.decreases-loop-right
decreases-loop-right l = length l.rights.items
