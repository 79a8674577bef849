use Rattle.std.proofs.Common.{length}
use Rattle.tw_types.specs.ValueOrder.{named}
use Rattle.tw_datum.proofs.Runs.{IsPartWith}
use Rattle.tw_datum.proofs.run.place_of.Given as goal

abbrev pub invariant-loop-before : goal.invariant-loop-before
invariant-loop-before g l = IsPartWith (named l.key) l.run l.low l.part

abbrev pub decreases-loop-before : goal.decreases-loop-before
decreases-loop-before g l = length l.part
