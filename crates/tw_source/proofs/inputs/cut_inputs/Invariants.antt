use Rattle.std.proofs.Common.{length}
use Rattle.tw_source.proofs.InputLines.{CutTo}
use Rattle.tw_source.proofs.inputs.cut_inputs.Given as goal

abbrev pub invariant-loop-line : goal.invariant-loop-line
invariant-loop-line l = CutTo l.text l.count l.rest

abbrev pub decreases-loop-line : goal.decreases-loop-line
decreases-loop-line l = length l.rest
