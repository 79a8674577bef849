use Rattle.std.proofs.Common.{◌≢◌, take}
use Rattle.std.specs.List.{AllByRecursion}
use Rattle.tw_inputs.proofs.parts.cut.Given as goal

abbrev pub invariant-loop-index : goal.invariant-loop-index
invariant-loop-index l = AllByRecursion (λ b. b ≢ l.byte) (take l.index l.bytes)
