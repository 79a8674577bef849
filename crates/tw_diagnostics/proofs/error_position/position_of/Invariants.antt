use Rattle.std.proofs.Common.{IsUtf8}
use Rattle.tw_diagnostics.proofs.error_position.position_of.Given as goal

abbrev pub invariant-loop-count : goal.invariant-loop-count
invariant-loop-count l = IsUtf8 l.rest
