use Rattle.tw_bounds.proofs.Names.{CallsUnknown, None, Procedure, Some, slice_get, ℕ, ◌<◌, ◌≡◌}
use Rattle.tw_bounds.proofs.solving.next_bound.Given as goal

-- each procedure before this one calls what isn't known
abbrev pub invariant-loop-number : goal.invariant-loop-number
invariant-loop-number l = (k : ℕ) (p : Procedure) → k < l.number → slice_get l.program k ≡ Some p → slice_get l.known k ≡ Some None → CallsUnknown l.program l.weights l.known p.registers p.code
