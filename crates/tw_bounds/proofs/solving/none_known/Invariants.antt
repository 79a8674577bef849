use Rattle.std.proofs.Common.{◌≡◌, ℕ, Option, None, replicate}
use Rattle.tw_bounds.proofs.solving.none_known.Given as goal

-- so far
abbrev pub invariant-loop : goal.invariant-loop
invariant-loop l = l.known.items ≡ replicate {A = Option ℕ} l.counter None
