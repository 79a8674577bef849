use Rattle.tw_bounds.proofs.Names.{CallsEndless, ℕ, ◌<◌}
use Rattle.tw_bounds.proofs.circles.endless_call.Given as goal

-- no place before this one calls a procedure without a bound
abbrev pub invariant-loop-place : goal.invariant-loop-place
invariant-loop-place l = (place q : ℕ) → place < l.place → CallsEndless l.bounds l.code place q → ⊥
