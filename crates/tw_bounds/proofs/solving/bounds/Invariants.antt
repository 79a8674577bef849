use Rattle.std.proofs.Common.{◌≡◌, ◌+◌}
use Rattle.tw_bounds.proofs.Partial.{IsSolving, unknown_in}
use Rattle.tw_bounds.proofs.solving.bounds.Given as goal

-- one more is known in each iteration
abbrev pub invariant-loop : goal.invariant-loop
invariant-loop l = IsSolving l.program l.weights l.known.items × (unknown_in l.known.items + l.counter ≡ l.count)
