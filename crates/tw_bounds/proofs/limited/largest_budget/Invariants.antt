use Rattle.tw_bounds.proofs.Names.{IsLargestOf, greatest_budget, ◌≤◌}
use Rattle.tw_bounds.proofs.limited.largest_budget.Given as goal

-- the largest of those so far
abbrev pub invariant-loop-number : goal.invariant-loop-number
invariant-loop-number l = IsLargestOf l.verified.program l.number l.most × (l.most ≤ greatest_budget)
