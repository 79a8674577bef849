use Rattle.tw_bounds.proofs.Names.{map, reported, take, ◌≡◌}
use Rattle.tw_bounds.proofs.whole_runs.reports.Given as goal

-- those so far
abbrev pub invariant-loop-number : goal.invariant-loop-number
invariant-loop-number l = map reported (take l.number-index l.numbers) ≡ l.bounds.items
