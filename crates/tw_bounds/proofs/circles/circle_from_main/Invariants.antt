use Rattle.std.proofs.Common.{◌≡◌, length}
use Rattle.tw_bounds.proofs.Circling.{IsChain}
use Rattle.tw_bounds.proofs.circles.circle_from_main.Given as goal

-- the procedures so far are a chain of calls, each new, and it continues here
abbrev pub invariant-loop : goal.invariant-loop
invariant-loop l = IsChain l.program l.bounds l.chain.items l.procedure × (length l.chain.items ≡ l.counter)
