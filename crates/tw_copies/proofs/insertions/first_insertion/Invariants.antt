use Rattle.tw_copies.proofs.Names.{IsMarkedInsertion, ℕ, ◌<◌}
use Rattle.tw_copies.proofs.insertions.first_insertion.Given as goal

-- no procedure so far has such a place
abbrev pub invariant-loop-procedure : goal.invariant-loop-procedure
invariant-loop-procedure l = (number place : ℕ) → number < l.procedure → IsMarkedInsertion l.program l.marks number place → ⊥
