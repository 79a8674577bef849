use Rattle.tw_copies.proofs.Names.{InsertsMarked, ℕ, ◌<◌}
use Rattle.tw_copies.proofs.insertions.insertion_in.Given as goal

-- no place so far inserts by a marked register
abbrev pub invariant-loop-place : goal.invariant-loop-place
invariant-loop-place l = (place : ℕ) → place < l.place → InsertsMarked l.marks l.number l.code place → ⊥
