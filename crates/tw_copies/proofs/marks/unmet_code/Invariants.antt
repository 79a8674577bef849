use Rattle.tw_copies.proofs.Names.{Instr, IsMet, Requires, Some, slice_get, ℕ, ◌<◌, ◌≡◌}
use Rattle.tw_copies.proofs.marks.unmet_code.Given as goal

-- the instructions so far are met
abbrev pub invariant-loop-instr : goal.invariant-loop-instr
invariant-loop-instr l = (place : ℕ) (i : Instr) → place < l.instr-index → slice_get l.code place ≡ Some i → IsMet l.marks (Requires l.program l.marks l.number i)
