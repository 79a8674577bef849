use Rattle.tw_asm.proofs.AsmNames.{label_places, ◌≡◌}
use Rattle.tw_asm.proofs.Ones.{inserted_from}
use Rattle.tw_asm.proofs.disassembler.label_places.Given as goal

-- the places so far, with the goals of the other instructions, are all
abbrev pub invariant-loop-place : goal.invariant-loop-place
invariant-loop-place l = inserted_from l.code l.place l.places.keys ≡ label_places l.code
