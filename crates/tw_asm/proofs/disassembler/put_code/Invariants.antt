use Rattle.tw_asm.proofs.AsmNames.{code_lines, drop, ◌++◌, ◌≡◌}
use Rattle.tw_asm.proofs.disassembler.put_code.Given as goal

-- the lines so far, with those of the other instructions, are all
abbrev pub invariant-loop-place : goal.invariant-loop-place
invariant-loop-place l = l.lines.out.items ++ code_lines l.places.keys l.place (drop l.place l.code) ≡ l.fn.lines.out.items ++ code_lines l.places.keys 0 l.code
