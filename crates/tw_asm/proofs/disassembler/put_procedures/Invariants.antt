use Rattle.tw_asm.proofs.AsmNames.{drop, flat_map, procedure_lines, ◌++◌, ◌≡◌}
use Rattle.tw_asm.proofs.disassembler.put_procedures.Given as goal

-- the lines so far, with those of the other procedures, are all
abbrev pub invariant-loop-procedure : goal.invariant-loop-procedure
invariant-loop-procedure l = l.lines.out.items ++ flat_map procedure_lines (drop l.procedure-index l.procedures) ≡ l.fn.lines.out.items ++ flat_map procedure_lines l.procedures
