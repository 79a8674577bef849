use Rattle.tw_program_output.proofs.ReplyNames.{IsAppended, procedure_lines, take}
use Rattle.tw_program_output.proofs.check.put_procedure_lines.Given as goal

abbrev pub invariant-loop-row : goal.invariant-loop-row
invariant-loop-row l = IsAppended l.fn.out l.out (procedure_lines l.names (take l.row-index l.answer.procedures.items))
