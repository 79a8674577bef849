use Rattle.tw_program_output.proofs.ReplyNames.{AreRows, take}
use Rattle.tw_program_output.proofs.answer.procedure_rows.Given as goal

abbrev pub invariant-loop-number : goal.invariant-loop-number
invariant-loop-number l = AreRows 0 (take l.number l.fn.verified.program) l.rows.items
