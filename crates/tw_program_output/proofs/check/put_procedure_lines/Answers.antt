use Rattle.tw_program_output.proofs.ReplyNames.{List, ProcedureRow, all_of, length, procedure_line, subst, ◌≤◌}
use Rattle.tw_symbols.specs.Symbols.{name_at}
use Rattle.tw_program_output.proofs.check.put_procedure_lines.Goals as goal

pub returns : goal.returns
returns c =
    let last = subst (λ (rows : List ProcedureRow). length rows ≤ c.loop-row.row-index) c.deref-row-items.ensures.value c.loop-row-test.false in
    all_of (λ (row : ProcedureRow). procedure_line (name_at c.args.names.now row.number) row) c.args.answer.now.procedures.items c.loop-row.row-index _ _ last c.loop-row.invariant
