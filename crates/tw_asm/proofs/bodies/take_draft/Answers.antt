use Rattle.tw_asm.proofs.AsmNames.{bytes_of, err_from_is_err_and, map, seen_section}
use Rattle.tw_asm.proofs.Taking.{draft_stopped}
use Rattle.tw_asm.proofs.bodies.take_draft.Goals as goal

pub returns-in_err-with_draft : goal.returns-in_err-with_draft
returns-in_err-with_draft c = λ m.
    let p = err_from_is_err_and c.from_residual.result c.from_residual.ensures.1 in
    rw (p.1, p.2, c.in-InBody.is) (draft_stopped c.args.reading.version (map seen_section c.args.reading.sections.items) c.args.reading.head_line c.args.number (seen_section c.in-InBody.section) c.args.draft.instr (bytes_of c.args.draft.goal) c.in_err-with_draft.field-0.0 c.in_err-with_draft.ensures)
