use Rattle.tw_asm.proofs.AsmNames.{err_from_is_err_and, refl, seen_reading}
use Rattle.tw_asm.proofs.Steps.{not_finished}
use Rattle.tw_asm.proofs.reading.read_text.Goals as goal

pub returns-in_err-sections : goal.returns-in_err-sections
returns-in_err-sections c =
    let p = err_from_is_err_and c.from_residual-in_err-sections.result c.from_residual-in_err-sections.ensures.1 in
    rw (p.1, p.2) (not_finished c.args.text.now (seen_reading c.in_ok-reading.reading) c.in_err-sections.field-0.0 c.in_ok-reading.ensures c.in_err-sections.ensures)

pub returns : goal.returns
returns c = record { p = seen_reading c.in_ok-reading.reading; read = c.in_ok-reading.ensures; whole = c.in_ok-sections.ensures.0; version_is = refl; sections_are = c.in_ok-sections.ensures.1 }
