use Rattle.tw_asm.proofs.AsmNames.{arith, err_from_is_err_and, length, length-map, map, seen_reading, seen_section, ◌<◌, ◌≤◌}
use Rattle.tw_asm.proofs.Taking.{head_stopped, head_taken, too_many_heads}
use Rattle.tw_asm.proofs.reading.take_head.Goals as goal

pub returns-in_err-sections : goal.returns-in_err-sections
returns-in_err-sections c = λ m.
    let p = err_from_is_err_and c.from_residual.result c.from_residual.ensures.1 in
    rw (p.1, p.2) (head_stopped (seen_reading c.args.reading) c.args.number c.args.kind c.args.params c.in_err-sections.field-0.0 m c.in_err-sections.ensures)

pub returns-then-len-from : goal.returns-then-len-from
returns-then-len-from c = λ m.
    let many : 64 ≤ length (map seen_section c.in_ok-sections.sections.items) = omega (arith, length-map c.in_ok-sections.sections.items seen_section, c.in_ok-sections.sections.ok) in
    too_many_heads (seen_reading c.args.reading) c.args.number c.args.kind c.args.params c.new.result (map seen_section c.in_ok-sections.sections.items) m c.in_ok-sections.ensures many c.new.ensures.no c.new.ensures.line

pub returns : goal.returns
returns c = λ m.
    let few : length (map seen_section c.in_ok-sections.sections.items) < 64 = omega (arith, length-map c.in_ok-sections.sections.items seen_section, c.in_ok-sections.sections.ok) in
    head_taken (seen_reading c.args.reading) c.args.number c.args.kind c.args.params (map seen_section c.in_ok-sections.sections.items) m c.in_ok-sections.ensures few
