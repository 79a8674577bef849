use Rattle.tw_binary.proofs.Names.{Fails, Form, Instr, List, Ok, ap, err_from_is_err_and, gathers, subst, sym, ◌∙◌, ◌≡◌}
use Rattle.tw_binary.proofs.Gathering.{made, not_made}
use Rattle.tw_binary.proofs.rows.plain_instr.Goals as goal

pub returns-in_err-operands : goal.returns-in_err-operands
returns-in_err-operands c =
    let p = err_from_is_err_and c.from_residual.result c.from_residual.ensures.1 in
    rw (p.1, p.2)
    (not_made c.args.version c.args.opcode c.args.bytes.now.now c.in_err-operands.field-0.0
    (subst (λ (forms : List Form). Fails c.in_err-operands.field-0.0 (gathers c.args.version forms c.args.bytes.now.now)) c.forms.ensures c.in_err-operands.ensures))

pub returns : goal.returns
returns c =
    made c.args.version c.args.opcode c.args.bytes.now.now c.in_ok-operands.operands c.operands.new.bytes.now c.requires
    (subst (λ (forms : List Form). gathers c.args.version forms c.args.bytes.now.now ≡ Ok (c.in_ok-operands.operands, c.operands.new.bytes.now)) c.forms.ensures c.in_ok-operands.ensures)
    ∙ ap (λ (i : Instr). Ok (i, c.operands.new.bytes.now)) (sym c.make.ensures)
