use Rattle.tw_binary.proofs.Names.{Ok, Operands, ap, err_from_is_err_and, split, sym, ◌∙◌}
use Rattle.tw_binary.proofs.Gathering.{all_parsed, none_parsed, nothing_left, one_parsed}
use Rattle.tw_binary.proofs.rows.+operands.Goals as goal

pub returns-in_err-first-in-len1-up : goal.returns-in_err-first-in-len1-up
returns-in_err-first-in-len1-up t c =
    let p = err_from_is_err_and c.from_residual.result c.from_residual.ensures.1 in
    rw (p.1, p.2) (none_parsed c.args.version _ _ c.args.forms.now (split c.args.forms.now _ c.in-len1-up.len_at_least) c.args.bytes.now.now _ c.in_err-first-in-len1-up.ensures)

pub returns-in_err-others-in-len1-up : goal.returns-in_err-others-in-len1-up
returns-in_err-others-in-len1-up t c =
    let p = err_from_is_err_and c.from_residual-in_err-others-in-len1-up.result c.from_residual-in_err-others-in-len1-up.ensures.1 in
    rw (p.1, p.2)
    (one_parsed c.args.version _ _ c.args.forms.now (split c.args.forms.now _ c.in-len1-up.len_at_least) c.args.bytes.now.now _ _ c.in_ok-first-in-len1-up.ensures _ c.in_err-others-in-len1-up.ensures)

pub returns-in-empty : goal.returns-in-empty
returns-in-empty t c =
    nothing_left c.args.version c.args.forms.now c.args.bytes.now.now c.in-empty.len_below ∙ ap (λ (o : Operands). Ok (o, c.args.bytes.now.now)) (sym c.none.ensures)

pub returns-in_ok-others-in-len1-up : goal.returns-in_ok-others-in-len1-up
returns-in_ok-others-in-len1-up t c =
    all_parsed c.args.version _ _ c.args.forms.now (split c.args.forms.now _ c.in-len1-up.len_at_least) c.args.bytes.now.now _ _ c.in_ok-first-in-len1-up.ensures _ _ c.in_ok-others-in-len1-up.ensures
    ∙ ap (λ (o : Operands). Ok (o, c.operands.new.bytes.now)) (sym c.after.ensures)
