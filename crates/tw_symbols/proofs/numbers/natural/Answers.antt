use Rattle.tw_symbols.proofs.TextNames.{ap, digits_same, result_ok, sym, ◌∙◌}
use Rattle.tw_symbols.proofs.numbers.natural.Goals as goal

pub returns-in-Ok : goal.returns-in-Ok
returns-in-Ok c = ap result_ok (sym c.in-Ok.is ∙ digits_same 0 c.args.most c.args.text.now c.digits.result c.digits.ensures)

pub returns-in-Err : goal.returns-in-Err
returns-in-Err c = ap result_ok (sym c.in-Err.is ∙ digits_same 0 c.args.most c.args.text.now c.digits.result c.digits.ensures)
