use Rattle.tw_symbols.proofs.TextNames.{ap, result_ok, signed_same, ◌∙◌}
use Rattle.tw_symbols.proofs.numbers.signed.Goals as goal

pub returns : goal.returns
returns c = c.ok.ensures.value ∙ ap result_ok (signed_same c.args.text.now c.number.result c.number.ensures)
