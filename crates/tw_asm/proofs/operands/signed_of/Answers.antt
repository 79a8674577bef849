use Rattle.tw_lexer.proofs.Readings.{signed_same}
use Rattle.tw_asm.proofs.operands.signed_of.Goals as goal

pub returns : goal.returns
returns c = signed_same c.args.text.now c.number.result c.number.ensures
