use Rattle.tw_lexer.proofs.Readings.{digits_same}
use Rattle.tw_asm.proofs.operands.digits_of.Goals as goal

pub returns-clause-is : goal.returns-clause-is
returns-clause-is c = digits_same c.args.low c.args.high c.args.text.now c.digits.result c.digits.ensures
