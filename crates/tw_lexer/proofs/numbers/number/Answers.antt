use Rattle.tw_lexer.proofs.Numerals.{negative_flaw, plain_flaw}
use Rattle.tw_lexer.proofs.numbers.number.Goals as goal

pub returns-in-Err : goal.returns-in-Err
returns-in-Err c = negative_flaw c.args.text.now c.in-Some.size.now c.in-Err.flaw c.in-Some.ensures c.in-Err.ensures

pub returns-in-Err-digits : goal.returns-in-Err-digits
returns-in-Err-digits c = plain_flaw c.args.text.now c.in-Err-digits.flaw c.in-None.ensures c.in-Err-digits.ensures
