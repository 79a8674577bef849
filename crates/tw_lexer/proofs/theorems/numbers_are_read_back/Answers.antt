use Rattle.tw_lexer.proofs.Numerals as numerals
use Rattle.tw_lexer.proofs.theorems.numbers_are_read_back.Goals as goal

pub returns : goal.returns
returns c = numerals.numbers_are_read_back
