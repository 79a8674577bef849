use Rattle.tw_lexer.proofs.Numerals.{HasRead}
use Rattle.tw_lexer.proofs.numbers.digits.Given as goal

abbrev pub invariant-loop-byte : goal.invariant-loop-byte
invariant-loop-byte l = HasRead l.text l.past l.byte-index l.value
