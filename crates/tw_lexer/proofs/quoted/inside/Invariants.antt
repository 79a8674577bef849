use Rattle.std.proofs.Common.{◌≡◌, drop}
use Rattle.tw_lexer.specs.declared.escape.Escape.TheVariants.{Nothing}
use Rattle.tw_lexer.specs.reading.Inside.{IsInEscape, inside_from, with_front}
use Rattle.tw_lexer.proofs.quoted.inside.Given as goal

abbrev pub invariant-loop-byte : goal.invariant-loop-byte
invariant-loop-byte l = record {
  count : l.count ≡ l.byte-index;
  escape : IsInEscape l.escape;
  is : with_front l.text.items (inside_from l.escape (drop l.byte-index l.bytes)) ≡ inside_from Nothing l.bytes;
}
