use Rattle.std.proofs.Common.{◌≡◌, ◌++◌, encode_utf8_all, string_bytes}
use Rattle.std.specs.Char.Escape.{escape_unicode}
use Rattle.std.specs.Char.Iter.{escape_rest}
use Rattle.tw_visible.proofs.characters.put_code.Given as goal

abbrev pub invariant-loop-letter : goal.invariant-loop-letter
invariant-loop-letter l = string_bytes l.out ++ encode_utf8_all (escape_rest l.letter-iterator) ≡ string_bytes l.fn.out ++ encode_utf8_all (escape_unicode l.fn.c)
