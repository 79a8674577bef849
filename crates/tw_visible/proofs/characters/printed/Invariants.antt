use Rattle.std.proofs.Common.{◌≡◌, ◌++◌, IsUtf8, string_bytes}
use Rattle.std.specs.Str.Iter.{chars_rest}
use Rattle.tw_visible.specs.Visible.{printed}
use Rattle.tw_visible.proofs.characters.printed.Given as goal

abbrev pub invariant-loop-c : goal.invariant-loop-c
invariant-loop-c l = IsUtf8 (chars_rest l.c-iterator) × (string_bytes l.out ++ printed l.kind (chars_rest l.c-iterator) ≡ printed l.kind l.fn.text)
