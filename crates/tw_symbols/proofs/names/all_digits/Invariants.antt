use Rattle.tw_symbols.proofs.TextNames.{all_digits, drop, ◌≡◌}
use Rattle.tw_symbols.proofs.names.all_digits.Given as goal

abbrev pub invariant-loop-byte : goal.invariant-loop-byte
invariant-loop-byte l = all_digits (drop l.byte-index l.text) ≡ all_digits l.text
