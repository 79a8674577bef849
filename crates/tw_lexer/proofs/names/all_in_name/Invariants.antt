use Rattle.std.proofs.Common.{◌≡◌, drop}
use Rattle.tw_lexer.specs.Names.{all_in_name}
use Rattle.tw_lexer.proofs.names.all_in_name.Given as goal

abbrev pub invariant-loop-byte : goal.invariant-loop-byte
invariant-loop-byte l = all_in_name (drop l.byte-index l.text) ≡ all_in_name l.text
