use Rattle.std.proofs.Common.{◌≡◌, ◌++◌, codes, take}
use Rattle.std.specs.List.{flat_map}
use Rattle.tw_lexer.specs.Quoted.{escaped}
use Rattle.tw_lexer.proofs.quoted.put_quoted_bytes.Given as goal

abbrev pub invariant-loop-byte : goal.invariant-loop-byte
invariant-loop-byte l = l.out.items ≡ l.fn.out.items ++ (codes "\"" ++ flat_map escaped (take l.byte-index l.text))
