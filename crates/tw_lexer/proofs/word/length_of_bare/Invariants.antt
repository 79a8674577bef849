use Rattle.std.proofs.Common.{◌≡◌, ◌+◌, drop}
use Rattle.tw_lexer.specs.reading.Next.{bare_length}
use Rattle.tw_lexer.proofs.word.length_of_bare.Given as goal

abbrev pub invariant-loop-byte : goal.invariant-loop-byte
invariant-loop-byte l = record {
  count : l.count ≡ l.byte-index;
  is : l.count + bare_length (drop l.byte-index l.bytes) ≡ bare_length l.bytes;
}
