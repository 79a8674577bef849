use Rattle.tw_report.proofs.Names.{drop, word_length, ◌+◌, ◌≡◌}
use Rattle.tw_report.proofs.words.word_length.Given as goal

abbrev pub invariant-loop-byte : goal.invariant-loop-byte
invariant-loop-byte l = record {
  count : l.count ≡ l.byte-index;
  is : l.count + word_length (drop l.byte-index l.bytes) ≡ word_length l.bytes;
}
