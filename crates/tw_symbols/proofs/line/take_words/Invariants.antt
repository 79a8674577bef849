use Rattle.std.proofs.Common.{length, IsUtf8}
use Rattle.tw_symbols.proofs.TextNames.{StartWith, texts}
use Rattle.tw_symbols.proofs.line.take_words.Given as goal

abbrev pub invariant-loop-words : goal.invariant-loop-words
invariant-loop-words l = record {
  first : StartWith (texts l.words.items) l.line l.rest;
  utf8 : IsUtf8 l.rest;
}

abbrev pub decreases-loop-words : goal.decreases-loop-words
decreases-loop-words l = length l.rest
