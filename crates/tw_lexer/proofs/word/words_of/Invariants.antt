use Rattle.std.proofs.Common.{length, map, IsUtf8}
use Rattle.tw_lexer.specs.Seen.{seen}
use Rattle.tw_lexer.specs.Words.{AreFirstWords}
use Rattle.tw_lexer.proofs.word.words_of.Given as goal

abbrev pub invariant-loop-words : goal.invariant-loop-words
invariant-loop-words l = record {
  first : AreFirstWords (map seen l.words.items) l.line l.rest;
  utf8 : IsUtf8 l.rest;
}

abbrev pub decreases-loop-words : goal.decreases-loop-words
decreases-loop-words l = length l.rest
