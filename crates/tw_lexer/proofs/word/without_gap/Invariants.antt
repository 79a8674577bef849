use Rattle.std.proofs.Common.{◌≡◌, ◌++◌, ℕ, List, length, IsUtf8}
use Rattle.tw_lexer.specs.Words.{IsGap}
use Rattle.tw_lexer.proofs.word.without_gap.Given as goal

abbrev pub invariant-loop-rest : goal.invariant-loop-rest
invariant-loop-rest l = record {
  gap : (gap : List ℕ) × IsGap gap × (l.bytes ≡ gap ++ l.rest);
  utf8 : IsUtf8 l.rest;
}

abbrev pub decreases-loop-rest : goal.decreases-loop-rest
decreases-loop-rest l = length l.rest
