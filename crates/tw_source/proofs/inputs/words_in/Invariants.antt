use Rattle.std.proofs.Common.{map}
use Rattle.tw_source.proofs.InputLines.{AreWordsOf}
use Rattle.tw_source.proofs.inputs.words_in.Given as goal

-- the words of the lines so far
abbrev pub invariant-loop-line : goal.invariant-loop-line
invariant-loop-line l = AreWordsOf (map (λ line. line.now) l.yielded) (map (λ word. word.now) l.words.items)
