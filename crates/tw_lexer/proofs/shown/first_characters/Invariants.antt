use Rattle.std.proofs.Common.{◌≡◌, ◌++◌, drop, take}
use Rattle.tw_lexer.specs.Shown.{first_characters}
use Rattle.tw_lexer.proofs.shown.first_characters.Given as goal

abbrev pub invariant-loop-index : goal.invariant-loop-index
invariant-loop-index l = first_characters l.most l.text ≡ take l.index l.text ++ first_characters l.more (drop l.index l.text)
