use Rattle.std.proofs.Common.{map}
use Rattle.tw_symbols.proofs.Walk.{AreBlank}
use Rattle.tw_symbols.proofs.expansion.is_named.Given as goal

abbrev pub invariant-loop-line : goal.invariant-loop-line
invariant-loop-line l = AreBlank (map (λ line. line.now) l.yielded)
