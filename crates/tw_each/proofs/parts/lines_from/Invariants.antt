use Rattle.std.proofs.Common.{◌≡◌, ◌∷◌, map, take}
use Rattle.tw_each.proofs.parts.lines_from.Given as goal

abbrev pub invariant-loop-index : goal.invariant-loop-index
invariant-loop-index l = map (λ line. line.now) l.lines.items ≡ l.first ∷ map (λ line. line.now) (take l.index l.others)
