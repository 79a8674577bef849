use Rattle.tw_asm.proofs.AsmNames.{drop, map, seen, type_from, ◌≡◌}
use Rattle.tw_asm.proofs.gathering.type_of.Given as goal

abbrev pub invariant-loop-index : goal.invariant-loop-index
invariant-loop-index l = l.begun ≡ type_from l.version (map seen (drop l.index l.words))
