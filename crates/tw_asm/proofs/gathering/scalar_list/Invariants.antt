use Rattle.tw_asm.proofs.AsmNames.{as_is, drop, each, each_from, map, scalar_in, seen, ◌≡◌}
use Rattle.tw_asm.proofs.gathering.scalar_list.Given as goal

abbrev pub invariant-loop-word : goal.invariant-loop-word
invariant-loop-word l = each_from scalar_in (as_is (λ v. v.items) l.scalars) (map seen (drop l.word-index l.words)) ≡ each scalar_in (map seen l.words)
