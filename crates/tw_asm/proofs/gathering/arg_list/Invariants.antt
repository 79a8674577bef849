use Rattle.tw_asm.proofs.AsmNames.{as_is, drop, each, each_from, map, natural_in, seen, ◌≡◌}
use Rattle.tw_asm.proofs.gathering.arg_list.Given as goal

abbrev pub invariant-loop-word : goal.invariant-loop-word
invariant-loop-word l = each_from (natural_in 0 15) (as_is (λ v. v.items) l.args) (map seen (drop l.word-index l.words)) ≡ each (natural_in 0 15) (map seen l.words)
