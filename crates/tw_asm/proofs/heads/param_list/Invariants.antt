use Rattle.tw_asm.proofs.AsmNames.{drop, map, params_from, seen, ◌≡◌}
use Rattle.tw_asm.specs.reading.Heads.{seen_params}
use Rattle.tw_asm.proofs.heads.param_list.Given as goal

abbrev pub invariant-loop-index : goal.invariant-loop-index
invariant-loop-index l = seen_params l.params ≡ params_from l.version (map seen (drop l.index l.words))
