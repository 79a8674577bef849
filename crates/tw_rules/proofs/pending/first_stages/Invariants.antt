use Rattle.tw_rules.proofs.Names.{first_stage, map, take, ◌≡◌}
use Rattle.tw_rules.proofs.pending.first_stages.Given as goal

abbrev pub invariant-loop-param : goal.invariant-loop-param
invariant-loop-param l = l.stages ≡ map (λ p. first_stage p.mode) (take l.param-index l.params)
