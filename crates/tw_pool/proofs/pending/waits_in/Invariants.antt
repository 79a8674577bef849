use Rattle.tw_pool.proofs.Names.{drop, waits_in, ◌++◌, ◌≡◌}
use Rattle.tw_pool.proofs.pending.waits_in.Given as goal

abbrev pub invariant-loop-stage : goal.invariant-loop-stage
invariant-loop-stage l = l.ids.items ++ waits_in (drop l.stage-index l.stages) l.rest ≡ waits_in l.stages l.args
