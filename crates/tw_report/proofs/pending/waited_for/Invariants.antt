use Rattle.tw_report.proofs.Names.{arg_of, drop, map, waited_for, ◌++◌, ◌≡◌}
use Rattle.tw_report.proofs.pending.waited_for.Given as goal

abbrev pub invariant-loop-stage : goal.invariant-loop-stage
invariant-loop-stage l = l.ids.items ++ waited_for (drop l.stage-index l.stages) (map arg_of l.rest) ≡ waited_for l.stages (map arg_of l.args)
