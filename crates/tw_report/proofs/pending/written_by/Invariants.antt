use Rattle.tw_report.proofs.Names.{arg_of, drop, map, written_by, ◌++◌, ◌≡◌}
use Rattle.tw_report.proofs.pending.written_by.Given as goal

abbrev pub invariant-loop-param : goal.invariant-loop-param
invariant-loop-param l = l.ids.items ++ written_by (drop l.param-index l.params) (map arg_of l.rest) ≡ written_by l.params (map arg_of l.args)
