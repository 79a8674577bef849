use Rattle.tw_report.proofs.Names.{map, pending_of, ◌++◌, ◌≡◌}
use Rattle.tw_report.proofs.pending.pending_rules.Given as goal

abbrev pub invariant-loop-number : goal.invariant-loop-number
invariant-loop-number l = l.pending.items ++ map (pending_of l.program) l.number-iterator ≡ map (pending_of l.program) l.rules.entries
