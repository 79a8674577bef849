use Rattle.tw_pool.proofs.Names.{drop, map, pending_with_data, ◌++◌, ◌≡◌}
use Rattle.tw_pool.proofs.pending.all_pending.Given as goal

abbrev pub invariant-loop-rule : goal.invariant-loop-rule
invariant-loop-rule l = l.pending.items ++ map pending_with_data (drop l.rule-index l.rules) ≡ map pending_with_data l.rules
