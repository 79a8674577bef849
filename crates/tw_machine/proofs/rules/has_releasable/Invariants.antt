use Rattle.tw_machine.proofs.Names.{is_releasable, list_any, map, ◌≡◌}
use Rattle.tw_machine.proofs.rules.has_releasable.Given as goal

abbrev pub invariant-loop-rule : goal.invariant-loop-rule
invariant-loop-rule l = list_any is_releasable (map (λ e. e.1) l.rules.entries) ≡ list_any is_releasable (map (λ e. e.1) l.rule-iterator)
