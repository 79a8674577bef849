use Rattle.tw_machine.proofs.Names.{has_unasked, list_any, map, ◌≡◌}
use Rattle.tw_machine.proofs.rules.has_unasked.Given as goal

abbrev pub invariant-loop-rule : goal.invariant-loop-rule
invariant-loop-rule l = list_any has_unasked (map (λ e. e.1) l.rules.entries) ≡ list_any has_unasked (map (λ e. e.1) l.rule-iterator)
