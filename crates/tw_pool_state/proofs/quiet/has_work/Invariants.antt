use Rattle.tw_pool_state.proofs.PartNames.{None, next_ask, next_release, ℕ, ◌<◌, ◌≡◌}
use Rattle.tw_pool_state.proofs.quiet.has_work.Given as goal

abbrev pub invariant-loop-engine : goal.invariant-loop-engine
invariant-loop-engine l = (k : ℕ) → k < l.engine → (next_ask k l.rules.rules ≡ None) × (next_release k l.rules.rules ≡ None)
