use Rattle.tw_host.proofs.Names.{IsText, ℕ, ◌<◌}
use Rattle.tw_host.proofs.batch.has_no_text.Given as goal

abbrev pub invariant-loop-index : goal.invariant-loop-index
invariant-loop-index l = (register : ℕ) → register < l.index → IsText l.types register → ⊥
