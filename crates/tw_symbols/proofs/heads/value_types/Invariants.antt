use Rattle.tw_symbols.proofs.TextNames.{length, texts, value_types, ◌++◌, ◌≡◌}
use Rattle.tw_symbols.proofs.heads.value_types.Given as goal

abbrev pub invariant-loop-rest : goal.invariant-loop-rest
invariant-loop-rest l = texts l.types.items ++ value_types (texts l.rest) ≡ value_types (texts l.words)

abbrev pub decreases-loop-rest : goal.decreases-loop-rest
decreases-loop-rest l = length l.rest
