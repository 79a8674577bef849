use Rattle.tw_symbols.proofs.TextNames.{drop, expected_of, flat_map, ◌++◌, ◌≡◌}
use Rattle.tw_symbols.proofs.instruction.push_all.Given as goal

abbrev pub invariant-loop-form : goal.invariant-loop-form
invariant-loop-form l = l.asked.items ++ flat_map (expected_of l.banks) (drop l.form-index l.forms) ≡ l.fn.asked.items ++ flat_map (expected_of l.banks) l.forms
