use Rattle.tw_symbols.proofs.TextNames.{argument_of, drop, map, ◌++◌, ◌≡◌}
use Rattle.tw_symbols.proofs.instruction.push_expected.Given as goal

abbrev pub invariant-loop-bank : goal.invariant-loop-bank
invariant-loop-bank l = l.asked.items ++ map argument_of (drop l.bank-index l.banks) ≡ l.fn.asked.items ++ map argument_of l.banks
