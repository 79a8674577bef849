use Rattle.tw_symbols.proofs.TextNames.{false, is_listed, seen_table, take, ◌≡◌}
use Rattle.tw_symbols.proofs.names.is_listed.Given as goal

abbrev pub invariant-loop-index : goal.invariant-loop-index
invariant-loop-index l = is_listed l.bank l.number (take l.index (seen_table l.table.entries)) ≡ false
