use Rattle.tw_report.proofs.Names.{entries, entries_in, take, value_lines, ◌++◌, ◌≡◌}
use Rattle.tw_report.proofs.outputs.put_value_lines.Given as goal

abbrev pub invariant-loop-index : goal.invariant-loop-index
invariant-loop-index g l = l.out.items ≡ l.fn.out.items ++ value_lines (take l.index (entries (entries_in l.map.datum.content)))
