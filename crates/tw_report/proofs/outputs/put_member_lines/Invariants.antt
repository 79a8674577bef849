use Rattle.tw_report.proofs.Names.{entries, member_lines, members_in, take, ◌++◌, ◌≡◌}
use Rattle.tw_report.proofs.outputs.put_member_lines.Given as goal

abbrev pub invariant-loop-index : goal.invariant-loop-index
invariant-loop-index g l = l.out.items ≡ l.fn.out.items ++ member_lines (g.T.ReportSource.live l.source) (take l.index (entries (members_in l.container.datum.content)))
