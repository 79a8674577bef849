use Rattle.tw_report.proofs.Names.{link_lines, take, ◌++◌, ◌≡◌}
use Rattle.tw_report.proofs.endings.put_link_lines.Given as goal

abbrev pub invariant-loop-link : goal.invariant-loop-link
invariant-loop-link l = l.out.items ≡ l.fn.out.items ++ link_lines (take l.link-index l.links)
