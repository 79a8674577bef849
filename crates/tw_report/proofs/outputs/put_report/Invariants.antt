use Rattle.tw_report.proofs.Names.{output_texts, take, ◌++◌, ◌≡◌}
use Rattle.tw_report.proofs.outputs.put_report.Given as goal

abbrev pub invariant-loop-number : goal.invariant-loop-number
invariant-loop-number g l = l.out.items ≡ l.fn.out.items ++ output_texts (g.T.ReportSource.live l.source) 0 (take l.number (g.T.ReportSource.ids l.source))
