use Rattle.tw_report.proofs.Reports.{one_output_more}
use Rattle.tw_report.proofs.outputs.put_report.Goals as goal

pub loop-number-preserved : goal.loop-number-preserved
loop-number-preserved g c =
    one_output_more (g.T.ReportSource.live c.args.source.now) (g.T.ReportSource.ids c.args.source.now) c.loop-number.number c.id-item.result c.args.out.now.items c.loop-number.out.items c.put_output.new.out.items
    (rw (← c.outputs-id-items.ensures) c.loop-number-test.true) (rw (← c.outputs-id-items.ensures) c.id-item.is) c.loop-number.invariant c.in_ok-put_output.ensures
