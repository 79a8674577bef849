use Rattle.tw_report.proofs.Names.{entries, members_in}
use Rattle.tw_report.proofs.Reports.{all_members, is_there, one_member_more}
use Rattle.tw_report.proofs.outputs.put_member_lines.Goals as goal

pub unreachable-requires : goal.unreachable-requires
unreachable-requires g c = is_there (g.T.ReportSource.live c.args.source.now) (members_in c.args.container.now.datum.content) c.loop-index.index c.len-index-end.result c.len-index-end.ensures c.loop-index-test.true c.in_default.ensures

pub loop-index-preserved : goal.loop-index-preserved
loop-index-preserved g c =
    one_member_more (g.T.ReportSource.live c.args.source.now) (entries (members_in c.args.container.now.datum.content)) c.loop-index.index _ c.args.out.now.items c.loop-index.out.items
    c.put_member_line.new.out.items c.in-Some.ensures c.loop-index.invariant c.in_ok-put_member_line.ensures

pub returns : goal.returns
returns g c =
    all_members (g.T.ReportSource.live c.args.source.now) (members_in c.args.container.now.datum.content) c.loop-index.index c.len-index-end.result c.args.out.now.items c.loop-index.out.items c.len-index-end.ensures
    c.loop-index-test.false c.loop-index.invariant
