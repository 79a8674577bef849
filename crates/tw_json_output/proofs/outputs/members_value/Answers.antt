use Rattle.std.proofs.Common.{◌∙◌, List, ap, sym, ℕ}
use Rattle.std.specs.FinMap.{entries}
use Rattle.serde_json.proofs.Views.{view-Object}
use Rattle.serde_json.specs.Data as json
use Rattle.serde_json.specs.View.{members_view, view}
use Rattle.tw_types.specs.StoreCalls.{members_in}
use Rattle.tw_report.proofs.Reports.{is_there}
use Rattle.tw_json_output.specs.Outputs.{key_of}
use Rattle.tw_json_output.proofs.Members.{all_members, one_member_more}
use Rattle.tw_json_output.proofs.outputs.members_value.Goals as goal

pub unreachable-requires : goal.unreachable-requires
unreachable-requires g c = is_there (g.T.ReportSource.live c.args.shown.now) (members_in c.args.container.now.datum.content) c.loop-index.index c.len-index-end.result c.len-index-end.ensures c.loop-index-test.true c.in_default.ensures

pub loop-index-preserved : goal.loop-index-preserved
loop-index-preserved g c =
    let old = members_view c.loop-index.members.entries in
    let value = view c.in_ok-value.value in
    let made = c.in_ok-put.ensures.ok
    ∙ ap (λ (k : List ℕ). json.put k value old) (c.as_str.ensures.value ∙ c.in_ok-key.ensures)
    ∙ ap (λ (d : json.Data). json.put (key_of c.in-Some.subscript.now) d old) c.in_ok-value.ensures in
    one_member_more (g.T.ReportSource.live c.args.shown.now) (entries (members_in c.args.container.now.datum.content)) c.loop-index.index _ old _ c.in-Some.ensures c.loop-index.invariant made

pub returns : goal.returns
returns g c =
    view-Object c.loop-index.members
    ∙ ap json.object (all_members (g.T.ReportSource.live c.args.shown.now) (members_in c.args.container.now.datum.content) c.loop-index.index c.len-index-end.result (members_view c.loop-index.members.entries) c.len-index-end.ensures c.loop-index-test.false c.loop-index.invariant)
