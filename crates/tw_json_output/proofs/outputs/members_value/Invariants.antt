use Rattle.std.proofs.Common.{◌≡◌, take}
use Rattle.std.specs.FinMap.{entries}
use Rattle.serde_json.specs.View.{members_view}
use Rattle.tw_types.specs.StoreCalls.{members_in}
use Rattle.tw_json_output.specs.Outputs.{members_json}
use Rattle.tw_json_output.proofs.outputs.members_value.Given as goal

abbrev pub invariant-loop-index : goal.invariant-loop-index
invariant-loop-index g l = members_view l.members.entries ≡ members_json (g.T.ReportSource.live l.shown) (take l.index (entries (members_in l.container.datum.content)))
