use Rattle.std.proofs.Common.{◌≡◌, take}
use Rattle.std.specs.FinMap.{entries}
use Rattle.serde_json.specs.View.{members_view}
use Rattle.tw_types.specs.StoreCalls.{entries_in}
use Rattle.tw_json_output.specs.Outputs.{values_json}
use Rattle.tw_json_output.proofs.outputs.values_value.Given as goal

abbrev pub invariant-loop-index : goal.invariant-loop-index
invariant-loop-index g l = members_view l.values.entries ≡ values_json (take l.index (entries (entries_in l.map.datum.content)))
