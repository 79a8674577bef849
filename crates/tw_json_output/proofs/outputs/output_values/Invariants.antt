use Rattle.std.proofs.Common.{◌≡◌, map, take}
use Rattle.serde_json.specs.View.{view}
use Rattle.tw_json_output.specs.Outputs.{outputs_json}
use Rattle.tw_json_output.proofs.outputs.output_values.Given as goal

abbrev pub invariant-loop-id : goal.invariant-loop-id
invariant-loop-id g l = map view l.values.items ≡ outputs_json (g.T.ReportSource.live l.shown) (take l.id-index (g.T.ReportSource.ids l.shown))
