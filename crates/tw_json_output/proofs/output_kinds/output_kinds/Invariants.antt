use Rattle.std.proofs.Common.{◌≡◌, map, take}
use Rattle.serde_json.specs.View.{view}
use Rattle.tw_json_output.specs.Outputs.{kinds_json}
use Rattle.tw_json_output.proofs.output_kinds.output_kinds.Given as goal

abbrev pub invariant-loop-id : goal.invariant-loop-id
invariant-loop-id g l = map view l.kinds.items ≡ kinds_json (g.T.ReportSource.live l.shown) (take l.id-index (g.T.ReportSource.ids l.shown))
