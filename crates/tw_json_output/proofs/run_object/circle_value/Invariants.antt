use Rattle.std.proofs.Common.{◌≡◌, map, take}
use Rattle.serde_json.specs.View.{view}
use Rattle.tw_json_output.specs.Run.{link_json}
use Rattle.tw_json_output.proofs.run_object.circle_value.Given as goal

abbrev pub invariant-loop-link : goal.invariant-loop-link
invariant-loop-link l = map view l.values.items ≡ map link_json (take l.link-index l.links)
