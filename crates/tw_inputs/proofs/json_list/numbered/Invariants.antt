use Rattle.std.proofs.Common.{◌≡◌, Some, map, take}
use Rattle.json.specs.Value.{value_view}
use Rattle.tw_inputs.specs.JsonInputs.{numbered}
use Rattle.tw_inputs.proofs.json_list.numbered.Given as goal

abbrev pub invariant-loop-index : goal.invariant-loop-index
invariant-loop-index g l = map Some l.values.items ≡ numbered g.V.Part.of_value 0 (map value_view (take l.index l.items))
