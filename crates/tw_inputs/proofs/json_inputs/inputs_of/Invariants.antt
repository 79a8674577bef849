use Rattle.std.proofs.Common.{map, take}
use Rattle.json.specs.Value.{value_view}
use Rattle.tw_inputs.specs.JsonInputs.{AreInputsFrom}
use Rattle.tw_inputs.proofs.json_inputs.inputs_of.Given as goal

abbrev pub invariant-loop-index : goal.invariant-loop-index
invariant-loop-index l = AreInputsFrom l.params 0 (map value_view (take l.index l.items)) l.inputs.items
