use Rattle.std.proofs.Common.{◌≡◌, Some, map, take}
use Rattle.tw_inputs.specs.JsonInputs.{entry_of, member_in}
use Rattle.tw_inputs.proofs.json_members.unordered.Given as goal

abbrev pub invariant-loop-key : goal.invariant-loop-key
invariant-loop-key g l = map Some l.members.items ≡ map (λ m. member_in g.K.Part.of_key g.V.Part.of_value (entry_of m)) (take l.key-index l.object)
