use Rattle.std.proofs.Common.{map, take}
use Rattle.tw_inputs.specs.InputWords.{AreEncoded}
use Rattle.tw_inputs.proofs.words.inputs_of.Given as goal

abbrev pub invariant-loop-index : goal.invariant-loop-index
invariant-loop-index l = AreEncoded l.inputs.items (take l.index (map (λ word. word.now) l.words))
