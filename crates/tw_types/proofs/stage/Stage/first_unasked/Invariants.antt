use Rattle.std.proofs.Common.{◌≡◌, drop}
use Rattle.tw_types.specs.Rule.{first_unasked}
use Rattle.tw_types.proofs.stage.Stage.first_unasked.Given as goal

abbrev pub invariant-loop-stage : goal.invariant-loop-stage
invariant-loop-stage l = record {
  seen : first_unasked 0 l.stages ≡ first_unasked l.parameter (drop l.stage-index l.stages);
  count : l.parameter ≡ l.stage-index;
}
