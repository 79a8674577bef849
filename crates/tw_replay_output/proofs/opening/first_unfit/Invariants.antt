use Rattle.std.proofs.Common.{◌≡◌, true, take}
use Rattle.tw_code.specs.machine.Inputs.{has_fitting_inputs}
use Rattle.tw_replay_output.proofs.opening.first_unfit.Given as goal

-- this many inputs fit
abbrev pub invariant-loop-index : goal.invariant-loop-index
invariant-loop-index l = has_fitting_inputs l.program (take l.index l.inputs) ≡ true
