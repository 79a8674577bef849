use Rattle.std.proofs.Common.{◌≡◌, drop}
use Rattle.tw_code.specs.machine.Inputs.{are_inputs_of, input_params}
use Rattle.tw_code.proofs.inputs.are_inputs_of.Given as goal

abbrev pub invariant-loop-param : goal.invariant-loop-param
invariant-loop-param l = are_inputs_of (input_params l.params) l.fn.inputs ≡ are_inputs_of (input_params (drop l.param-index l.params)) l.rest
