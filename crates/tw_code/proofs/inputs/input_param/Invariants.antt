use Rattle.std.proofs.Common.{◌≡◌, drop}
use Rattle.std.specs.Prelude.{slice_get}
use Rattle.tw_code.specs.machine.Inputs.{input_params}
use Rattle.tw_code.proofs.inputs.input_param.Given as goal

abbrev pub invariant-loop-param : goal.invariant-loop-param
invariant-loop-param l = slice_get (input_params l.params) l.fn.index ≡ slice_get (input_params (drop l.param-index l.params)) l.left
