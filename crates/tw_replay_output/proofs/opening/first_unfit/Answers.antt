use Rattle.tw_code.specs.machine.Inputs.{input_params}
use Rattle.tw_code.specs.machine.Opening.{main_params}
use Rattle.tw_code.proofs.Givens.{none_fit}
use Rattle.tw_replay_output.proofs.opening.first_unfit.Goals as goal

pub loop-index-init : goal.loop-index-init
loop-index-init c = none_fit (input_params (main_params c.args.program.now))
