use Rattle.tw_instr.proofs.Names.{arith, err_from_is_err_and}
use Rattle.tw_instr.proofs.Steps.{step_goes, step_stopped}
use Rattle.tw_instr.proofs.local.local_steps.Goals as goal

pub returns-in_err-local_step : goal.returns-in_err-local_step
returns-in_err-local_step c =
    let p = err_from_is_err_and c.from_residual.result c.from_residual.ensures.1 in
    rw (p.1, p.2) (step_stopped _ c.loop.counter c.args.code.now _ _ _ (omega arith) c.loop.invariant c.in_err-local_step.ensures.0)

pub loop-preserved : goal.loop-preserved
loop-preserved c = step_goes _ c.loop.counter c.args.code.now _ _ _ (omega arith) c.loop.invariant c.in_ok-local_step.ensures
