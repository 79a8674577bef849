use Rattle.tw_instr.proofs.Steps.{one_more}
use Rattle.tw_instr.proofs.local.count_local.Goals as goal

pub loop-steps-preserved : goal.loop-steps-preserved
loop-steps-preserved c = one_more c.loop-steps.steps c.args.code.now c.args.position.now c.loop-steps.position c.local_step.new.position c.loop-steps.invariant c.in-Ok.ensures
