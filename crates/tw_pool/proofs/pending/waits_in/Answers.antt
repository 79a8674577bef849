use Rattle.std.proofs.Common.{drop}
use Rattle.tw_pool.proofs.Pendings.{waits_end, waits_step}
use Rattle.tw_pool.proofs.pending.waits_in.Goals as goal

pub returns-in_default : goal.returns-in_default
returns-in_default c = waits_end (drop c.loop-stage.stage-index c.args.stages.now) c.loop-stage.rest.now c.loop-stage.ids.items _ c.in_default.ensures.cases c.loop-stage.invariant

pub loop-stage-preserved : goal.loop-stage-preserved
loop-stage-preserved c =
    waits_step c.args.stages.now c.loop-stage.stage-index _ c.loop-stage.rest.now c.in-Some.others.now c.in-Some.arg.now c.loop-stage.ids.items c.put_waited.new.ids.items _ c.loop-stage-test.true c.in-Some.ensures.cases.0
    c.in_ok-put_waited.ensures c.loop-stage.invariant
