use Rattle.tw_report.proofs.Names.{arg_of, drop}
use Rattle.tw_report.proofs.PendingRules.{waited_end, waited_step}
use Rattle.tw_report.proofs.pending.waited_for.Goals as goal

pub returns-in_default : goal.returns-in_default
returns-in_default c = waited_end arg_of (drop c.loop-stage.stage-index c.args.stages.now) c.loop-stage.rest.now c.loop-stage.ids.items _ c.in_default.ensures.cases c.loop-stage.invariant

pub loop-stage-preserved : goal.loop-stage-preserved
loop-stage-preserved c =
    waited_step arg_of c.args.stages.now c.loop-stage.stage-index _ c.loop-stage.rest.now c.in-Some.others.now c.in-Some.arg.now c.loop-stage.ids.items c.put_waited.new.ids.items _ c.loop-stage-test.true c.in-Some.ensures.cases.0
    c.in_ok-put_waited.ensures c.loop-stage.invariant
