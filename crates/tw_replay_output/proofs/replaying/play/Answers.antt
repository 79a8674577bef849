use Rattle.std.proofs.Common.{◌+◌, ◌*◌, arith}
use Rattle.tw_replay_output.proofs.ReplayNames.{opening_bound, reply}
use Rattle.tw_code.proofs.Growth.{below_more}
use Rattle.tw_replay_output.proofs.Playing.{not_made}
use Rattle.tw_replay_output.proofs.Replays.{at_end, at_first, at_next}
use Rattle.tw_replay_output.proofs.replaying.play.Goals as goal

pub step-requires-clause-small : goal.step-requires-clause-small
step-requires-clause-small c = below_more (opening_bound + 1000000000 * c.loop-index.index) _ _ (omega (arith, c.requires.few, c.loop-index-test.true)) c.loop-index.invariant.below

pub returns-in-Err : goal.returns-in-Err
returns-in-Err c =
    let r = c.in_ok-failed-in-Err.failed.reply in
    let at = c.loop-index.invariant in
    not_made c.args.first c.loop-index.replaying.plain c.args.events.now c.loop-index.index c.index-events-index.result c.in-Err.stopped (reply r.text.items r.close) (λ s. ⊥) at.stays c.loop-index-test.true c.index-events-index.is
    c.in-Err.ensures.steps.0 c.in_ok-failed-in-Err.ensures at.same at.runs

pub loop-index-init : goal.loop-index-init
loop-index-init c = at_first c.args.first c.args.events.now c.new-replaying.result c.new-replaying.ensures.plain c.requires.below c.new-replaying.ensures.begun

pub loop-index-preserved : goal.loop-index-preserved
loop-index-preserved c =
    let done = c.step.ensures in
    at_next c.args.first c.args.events.now c.loop-index.index c.index-events-index.result c.loop-index.replaying c.step.new.self c.loop-index-test.true c.index-events-index.is c.requires.sizes
    c.in-Ok.ensures.steps done.version done.program done.layout done.below c.in-Ok.ensures.noted c.loop-index.invariant

pub returns : goal.returns
returns c = at_end c.args.first c.args.events.now c.loop-index.index c.loop-index.replaying c.loop-index-test.false c.loop-index.invariant
