use Rattle.std.proofs.Common.{◌≡◌, ◌∙◌, subst}
use Rattle.tw_replay_output.proofs.ReplayNames.{IfOk-weaker, IsPlayed, Reply, played_from, reply, run}
use Rattle.tw_order.specs.declared.runs.Answer.TheVariants.{Report}
use Rattle.tw_replay_output.proofs.Behinds.{from_reached, from_stopped, stopped_is}
use Rattle.tw_replay_output.proofs.replay.report_reply.Goals as goal

pub returns-in_ok-answered-in-Ok : goal.returns-in_ok-answered-in-Ok
returns-in_ok-answered-in-Ok c =
    let first = c.args.first in
    let events = c.args.events.now in
    let answered = reply c.in_ok-answered-in-Ok.answered.text.items c.in_ok-answered-in-Ok.answered.close in
    let all = subst (IsPlayed first events) c.in-Ok.is c.in_ok-replaying.ensures in
    IfOk-weaker _ _ _
    (λ (r : Reply) added. from_reached c.args.source.now Report first events (reply r.text.items r.close) c.in-Ok.replaying answered tt all (c.in_ok-answered-in-Ok.ensures ∙ all.replies) added) c.with_details.ensures

pub returns-in-Err : goal.returns-in-Err
returns-in-Err c =
    let first = c.args.first in
    let events = c.args.events.now in
    let failed = c.in-Err.failed.reply in
    let a = reply failed.text.items failed.close in
    let stopped = subst (IsPlayed first events) c.in-Err.is c.in_ok-replaying.ensures in
    IfOk-weaker _ _ _
    (λ (r : Reply) added. from_stopped c.args.source.now Report first events (reply r.text.items r.close) (a ≡ played_from first events) a tt (stopped_is (run first.program first.layout events first.state) (a ≡ played_from first events) stopped) stopped added) c.with_reason.ensures
