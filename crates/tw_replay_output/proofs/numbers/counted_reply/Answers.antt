use Rattle.std.proofs.Common.{◌≡◌, ap, sym, subst}
use Rattle.tw_replay_output.proofs.ReplayNames.{IfOk-weaker, IsCounted, IsCounting, IsNumbered, PlainView, Reply, played_from, reply, run}
use Rattle.tw_order.specs.declared.runs.Answer.TheVariants.{Numbers}
use Rattle.tw_replay_output.proofs.Behinds.{from_reached, from_stopped, otherwise}
use Rattle.tw_replay_output.proofs.Playing.{by_went}
use Rattle.tw_replay_output.proofs.numbers.counted_reply.Goals as goal

pub returns-in_ok-answered-in-Ok : goal.returns-in_ok-answered-in-Ok
returns-in_ok-answered-in-Ok c =
    let first = c.args.first in
    let events = c.args.events.now in
    let replaying = c.in-Ok.counted.replaying in
    let answered = reply c.in_ok-answered-in-Ok.answered.text.items c.in_ok-answered-in-Ok.answered.close in
    let made = subst (IsCounting first events) c.in-Ok.is c.in_ok-counted.ensures in
    let counted : IsCounted first events answered =
    by_went (run first.program first.layout events first.state) replaying.plain.state (λ s. IsNumbered first.program s answered) (answered ≡ played_from first events) made.0.reaches (subst (λ (v : PlainView). IsNumbered v.program replaying.plain.state answered) made.0.stays c.in_ok-answered-in-Ok.ensures) in
    IfOk-weaker _ _ _ (λ (r : Reply) added. from_reached c.args.source.now Numbers first events (reply r.text.items r.close) replaying answered tt made.0 counted added) c.with_details.ensures

pub returns-in-Err : goal.returns-in-Err
returns-in-Err c =
    let first = c.args.first in
    let events = c.args.events.now in
    let failed = c.in-Err.failed.reply in
    let a = reply failed.text.items failed.close in
    let stopped = subst (IsCounting first events) c.in-Err.is c.in_ok-counted.ensures in
    IfOk-weaker _ _ _
    (λ (r : Reply) added. from_stopped c.args.source.now Numbers first events (reply r.text.items r.close) (a ≡ played_from first events) a tt
    (otherwise (run first.program first.layout events first.state) (λ s. IsNumbered first.program s a) (a ≡ played_from first events) stopped) stopped added) c.with_reason.ensures
