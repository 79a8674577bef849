use Rattle.std.proofs.Common.{◌≡◌, ◌∙◌, ap, subst}
use Rattle.tw_order.specs.declared.runs.Answer.TheVariants.{Json}
use Rattle.tw_replay_output.proofs.ReplayNames.{IfOk-weaker, IsAnswerFrom, IsPlayed, PlainView, Reply, played_from, reply, run}
use Rattle.tw_replay_output.specs.Replay.{shown_state}
use Rattle.tw_replay_output.proofs.Behinds.{from_stopped, json_from, otherwise}
use Rattle.tw_replay_output.proofs.Playing.{by_went}
use Rattle.tw_replay_output.proofs.state_json.json_reply.Goals as goal

pub returns-in-Ok : goal.returns-in-Ok
returns-in-Ok c =
    let first = c.args.first in
    let events = c.args.events.now in
    let at = c.in-Ok.replaying.plain in
    let made = subst (IsPlayed first events) c.in-Ok.is c.in_ok-replaying.ensures in
    let whole = run first.program first.layout events first.state in
    IfOk-weaker c.shown_state.result (λ (r : Reply). reply r.text.items r.close ≡ shown_state at.program events at.state) (λ (r : Reply). IsAnswerFrom c.args.source.now Json first events (reply r.text.items r.close))
    (λ (r : Reply) h. json_from c.args.source.now first events (reply r.text.items r.close)
    (by_went whole at.state (λ s. reply r.text.items r.close ≡ shown_state first.program events s) (reply r.text.items r.close ≡ played_from first events) made.reaches (h ∙ ap (λ (v : PlainView). shown_state v.program events at.state) made.stays))) c.shown_state.ensures

pub returns-in-Err : goal.returns-in-Err
returns-in-Err c =
    let first = c.args.first in
    let events = c.args.events.now in
    let failed = c.in-Err.failed.reply in
    let a = reply failed.text.items failed.close in
    let stopped = subst (IsPlayed first events) c.in-Err.is c.in_ok-replaying.ensures in
    IfOk-weaker _ _ _
    (λ (r : Reply) added. from_stopped c.args.source.now Json first events (reply r.text.items r.close) (a ≡ played_from first events) a tt
    (otherwise (run first.program first.layout events first.state) (λ s. a ≡ shown_state first.program events s) (a ≡ played_from first events) stopped) stopped added) c.with_reason.ensures
