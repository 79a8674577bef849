use Rattle.tw_session.proofs.SessionNames.{IfOk-weaker, reply, seen_given, sym, ◌∙◌}
use Rattle.tw_source.specs.declared.reply.Reply.{Reply as MadeReply}
use Rattle.tw_session.proofs.Clockless.{timed, untimed}
use Rattle.tw_session.proofs.in_turn.reply_without_clock.Goals as goal

pub returns-then-limits_time : goal.returns-then-limits_time
returns-then-limits_time c =
    IfOk-weaker _ _ _ (λ (r : MadeReply) made. timed c.args.order (seen_given c.args.given) (reply r.text.items r.close) (sym c.limits_time.ensures ∙ c.if-limits_time.true) made) c.clockless_reply.ensures

pub returns : goal.returns
returns c =
    IfOk-weaker _ _ _ (λ (r : MadeReply) made. untimed c.args.order (seen_given c.args.given) (reply r.text.items r.close) (sym c.limits_time.ensures ∙ c.if-limits_time.false) made) c.reply_in_turn.ensures
