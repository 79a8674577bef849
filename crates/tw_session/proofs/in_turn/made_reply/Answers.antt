use Rattle.tw_session.proofs.SessionNames.{IfOk-weaker, RepliesToRun, IsRunMade, inl, may_be_stopped, reply, subst, sym, ◌∙◌}
use Rattle.tw_source.specs.declared.reply.Reply.{Reply as MadeReply}
use Rattle.tw_session.proofs.Ran.{left_over}
use Rattle.tw_session.proofs.in_turn.made_reply.Goals as goal

pub run_reply-requires-clause-over : goal.run_reply-requires-clause-over
run_reply-requires-clause-over c =
    let run = c.args.run in
    let made = subst (IsRunMade (may_be_stopped run.order.options) run) c.in-Ok.is c.requires.made in
    left_over run.verified run.order c.in-Ok.left c.cut-cut.result c.in-Some.closing made.1 c.cut-cut.ensures (sym c.closing.ensures ∙ c.in-Some.is)

pub returns-in-Some : goal.returns-in-Some
returns-in-Some c =
    let made = subst (IsRunMade (may_be_stopped c.args.run.order.options) c.args.run) c.in-Ok.is c.requires.made in
    IfOk-weaker _ _ (λ (r : MadeReply). RepliesToRun c.args.run (reply r.text.items r.close)) (λ r h. inl (made.0, inl h)) c.run_reply.ensures
