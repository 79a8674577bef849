use Rattle.std.proofs.Common.{List, ℕ, ap, inl, inr, subst}
use Rattle.std.proofs.lemmas.Result.{IfOk-weaker}
use Rattle.tw_source.specs.Reply.{Reply, reply}
use Rattle.tw_source.specs.declared.reply.Reply.{Reply as MadeReply}
use Rattle.tw_session.specs.Clockless.{AnswersWords}
use Rattle.tw_calls.specs.SessionAnswers.{arguments_in, nul}
use Rattle.tw_calls.proofs.texts.reply_to.Goals as goal

pub returns-in-Ok : goal.returns-in-Ok
returns-in-Ok c =
    let words = c.in-Ok.ensures.cases in
    IfOk-weaker _ _ _
    (λ (r : MadeReply) answers. inl (words.1, subst (λ (ws : List ℕ). AnswersWords (arguments_in nul ws) c.args.input.now (reply r.text.items r.close)) words.0 answers)) c.answer.ensures

pub returns-in-Err : goal.returns-in-Err
returns-in-Err c =
    IfOk-weaker _ _ _
    (λ (r : MadeReply) fixed. inr (c.in-Err.ensures.cases.0, ap (λ (s : Reply). s.close) fixed, ap (λ (s : Reply). s.text) fixed)) c.fixed_reply.ensures
