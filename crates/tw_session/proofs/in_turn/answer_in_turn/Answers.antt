use Rattle.tw_session.proofs.SessionNames.{AnswersWords, Err, Given, IfOk, IfOk-weaker, MayReplyClockless, Ok, Order, alone, map, reply, string_bytes, subst}
use Rattle.tw_source.specs.declared.reply.Reply.{Reply as MadeReply}
use Rattle.tw_session.proofs.in_turn.answer_in_turn.Goals as goal

pub returns-in-Ok : goal.returns-in-Ok
returns-in-Ok c =
    let input = c.args.input.now in
    let replied = subst (λ (g : Given). IfOk c.reply_without_clock.result (λ r. MayReplyClockless c.in_turn.result g (reply r.text.items r.close))) c.alone.ensures c.reply_without_clock.ensures in
    IfOk-weaker _ _ (λ (r : MadeReply). AnswersWords (map string_bytes c.args.words.now) input (reply r.text.items r.close))
    (λ (r : MadeReply) h. (Ok c.in-Ok.order, c.in-Ok.ensures, subst (λ (o : Order). MayReplyClockless o (alone input) (reply r.text.items r.close)) c.in_turn.ensures h)) replied

pub returns-in-Err : goal.returns-in-Err
returns-in-Err c =
    IfOk-weaker _ _ (λ (r : MadeReply). AnswersWords (map string_bytes c.args.words.now) c.args.input.now (reply r.text.items r.close))
    (λ (r : MadeReply) h. (Err c.in-Err.no_order, c.in-Err.ensures, h)) c.unordered_reply.ensures
