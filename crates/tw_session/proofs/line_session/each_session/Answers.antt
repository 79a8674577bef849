use Rattle.tw_session.proofs.SessionNames.{EndsEach, Given, IfOk, List, MayReply, MayReplyTo, inl, inr, reply, subst, ℕ}
use Rattle.tw_session.proofs.Answering.{ends_with_reply}
use Rattle.tw_session.proofs.line_session.each_session.Goals as goal

pub returns-in-Each : goal.returns-in-Each
returns-in-Each g c =
    inl (
      c.in-Each.source,
      c.in-Each.order,
      c.in-Each.is,
      subst (λ (input : List ℕ). EndsEach c.in-Each.source c.in-Each.order input (g.R.Read.remaining c.args.reader.now) (g.R.Read.remaining c.answer_lines.new.reader) (g.W.Write.contents c.args.writer.now) (g.W.Write.contents c.answer_lines.new.writer) c.answer_lines.result) c.deref.ensures.value c.answer_lines.ensures,
    )

pub returns : goal.returns
returns g c =
    let wrote = c.write_reply.ensures in
    let input = c.args.program.items in
    let replied = subst (λ (i : List ℕ). IfOk c.reply_to.result (λ r. MayReply c.args.order i (reply r.text.items r.close))) c.deref-in_default.ensures.value
    (subst (λ (given : Given). IfOk c.reply_to.result (λ r. MayReplyTo c.args.order given (reply r.text.items r.close))) c.alone-given.ensures c.reply_to.ensures) in
    inr (ends_with_reply (MayReply c.args.order input) c.reply_to.result c.write_reply.result _ _ replied wrote.ended wrote.refused wrote.memory)
