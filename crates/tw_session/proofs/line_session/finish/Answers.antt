use Rattle.tw_session.proofs.SessionNames.{Err, NoMemory, Ok, Reply, Result, StreamError, Streamed, Streams, WriteFailed, ap, inl, refl, reply, subst, ◌∙◌, ◌≡◌}
use Rattle.std.specs.declared.alloc.AllocError.{AllocError}
use Rattle.tw_session.proofs.Answering.{ends_with_reply, no_reply}
use Rattle.tw_session.proofs.Ending.{out_of_memory, rejected, unread}
use Rattle.tw_session.proofs.line_session.finish.Goals as goal

pub returns-in-Ok-Answered : goal.returns-in-Ok-Answered
returns-in-Ok-Answered g c source order input from left old s =
    inl (c.in-Ok-Answered.worst, c.close_of.ensures, subst (λ (x : Result Streamed StreamError). Streams source order input from left old (g.W.Write.contents c.args.writer.now) x) (c.in-Ok-Answered.is ∙ ap Ok c.in-Ok-Answered.field-0-is) s)

pub returns-in-Ok-Rejected : goal.returns-in-Ok-Rejected
returns-in-Ok-Rejected g c source order input from left old s =
    let r = c.in-Ok-Rejected.reply in
    let wrote = c.write_reply.ensures in
    rejected source order input from left old (g.W.Write.contents c.args.writer.now) _ r c.write_reply.result
    (subst (λ (x : Result Streamed StreamError). Streams source order input from left old (g.W.Write.contents c.args.writer.now) x) (c.in-Ok-Rejected.is ∙ ap Ok c.in-Ok-Rejected.field-0-is) s)
    (ends_with_reply {E = AllocError} (λ (made : Reply). made ≡ reply r.text.items r.close) (Ok r) c.write_reply.result _ _ refl wrote.ended wrote.refused wrote.memory)

pub returns-in-Read : goal.returns-in-Read
returns-in-Read g c source order input from left old s =
    unread source order input from left old _ (subst (λ (x : Result Streamed StreamError). Streams source order input from left old (g.W.Write.contents c.args.writer.now) x) (c.in-Err.is ∙ ap Err c.in-Read.is) s)

pub returns-in-NoMemory : goal.returns-in-NoMemory
returns-in-NoMemory g c source order input from left old s =
    let wrote = c.write_memory.ensures in
    out_of_memory source order input from left old (g.W.Write.contents c.args.writer.now) _ c.write_memory.result
    (subst (λ (x : Result Streamed StreamError). Streams source order input from left old (g.W.Write.contents c.args.writer.now) x) (c.in-Err.is ∙ ap Err c.in-NoMemory.is) s)
    (no_reply (λ (made : Reply). ⊥) c.write_memory.result _ _ wrote.status (λ e. wrote.text (λ f. never e f)))
  where
    never : c.write_memory.result ≡ NoMemory → c.write_memory.result ≡ WriteFailed → ⊥
    never e f = cc
