use Rattle.tw_program_output.proofs.ReplyNames.{IfOk-weaker, IsWritten, List, RepliesByText, Reply, inr, reply, subst, ℕ}
use Rattle.tw_program_output.proofs.assembled.written_reply.Goals as goal

pub returns-in-Ok : goal.returns-in-Ok
returns-in-Ok c =
    IfOk-weaker _ _ _ (λ (r : Reply) h. subst (λ (t : List ℕ). RepliesByText t IsWritten (reply r.text.items r.close)) c.in-Ok.ensures.cases.0 h) c.text_reply.ensures

pub returns-in-Err : goal.returns-in-Err
returns-in-Err c = IfOk-weaker _ _ _ (λ (r : Reply) h. inr (c.in-Err.ensures.cases.0, h)) c.not_utf8_reply.ensures
