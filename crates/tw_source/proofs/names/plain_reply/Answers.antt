use Rattle.std.proofs.Common.{List, ℕ, inr, subst}
use Rattle.tw_source.proofs.ReplyNames.{IfOk-weaker, RepliesByPlain, Reply, reply}
use Rattle.tw_source.proofs.names.plain_reply.Goals as goal

pub returns-in-Ok : goal.returns-in-Ok
returns-in-Ok c = IfOk-weaker _ _ _ (λ (r : Reply) h. subst (λ (t : List ℕ). RepliesByPlain t (reply r.text.items r.close)) c.in-Ok.ensures.cases.0 h) c.text_plain_reply.ensures

pub returns-in-Err : goal.returns-in-Err
returns-in-Err c = IfOk-weaker _ _ _ (λ (r : Reply) h. inr (c.in-Err.ensures.cases.0, h)) c.not_utf8_reply.ensures
