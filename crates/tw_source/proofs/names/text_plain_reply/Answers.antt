use Rattle.std.proofs.Common.{inl, inr}
use Rattle.tw_source.proofs.ReplyNames.{IfOk-weaker, Reply}
use Rattle.tw_source.proofs.Plains.{plain_is}
use Rattle.tw_source.proofs.names.text_plain_reply.Goals as goal

pub returns-in-Ok : goal.returns-in-Ok
returns-in-Ok c =
    let read = c.in-Ok.read in
    let expands = plain_is c.args.text.now c.plain_in.result.now read.source read.program.procedures c.in-Ok.ensures.text c.in-Ok.ensures.source c.plain_in.ensures in
    IfOk-weaker _ _ _ (λ (r : Reply) h. inl (c.utf8.text, inl (c.plain_in.result.now, inl expands, h))) c.fixed_reply.ensures

pub returns-in-Err-Text : goal.returns-in-Err-Text
returns-in-Err-Text c =
    let none = (rw c.in-Err-Text.field-0-is at c.in-Err-Text.ensures.none) (λ e. absurd cc) c.utf8.text in
    IfOk-weaker _ _ _ (λ (r : Reply) h. inl (c.utf8.text, inl (c.plain.result.now, inr (c.in-Err-Text.faulty, none.1, c.plain.ensures), h))) c.fixed_reply-in-Err-Text.ensures

pub returns-in-Err : goal.returns-in-Err
returns-in-Err c = IfOk-weaker _ _ _ (λ (r : Reply) h. inl (c.utf8.text, inr (c.in-Err.why, c.in-Err.ensures.none h.0 c.utf8.text, h.1))) c.parse_error_reply.ensures
