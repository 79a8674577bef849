use Rattle.tw_session.proofs.SessionNames.{Awaits, IfOk-weaker, MayReplyOn, Prepared, reply, seen, subst}
use Rattle.tw_source.specs.declared.reply.Reply.{Reply}
use Rattle.tw_session.proofs.order.text_in_turn.Goals as goal

pub reply_single_threaded-requires : goal.reply_single_threaded-requires
reply_single_threaded-requires c =
    let run = subst (λ (p : Prepared). Awaits (MayReplyOn c.args.order (seen c.args.parts)) p) c.in-Ok-Run.field-0-is c.in-Ok-Run.ensures in
    run.0

pub returns-in-Ok-Finished : goal.returns-in-Ok-Finished
returns-in-Ok-Finished c = subst (λ (p : Prepared). Awaits (MayReplyOn c.args.order (seen c.args.parts)) p) c.in-Ok-Finished.field-0-is c.in-Ok-Finished.ensures

pub returns-in-Ok-Run : goal.returns-in-Ok-Run
returns-in-Ok-Run c =
    let run = subst (λ (p : Prepared). Awaits (MayReplyOn c.args.order (seen c.args.parts)) p) c.in-Ok-Run.field-0-is c.in-Ok-Run.ensures in
    IfOk-weaker _ _ _ (λ (r : Reply) h. run.1 (reply r.text.items r.close) h) c.reply_single_threaded.ensures

pub returns-in-Ok-Lines : goal.returns-in-Ok-Lines
returns-in-Ok-Lines c =
    let lines = subst (λ (p : Prepared). Awaits (MayReplyOn c.args.order (seen c.args.parts)) p) c.in-Ok-Lines.field-0-is c.in-Ok-Lines.ensures in
    IfOk-weaker _ _ _ (λ (r : Reply) h. lines (reply r.text.items r.close) h) c.each_reply_in_turn.ensures
