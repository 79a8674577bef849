use Rattle.tw_session.proofs.SessionNames.{Awaits, IfOk-weaker, MayReplyOn, Prepared, reply, rules, seen, subst}
use Rattle.tw_source.specs.declared.reply.Reply.{Reply}
use Rattle.tw_session.proofs.order.text_reply.Goals as goal

pub run_as_ordered-requires : goal.run_as_ordered-requires
run_as_ordered-requires g c =
    let run = subst (λ (p : Prepared). Awaits (MayReplyOn c.args.order (seen c.args.parts)) p) c.in-Ok-Run.field-0-is c.in-Ok-Run.ensures in
    (search rules, (search rules, run.0))

pub returns-in-Ok-Finished : goal.returns-in-Ok-Finished
returns-in-Ok-Finished g c = subst (λ (p : Prepared). Awaits (MayReplyOn c.args.order (seen c.args.parts)) p) c.in-Ok-Finished.field-0-is c.in-Ok-Finished.ensures

pub returns-in-Ok-Run : goal.returns-in-Ok-Run
returns-in-Ok-Run g c =
    let run = subst (λ (p : Prepared). Awaits (MayReplyOn c.args.order (seen c.args.parts)) p) c.in-Ok-Run.field-0-is c.in-Ok-Run.ensures in
    IfOk-weaker _ _ _ (λ (r : Reply) h. run.1 (reply r.text.items r.close) h) c.run_as_ordered.ensures

pub returns-in-Ok-Lines : goal.returns-in-Ok-Lines
returns-in-Ok-Lines g c =
    let lines = subst (λ (p : Prepared). Awaits (MayReplyOn c.args.order (seen c.args.parts)) p) c.in-Ok-Lines.field-0-is c.in-Ok-Lines.ensures in
    IfOk-weaker _ _ _ (λ (r : Reply) h. lines (reply r.text.items r.close) h) c.lines_reply.ensures
