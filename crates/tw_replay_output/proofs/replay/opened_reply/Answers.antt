use Rattle.std.proofs.Common.{◌≡◌, List, None, ap, subst, sym}
use Rattle.tw_replay_output.proofs.ReplayNames.{IfOk-weaker, Input, IsAnswer, IsAnswered, IsDetailed, IsFirstError, IsOpened, PlainView, Reply, Spoken, Versioned, rejection_of, reply, start_of, text_of}
use Rattle.tw_replay_output.proofs.Behinds.{IsUnopened}
use Rattle.tw_replay_output.proofs.Playing.{opened_answer, opened_is, refused_answer}
use Rattle.tw_replay_output.proofs.replay.opened_reply.Goals as goal

pub returns-in-Ok : goal.returns-in-Ok
returns-in-Ok c =
    let order = c.args.order.now in
    let program = c.args.program in
    let events = c.args.events.now in
    let text = text_of c.args.source.now in
    let start = start_of order program in
    let none : rejection_of program.procedures order.inputs ≡ None = subst (λ (given : List Input). rejection_of program.procedures given ≡ None) c.as_slice.ensures c.in-Ok.ensures.asked in
    let here = opened_is order program c.as_slice.result.now c.in-Ok.plain c.as_slice.ensures c.in-Ok.ensures.opened in
    let begins : IsOpened start c.in-Ok.plain = record { program = ap (λ (v : PlainView). v.program) here; layout = ap (λ (v : PlainView). v.layout) here; state = ap (λ (v : PlainView). v.state) here } in
    IfOk-weaker _ _ _
    (λ (r : Reply) h.
    let spoken = reply r.text.items r.close in
    let detailed = subst (λ (v : PlainView). IsDetailed (λ (a : Spoken). IsAnswer order.answer v events a) text order.answer start events spoken) here (h start begins c.requires.source) in
    opened_answer text order program events spoken none detailed) c.answer_of.ensures

pub returns-in-Err : goal.returns-in-Err
returns-in-Err c =
    let order = c.args.order.now in
    let program = c.args.program in
    let text = text_of c.args.source.now in
    let why = c.in-Err.refused.no in
    let asked = subst (λ (given : List Input). IsFirstError (rejection_of program.procedures given) why) c.as_slice.ensures c.in-Err.ensures.asked in
    IfOk-weaker _ _ _
    (λ (r : Reply) h. refused_answer text program.procedures order.inputs (rejection_of program.procedures order.inputs) why (IsAnswered text order program c.args.events.now (reply r.text.items r.close)) (reply r.text.items r.close) asked h.0
    (subst (λ (p : Versioned). IsUnopened text p.procedures order.inputs why (reply r.text.items r.close)) c.in-Err.ensures.back h.1)) c.unopened_reply.ensures
