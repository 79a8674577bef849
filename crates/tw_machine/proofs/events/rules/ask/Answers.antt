use Rattle.tw_machine.proofs.Names.{frames_of, refl, sym, with_frames, with_tables, ◌∙◌}
use Rattle.tw_machine.proofs.Pending.{ask_other, ask_settled, ask_freed, asks_open, closed_asked, open_asked}
use Rattle.tw_machine.proofs.events.rules.ask.Goals as goal

pub returns-in_default-clause-asks : goal.returns-in_default-clause-asks
returns-in_default-clause-asks c = λ s.
    let old = with_frames (with_tables s c.args.tables.now) (frames_of c.args.frames.now.entries) in
    (ask_other c.args.engine c.args.number old c.args.parameter (c.in_default.ensures s), refl)

pub returns-in_default-unasked_id-clause-asks : goal.returns-in_default-unasked_id-clause-asks
returns-in_default-unasked_id-clause-asks c = λ s.
    let old = with_frames (with_tables s c.args.tables.now) (frames_of c.args.frames.now.entries) in
    (ask_settled c.args.engine c.args.number old c.args.parameter c.in-Some.rule.now (c.in-Some.ensures s) (sym c.in_default-unasked_id.ensures), refl)

pub returns-in_default-datum-clause-asks : goal.returns-in_default-datum-clause-asks
returns-in_default-datum-clause-asks c = λ s.
    let old = with_frames (with_tables s c.args.tables.now) (frames_of c.args.frames.now.entries) in
    (ask_freed c.args.engine c.args.number old c.args.parameter c.in-Some.rule.now (c.in-Some.ensures s) c.in-Some-unasked_id.id (sym c.in-Some-unasked_id.ensures) (sym c.in_default-datum.ensures), refl)

pub returns-then-closed-clause-asks : goal.returns-then-closed-clause-asks
returns-then-closed-clause-asks c = λ s.
    closed_asked c.args.engine c.args.number s c.args.tables.now (frames_of c.args.frames.now.entries) c.in-Some.rule.now (c.in-Some.ensures s) c.args.parameter c.in-Some-unasked_id.id (sym c.in-Some-unasked_id.ensures) c.in-Some-datum.datum.now.datum (sym c.in-Some-datum.ensures)
    c.set_stage.new.self (sym c.closed.ensures ∙ c.if-closed.true) c.set_stage.ensures

pub returns-in_ok-subscribe-clause-asks : goal.returns-in_ok-subscribe-clause-asks
returns-in_ok-subscribe-clause-asks c = λ s.
    open_asked c.args.engine c.args.number s c.args.tables.now (frames_of c.args.frames.now.entries) c.in-Some.rule.now (c.in-Some.ensures s) c.args.parameter c.in-Some-unasked_id.id (sym c.in-Some-unasked_id.ensures) c.in-Some-datum.datum.now.datum (sym c.in-Some-datum.ensures)
    c.subscribe.new.self c.set_stage-else-closed.new.self (sym c.closed.ensures ∙ c.if-closed.false) c.in_ok-subscribe.ensures.noted c.set_stage-else-closed.ensures

pub returns-in_err-subscribe-clause-memory : goal.returns-in_err-subscribe-clause-memory
returns-in_err-subscribe-clause-memory c = λ is s.
    asks_open c.args.engine c.args.number s c.args.tables.now (frames_of c.args.frames.now.entries) c.in-Some.rule.now (c.in-Some.ensures s) c.args.parameter c.in-Some-unasked_id.id (sym c.in-Some-unasked_id.ensures) c.in-Some-datum.datum.now.datum (sym c.in-Some-datum.ensures)
    (sym c.closed.ensures ∙ c.if-closed.false)
