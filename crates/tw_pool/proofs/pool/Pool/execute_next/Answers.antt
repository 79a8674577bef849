use Rattle.tw_pool.proofs.Names.{Call, Issues, OrNoMemory, PoolView, Some, [], ap, arith, inr, refl, steps_of, sym, ◌++◌, ◌∙◌, ◌∷◌, ◌≡◌}
use Rattle.tw_pool.specs.declared.answer.Turn.TheVariants as answer
use Rattle.tw_pool.proofs.Freely as free
use Rattle.tw_pool.proofs.Handing as hand
use Rattle.tw_pool.proofs.Turning as turning
use Rattle.tw_pool.proofs.pool.Pool.execute_next.Goals as goal

pub returns-then-is_ret : goal.returns-then-is_ret
returns-then-is_ret c = turning.past_ret c.args.self.now _ c.args.actor c.args.done _ c.instr_at-instr.result.now (turning.after_is c.args.self.now _ c.args.done c.instr_at-instr.result.now c.procedure.result c.after_place.result (ap (λ (x : PoolView). x.program.program) (sym c.self.view_is)) (c.procedure.ensures ∙ ap (λ j. j.procedure) c.before-2.ensures) c.after_place.ensures c.instr_at-instr.ensures) c.if-is_ret.ensures c.end.ensures

pub event_of-event-requires : goal.event_of-event-requires
event_of-event-requires c = record { owed = hand.owed_some _ _ _ c.self.inside.stopped c.self.inside.history c.self.inside.parts c.self.invariant c.args.self.now c.self.view_is c.args.actor c.requires.actor c.requires.room c.args.done c.requires.owed }

pub count_after-event_no-requires : goal.count_after-event_no-requires
count_after-event_no-requires c = record { place = hand.has_slot _ _ _ c.self.inside.stopped c.self.inside.history c.self.inside.parts c.self.invariant c.args.self.now c.self.view_is c.args.actor c.requires.actor c.requires.room c.args.done c.requires.owed; few = omega (arith, c.self.invariant.within, c.self.invariant.few) }

pub call-requires-clause-fits_place : goal.call-requires-clause-fits_place
call-requires-clause-fits_place c =
    let at = turning.after_is c.args.self.now _ c.args.done c.instr_at-instr.result.now c.procedure.result c.after_place.result (ap (λ (x : PoolView). x.program.program) (sym c.self.view_is)) (c.procedure.ensures ∙ ap (λ j. j.procedure) c.before-2.ensures) c.after_place.ensures c.instr_at-instr.ensures in
    hand.fits_place _ _ _ c.self.inside.stopped c.self.inside.history c.self.inside.parts c.self.invariant c.args.self.now c.self.view_is c.args.actor c.requires.actor c.requires.room c.args.done c.requires.owed c.event_of-event.result (hand.has_come _ _ _ c.self.inside.stopped c.self.inside.history c.self.inside.parts c.self.invariant c.args.self.now c.self.view_is c.args.actor c.requires.actor c.requires.room c.args.done c.requires.owed c.steps-steps.ensures.done.few c.event_of-event.result c.event_of-event.ensures) c.instr_at-instr.result.now at

pub call-requires-clause-not_local : goal.call-requires-clause-not_local
call-requires-clause-not_local c =
    let at = turning.after_is c.args.self.now _ c.args.done c.instr_at-instr.result.now c.procedure.result c.after_place.result (ap (λ (x : PoolView). x.program.program) (sym c.self.view_is)) (c.procedure.ensures ∙ ap (λ j. j.procedure) c.before-2.ensures) c.after_place.ensures c.instr_at-instr.ensures in
    turning.not_local c.args.self.now _ c.args.done c.instr_at-instr.result.now refl c.requires.program c.steps-steps.ensures.done (sym c.requires.whole) at

pub invariant_of-self : goal.invariant_of-self
invariant_of-self c = free.kept_still _ _ _ c.self.inside.stopped c.self.inside.history c.self.inside.parts c.self.invariant c.args.self.now c.self.view_is c.call.new.self c.in-Err.ensures.refused

pub returns-in-Err : goal.returns-in-Err
returns-in-Err c =
    let at = turning.after_is c.args.self.now _ c.args.done c.instr_at-instr.result.now c.procedure.result c.after_place.result (ap (λ (x : PoolView). x.program.program) (sym c.self.view_is)) (c.procedure.ensures ∙ ap (λ j. j.procedure) c.before-2.ensures) c.after_place.ensures c.instr_at-instr.ensures in
    turning.past_call c.args.self.now _ c.args.actor c.args.done _ c.instr_at-instr.result.now at
    (turning.not_local c.args.self.now _ c.args.done c.instr_at-instr.result.now refl c.requires.program c.steps-steps.ensures.done (sym c.requires.whole) at) c.if-is_ret.ensures
    (free.line_still _ _ _ c.self.inside.stopped c.self.inside.history c.self.inside.parts c.self.invariant c.args.self.now c.self.view_is (λ s. OrNoMemory c.args.self.now (Some c.args.done) (steps_of c.args.actor c.args.done) (Call c.args.actor) (Issues c.args.self.now c.args.actor ((steps_of c.args.actor c.args.done) ++ Call c.args.actor ∷ []))) (answer.NoMemory (Some c.in-Err.done)) (inr (hand.wanted _ _ _ c.self.inside.stopped c.self.inside.history c.self.inside.parts c.self.invariant c.args.self.now c.self.view_is c.args.actor c.requires.actor c.requires.room c.args.done c.requires.owed c.event_of-event.result (hand.has_come _ _ _ c.self.inside.stopped c.self.inside.history c.self.inside.parts c.self.invariant c.args.self.now c.self.view_is c.args.actor c.requires.actor c.requires.room c.args.done c.requires.owed c.steps-steps.ensures.done.few c.event_of-event.result c.event_of-event.ensures) c.instr_at-instr.result.now at c.in-Err.ensures.memory, (ap (λ x. answer.NoMemory (Some x)) c.in-Err.ensures.back, refl))))

pub invariant_of-self-2 : goal.invariant_of-self-2
invariant_of-self-2 c = hand.kept_called _ _ _ c.self.inside.stopped c.self.inside.history c.self.inside.parts c.self.invariant c.args.self.now c.self.view_is c.args.actor c.requires.actor c.requires.room c.args.done c.requires.owed c.event_of-event.result (hand.has_come _ _ _ c.self.inside.stopped c.self.inside.history c.self.inside.parts c.self.invariant c.args.self.now c.self.view_is c.args.actor c.requires.actor c.requires.room c.args.done c.requires.owed c.steps-steps.ensures.done.few c.event_of-event.result c.event_of-event.ensures) (hand.room_two _ _ _ c.self.inside.stopped c.self.inside.history c.self.inside.parts c.self.invariant c.args.self.now c.self.view_is c.args.actor c.requires.actor c.requires.room c.args.done c.requires.owed c.requires.fits c.event_of-event.result c.event_of-event.ensures) c.record_event.new.history c.push.new.self c.record_event.ensures c.push.ensures c.count_after-event_no.result c.count_after-event_no.ensures c.call.new.self c.in-Ok.ensures.called c.in-Ok.job c.in-Ok.ensures.lent

pub returns : goal.returns
returns c =
    let at = turning.after_is c.args.self.now _ c.args.done c.instr_at-instr.result.now c.procedure.result c.after_place.result (ap (λ (x : PoolView). x.program.program) (sym c.self.view_is)) (c.procedure.ensures ∙ ap (λ j. j.procedure) c.before-2.ensures) c.after_place.ensures c.instr_at-instr.ensures in
    turning.past_call c.args.self.now _ c.args.actor c.args.done _ c.instr_at-instr.result.now at
    (turning.not_local c.args.self.now _ c.args.done c.instr_at-instr.result.now refl c.requires.program c.steps-steps.ensures.done (sym c.requires.whole) at) c.if-is_ret.ensures
    (hand.or_memory c.args.self.now (Issues c.args.self.now c.args.actor ((steps_of c.args.actor c.args.done) ++ Call c.args.actor ∷ [])) (Some c.args.done) (steps_of c.args.actor c.args.done) (Call c.args.actor) _ _ (answer.Run c.in-Ok.job) (hand.line_called _ _ _ c.self.inside.stopped c.self.inside.history c.self.inside.parts c.self.invariant c.args.self.now c.self.view_is c.args.actor c.requires.actor c.requires.room c.args.done c.requires.owed c.event_of-event.result (hand.has_come _ _ _ c.self.inside.stopped c.self.inside.history c.self.inside.parts c.self.invariant c.args.self.now c.self.view_is c.args.actor c.requires.actor c.requires.room c.args.done c.requires.owed c.steps-steps.ensures.done.few c.event_of-event.result c.event_of-event.ensures) (hand.room_two _ _ _ c.self.inside.stopped c.self.inside.history c.self.inside.parts c.self.invariant c.args.self.now c.self.view_is c.args.actor c.requires.actor c.requires.room c.args.done c.requires.owed c.requires.fits c.event_of-event.result c.event_of-event.ensures) c.record_event.new.history c.push.new.self c.record_event.ensures c.push.ensures c.count_after-event_no.result c.count_after-event_no.ensures c.call.new.self c.in-Ok.ensures.called c.in-Ok.job c.in-Ok.ensures.lent))
