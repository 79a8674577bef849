use Rattle.tw_pool.proofs.Names.{Answers, End, [], refl, steps_of, ◌++◌, ◌∷◌}
use Rattle.tw_code.specs.declared.instr.Instr.TheVariants as instr
use Rattle.tw_pool.specs.declared.answer.Turn.TheVariants as answer
use Rattle.tw_pool.proofs.Freely as free
use Rattle.tw_pool.proofs.Handing as hand
use Rattle.tw_pool.proofs.pool.Pool.end.Goals as goal

pub event_of-event-requires : goal.event_of-event-requires
event_of-event-requires c = record { owed = hand.owed_some _ _ _ c.self.inside.stopped c.self.inside.history c.self.inside.parts c.self.invariant c.args.self.now c.self.view_is c.args.actor c.requires.actor c.requires.room c.args.done c.requires.owed }

pub end-requires : goal.end-requires
end-requires c = record { fits_place = hand.fits_place _ _ _ c.self.inside.stopped c.self.inside.history c.self.inside.parts c.self.invariant c.args.self.now c.self.view_is c.args.actor c.requires.actor c.requires.room c.args.done c.requires.owed c.event_of-event.result (hand.has_come _ _ _ c.self.inside.stopped c.self.inside.history c.self.inside.parts c.self.invariant c.args.self.now c.self.view_is c.args.actor c.requires.actor c.requires.room c.args.done c.requires.owed c.steps-steps.ensures.done.few c.event_of-event.result c.event_of-event.ensures) instr.Ret c.requires.following_is }

pub invariant_of-self : goal.invariant_of-self
invariant_of-self c =
    free.kept_as _ _ _ c.self.inside.stopped c.self.inside.history c.self.inside.parts c.self.invariant c.args.self.now c.self.view_is ((steps_of c.args.actor c.args.done) ++ End c.args.actor ∷ []) c.push.new.self c.end.new.self (hand.traced_two _ _ _ c.self.inside.stopped c.self.inside.history c.self.inside.parts c.self.invariant c.args.self.now c.self.view_is c.args.actor c.requires.actor c.requires.room c.args.done c.requires.owed (End c.args.actor) refl c.event_of-event.result (hand.has_come _ _ _ c.self.inside.stopped c.self.inside.history c.self.inside.parts c.self.invariant c.args.self.now c.self.view_is c.args.actor c.requires.actor c.requires.room c.args.done c.requires.owed c.steps-steps.ensures.done.few c.event_of-event.result c.event_of-event.ensures) c.end.new.self c.end.ensures c.record_event.new.history c.push.new.self c.record_event.ensures c.push.ensures) (hand.kept_ended _ _ _ c.self.inside.stopped c.self.inside.history c.self.inside.parts c.self.invariant c.args.self.now c.self.view_is c.args.actor c.requires.actor c.requires.room c.args.done c.requires.owed c.event_of-event.result (hand.has_come _ _ _ c.self.inside.stopped c.self.inside.history c.self.inside.parts c.self.invariant c.args.self.now c.self.view_is c.args.actor c.requires.actor c.requires.room c.args.done c.requires.owed c.steps-steps.ensures.done.few c.event_of-event.result c.event_of-event.ensures) c.end.new.self c.end.ensures (hand.room_two _ _ _ c.self.inside.stopped c.self.inside.history c.self.inside.parts c.self.invariant c.args.self.now c.self.view_is c.args.actor c.requires.actor c.requires.room c.args.done c.requires.owed c.requires.fits c.event_of-event.result c.event_of-event.ensures))

pub returns : goal.returns
returns c = free.line_traced _ _ _ c.self.inside.stopped c.self.inside.history c.self.inside.parts c.self.invariant c.args.self.now c.self.view_is (λ s. Answers answer.Ended ((steps_of c.args.actor c.args.done) ++ End c.args.actor ∷ [])) answer.Ended ((steps_of c.args.actor c.args.done) ++ End c.args.actor ∷ []) c.push.new.self (hand.traced_two _ _ _ c.self.inside.stopped c.self.inside.history c.self.inside.parts c.self.invariant c.args.self.now c.self.view_is c.args.actor c.requires.actor c.requires.room c.args.done c.requires.owed (End c.args.actor) refl c.event_of-event.result (hand.has_come _ _ _ c.self.inside.stopped c.self.inside.history c.self.inside.parts c.self.invariant c.args.self.now c.self.view_is c.args.actor c.requires.actor c.requires.room c.args.done c.requires.owed c.steps-steps.ensures.done.few c.event_of-event.result c.event_of-event.ensures) c.end.new.self c.end.ensures c.record_event.new.history c.push.new.self c.record_event.ensures c.push.ensures) (refl, refl)
