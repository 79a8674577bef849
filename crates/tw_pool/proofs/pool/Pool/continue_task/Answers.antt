use Rattle.tw_pool.proofs.Handing as hand
use Rattle.tw_pool.proofs.pool.Pool.continue_task.Goals as goal

pub event_of-event-requires : goal.event_of-event-requires
event_of-event-requires c = record { owed = hand.owed_some _ _ _ c.self.inside.stopped c.self.inside.history c.self.inside.parts c.self.invariant c.args.self.now c.self.view_is c.args.actor c.requires.actor c.requires.room c.args.done c.requires.owed }

pub advance-requires : goal.advance-requires
advance-requires c = record { fits_place = hand.may_advance _ _ _ c.self.inside.stopped c.self.inside.history c.self.inside.parts c.self.invariant c.args.self.now c.self.view_is c.args.actor c.requires.actor c.requires.room c.args.done c.requires.owed }

pub invariant_of-self : goal.invariant_of-self
invariant_of-self c = hand.kept_on _ _ _ c.self.inside.stopped c.self.inside.history c.self.inside.parts c.self.invariant c.args.self.now c.self.view_is c.args.actor c.requires.actor c.requires.room c.args.done c.requires.owed c.event_of-event.result (hand.has_come _ _ _ c.self.inside.stopped c.self.inside.history c.self.inside.parts c.self.invariant c.args.self.now c.self.view_is c.args.actor c.requires.actor c.requires.room c.args.done c.requires.owed c.steps-steps.ensures.done.few c.event_of-event.result c.event_of-event.ensures) c.record_event.new.history c.record_event.ensures c.count-event_no.result c.count-event_no.ensures c.advance.new.self c.advance.ensures.came c.advance.result c.advance.ensures.lent

pub returns : goal.returns
returns c = hand.line_on _ _ _ c.self.inside.stopped c.self.inside.history c.self.inside.parts c.self.invariant c.args.self.now c.self.view_is c.args.actor c.requires.actor c.requires.room c.args.done c.requires.owed c.event_of-event.result (hand.has_come _ _ _ c.self.inside.stopped c.self.inside.history c.self.inside.parts c.self.invariant c.args.self.now c.self.view_is c.args.actor c.requires.actor c.requires.room c.args.done c.requires.owed c.steps-steps.ensures.done.few c.event_of-event.result c.event_of-event.ensures) c.record_event.new.history c.record_event.ensures c.count-event_no.result c.count-event_no.ensures c.advance.new.self c.advance.ensures.came c.advance.result c.advance.ensures.lent
