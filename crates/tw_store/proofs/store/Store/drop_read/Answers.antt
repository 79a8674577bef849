use Rattle.tw_store.proofs.Names.{IsAt, Served, Some, ap, get, subst, sym, ◌∙◌}
use Rattle.tw_store.proofs.Remain.{seat_at, seated_left}
use Rattle.tw_store.proofs.Roomy.{rooms_kept, same_room}
use Rattle.tw_store.proofs.Here.{keeps}
use Rattle.tw_store.proofs.store.Store.drop_read.Goals as goal

pub drop_read_within-requires-clause-at : goal.drop_read_within-requires-clause-at
drop_read_within-requires-clause-at c =
    subst (λ k. IsAt c.self.inside.slab.slots k c.place-place.result) (sym c.spend.ensures)
    (seat_at c.self.inside.slab.slots c.place-place.result c.args.right.id c.self.invariant.0.apart (ap (λ (s : Served). get s.places c.args.right.id) c.self.view_is ∙ c.requires.here ∙ ap Some (sym c.place-place.ensures)))

pub invariant_of-self : goal.invariant_of-self
invariant_of-self c = (seated_left c.self.inside.slab.slots c.drop_read_within.new.slab.slots c.drop_read_within.ensures.remains c.self.inside.next c.self.invariant.0, c.self.invariant.1, c.self.invariant.2)

pub returns-clause-places : goal.returns-clause-places
returns-clause-places c = keeps c.self.inside.slab c.self.inside.next c.self.inside.queues.items c.args.self.now c.self.view_is c.self.invariant.0 c.drop_read_within.new.slab c.self.inside.next c.self.inside.queues.items c.drop_read_within.ensures.remains

pub returns-clause-rooms : goal.returns-clause-rooms
returns-clause-rooms c = rooms_kept c.self.inside.slab c.self.inside.next c.self.inside.queues.items c.args.self.now c.self.view_is c.drop_read_within.new.slab c.self.inside.next c.self.inside.queues.items c.drop_read_within.ensures.room (same_room c.self.inside.queues.items)
