use Rattle.tw_store.proofs.Names.{Maps, Right, Served, Some, added, ap, closed_datum, datum_in, get, insert, live_of, place_in, places_of, sym, with_live, ◌+◌, ◌∙◌}
use Rattle.tw_store.proofs.Remain.{add_seated, add_shown, place_at}
use Rattle.tw_store.proofs.store.Store.create_map.Goals as goal

pub invariant_of-self-2 : goal.invariant_of-self-2
invariant_of-self-2 c = (add_seated c.self.inside.slab.slots c.insert.new.self.slots c.self.inside.next c.in-Ok.place (record { id = c.new-id.result; datum = c.new_closed.result }) c.self.invariant.0 c.in-Ok.ensures.was_vacant c.in-Ok.ensures.updates.changed c.in-Ok.ensures.updates.others c.new-id.ensures (c.new_closed.ensures.members), c.self.invariant.1, c.self.invariant.2)

pub returns-clause-made : goal.returns-clause-made
returns-clause-made c =
    ap (with_live (c.self.inside.next + 1)) (add_shown c.self.inside.slab.slots c.insert.new.self.slots c.self.inside.next c.in-Ok.place (record { id = c.new-id.result; datum = c.new_closed.result }) c.self.invariant.0 c.in-Ok.ensures.was_vacant c.in-Ok.ensures.updates.changed c.in-Ok.ensures.updates.others c.new-id.ensures (c.new_closed.ensures.members) datum_in
    ∙ ap (λ k. insert (live_of c.self.inside.slab.slots) k c.new_closed.result.datum) c.new-id.ensures
    ∙ ap (insert (live_of c.self.inside.slab.slots) c.self.inside.next) c.new_closed.ensures.datum)
    ∙ ap (λ (s : Served). added s.store (closed_datum c.args.ty (Maps c.args.values))) c.self.view_is

pub returns-clause-places : goal.returns-clause-places
returns-clause-places c =
    add_shown c.self.inside.slab.slots c.insert.new.self.slots c.self.inside.next c.in-Ok.place (record { id = c.new-id.result; datum = c.new_closed.result }) c.self.invariant.0 c.in-Ok.ensures.was_vacant c.in-Ok.ensures.updates.changed c.in-Ok.ensures.updates.others c.new-id.ensures (c.new_closed.ensures.members) place_in
    ∙ ap (λ k. insert (places_of c.self.inside.slab.slots) k c.in-Ok.place) c.new-id.ensures
    ∙ ap (λ (s : Served). insert s.places s.store.next c.in-Ok.place) c.self.view_is
    ∙ ap (λ (r : Right). insert c.args.self.now.places c.args.self.now.store.next r.place) (sym c.of.ensures)

pub returns-clause-here : goal.returns-clause-here
returns-clause-here c =
    ap (λ (r : Right). get (places_of c.insert.new.self.slots) r.id) c.of.ensures
    ∙ place_at c.insert.new.self.slots (c.self.inside.next + 1) c.in-Ok.place (record { id = c.new-id.result; datum = c.new_closed.result }) (add_seated c.self.inside.slab.slots c.insert.new.self.slots c.self.inside.next c.in-Ok.place (record { id = c.new-id.result; datum = c.new_closed.result }) c.self.invariant.0 c.in-Ok.ensures.was_vacant c.in-Ok.ensures.updates.changed c.in-Ok.ensures.updates.others c.new-id.ensures (c.new_closed.ensures.members)) c.in-Ok.ensures.updates.changed
    ∙ ap (λ (r : Right). Some r.place) (sym c.of.ensures)
