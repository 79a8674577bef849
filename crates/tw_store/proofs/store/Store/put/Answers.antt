use Rattle.tw_store.proofs.Names.{IsNow, Slot, Subscript, get, is_map_of, on_err, on_ok, refl, scalar_of, served_of, subst, sym, true, value_put, with_entry, ◌≡◌}
use Rattle.tw_datum.specs.Puts.{TakesValue}
use Rattle.tw_store.proofs.Remain.{if_some}
use Rattle.tw_store.proofs.Roomy.{same_room}
use Rattle.tw_store.proofs.Here.{is_there, now_is, same_is, seat, then_seated}
use Rattle.tw_store.proofs.store.Store.put.Goals as goal

pub put_at-requires-clause-there : goal.put_at-requires-clause-there
put_at-requires-clause-there c =
    let x = seat c.self.inside.slab c.self.inside.next c.self.inside.queues.items c.args.self.now c.args.right.now c.place.result c.self.view_is c.self.invariant.0 c.requires.here c.place.ensures in
    is_there _ _ _ _ x

pub put_at-requires-clause-takes : goal.put_at-requires-clause-takes
put_at-requires-clause-takes c =
    let x = seat c.self.inside.slab c.self.inside.next c.self.inside.queues.items c.args.self.now c.args.right.now c.place.result c.self.view_is c.self.invariant.0 c.requires.here c.place.ensures in
    let takes = subst (λ (k : Subscript). TakesValue k c.args.value (get c.args.self.now.store.live c.args.right.now.id)) (sym c.in_ok-subscript.ensures.copy) c.requires.takes in
    if_some (λ (e : Slot). is_map_of (scalar_of c.in_ok-subscript.subscript) (scalar_of c.args.value) e.datum.datum.ty ≡ true) _ x.slot x.there (subst (TakesValue c.in_ok-subscript.subscript c.args.value) x.live takes)

pub invariant_of-self : goal.invariant_of-self
invariant_of-self c =
    let x = seat c.self.inside.slab c.self.inside.next c.self.inside.queues.items c.args.self.now c.args.right.now c.place.result c.self.view_is c.self.invariant.0 c.requires.here c.place.ensures in (
      then_seated c.self.inside.slab c.self.inside.next c.self.inside.queues.items c.args.self.now c.self.view_is c.self.invariant.0 c.args.right.now c.place.result x (with_entry c.in_ok-subscript.subscript c.args.value) c.put_at.result c.put_at.new.slab c.put_at.ensures.put c.put_at.ensures.refused,
      c.self.invariant.1,
      c.self.invariant.2,
    )

pub returns-clause-put : goal.returns-clause-put
returns-clause-put c =
    let x = seat c.self.inside.slab c.self.inside.next c.self.inside.queues.items c.args.self.now c.args.right.now c.place.result c.self.view_is c.self.invariant.0 c.requires.here c.place.ensures in
    on_ok c.put_at.result c.put_at.ensures.put (λ changed. subst (λ (k : Subscript). IsNow (value_put c.args.self.now.store c.args.right.now.id k c.args.value) c.args.self.now (served_of c.put_at.new.slab c.self.inside.next c.self.inside.queues.items)) c.in_ok-subscript.ensures.copy
    (now_is c.self.inside.slab c.self.inside.next c.self.inside.queues.items c.args.self.now c.self.view_is c.self.invariant.0 c.args.right.now c.place.result x (with_entry c.in_ok-subscript.subscript c.args.value) c.put_at.new.slab changed c.put_at.ensures.room))

pub returns-clause-refused : goal.returns-clause-refused
returns-clause-refused c =
    on_err c.put_at.result c.put_at.ensures.refused (λ same. same_is c.self.inside.slab c.self.inside.next c.self.inside.queues.items c.args.self.now c.self.view_is c.self.invariant.0 c.put_at.new.slab c.self.inside.queues.items same refl c.put_at.ensures.room (same_room c.self.inside.queues.items))
