use Rattle.tw_store.proofs.Names.{List, Subscriber, ap, get, get_or, length, on_ok, rooms_in, subst, sym, waiting_for, ◌%◌, ◌<◌, ◌≤◌}
use Rattle.tw_store.proofs.Here.{seat, is_there, read_is, room_is, set_count, notice_room}
use Rattle.tw_store.proofs.Own.{own_same}
use Rattle.tw_store.proofs.store.Store.reserve_notices.Goals as goal

pub datum_at-requires : goal.datum_at-requires
datum_at-requires c =
    let x = seat c.self.inside.slab c.self.inside.next c.self.inside.queues.items c.args.self.now c.args.right.now c.place.result c.self.view_is c.self.invariant.0 c.requires c.place.ensures in
    is_there _ _ _ _ x

pub invariant_of-self : goal.invariant_of-self
invariant_of-self c = (c.self.invariant.0, subst (λ n. 0 < n) (sym c.reserve_server.ensures.servers) c.self.invariant.1, own_same c.self.inside.queues.items c.reserve_server.new.queues.items c.reserve_server.ensures.same c.self.invariant.2)

pub returns-clause-room : goal.returns-clause-room
returns-clause-room c =
    let x = seat c.self.inside.slab c.self.inside.next c.self.inside.queues.items c.args.self.now c.args.right.now c.place.result c.self.view_is c.self.invariant.0 c.requires c.place.ensures in
    on_ok c.reserve_server.result c.reserve_server.ensures.room (λ fits. notice_room c.self.inside.slab c.self.inside.next c.self.inside.queues.items c.args.self.now c.self.view_is c.self.invariant.0 c.args.right.now.id c.datum_at.result.now.datum (read_is _ _ _ _ x c.datum_at.result.now c.datum_at.ensures) c.reserve_server.new.queues.items (length c.subscribers-subscribers.result.now) (ap length c.subscribers-subscribers.ensures)
    c.reserve_server.ensures.servers (subst (λ k. length c.subscribers-subscribers.result.now ≤ get_or (rooms_in c.reserve_server.new.queues.items) (k % length c.self.inside.queues.items) 0) c.id.ensures fits))

pub returns-clause-reserved : goal.returns-clause-reserved
returns-clause-reserved c =
    let x = seat c.self.inside.slab c.self.inside.next c.self.inside.queues.items c.args.self.now c.args.right.now c.place.result c.self.view_is c.self.invariant.0 c.requires c.place.ensures in
    let few : length c.subscribers-subscribers.result.now ≤ waiting_for (get c.args.self.now.store.live c.args.right.now.id) = subst (λ (xs : List Subscriber). length xs ≤ waiting_for (get c.args.self.now.store.live c.args.right.now.id)) (sym c.subscribers-subscribers.ensures) (set_count c.args.self.now c.args.right.now.id c.datum_at.result.now.datum (read_is _ _ _ _ x c.datum_at.result.now c.datum_at.ensures)) in
    λ room. c.reserve_server.ensures.reserved (subst (λ k. length c.subscribers-subscribers.result.now ≤ get_or (rooms_in c.self.inside.queues.items) (k % length c.self.inside.queues.items) 0) (sym c.id.ensures)
    (room_is c.self.inside.slab c.self.inside.next c.self.inside.queues.items c.args.self.now c.self.view_is c.self.invariant.0 c.args.right.now.id (length c.subscribers-subscribers.result.now) room few))
