use Rattle.tw_store.proofs.Names.{HasWriteRoom, Slot, one_write_more, subst, ◌<◌}
use Rattle.tw_store.proofs.Remain.{if_some}
use Rattle.tw_store.proofs.Here.{seat, is_there, now_is, now_seated}
use Rattle.tw_store.proofs.store.Store.copy_write.Goals as goal

pub add_write_at-requires-clause-there : goal.add_write_at-requires-clause-there
add_write_at-requires-clause-there c =
    let x = seat c.self.inside.slab c.self.inside.next c.self.inside.queues.items c.args.self.now c.args.right.now c.place.result c.self.view_is c.self.invariant.0 c.requires.here c.place.ensures in
    is_there _ _ _ _ x

pub add_write_at-requires-clause-room : goal.add_write_at-requires-clause-room
add_write_at-requires-clause-room c =
    let x = seat c.self.inside.slab c.self.inside.next c.self.inside.queues.items c.args.self.now c.args.right.now c.place.result c.self.view_is c.self.invariant.0 c.requires.here c.place.ensures in
    if_some (λ (e : Slot). e.datum.datum.writes < 9223372036854775808) _ x.slot x.there (subst HasWriteRoom x.live c.requires.room)

pub invariant_of-self : goal.invariant_of-self
invariant_of-self c =
    let x = seat c.self.inside.slab c.self.inside.next c.self.inside.queues.items c.args.self.now c.args.right.now c.place.result c.self.view_is c.self.invariant.0 c.requires.here c.place.ensures in
    (now_seated c.self.inside.slab c.self.inside.next c.self.inside.queues.items c.args.self.now c.self.view_is c.self.invariant.0 c.args.right.now c.place.result x one_write_more c.add_write_at.new.slab c.add_write_at.ensures.changed, c.self.invariant.1, c.self.invariant.2)

pub returns-clause-counted : goal.returns-clause-counted
returns-clause-counted c =
    let x = seat c.self.inside.slab c.self.inside.next c.self.inside.queues.items c.args.self.now c.args.right.now c.place.result c.self.view_is c.self.invariant.0 c.requires.here c.place.ensures in
    now_is c.self.inside.slab c.self.inside.next c.self.inside.queues.items c.args.self.now c.self.view_is c.self.invariant.0 c.args.right.now c.place.result x one_write_more c.add_write_at.new.slab c.add_write_at.ensures.changed c.add_write_at.ensures.room
