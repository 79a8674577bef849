use Rattle.tw_store.proofs.Names.{HasReadRoom, IsHere, IsNow, Member, Right, Slot, Some, ap, get, is_some, look_kept, member_at, named, one_read_more, option_map, read_copied, served_of, subst, sym, ◌<◌, ◌∙◌, ◌≡◌}
use Rattle.tw_store.proofs.Remain.{if_some}
use Rattle.tw_store.proofs.Here.{seat, is_there, read_is, member_is, no_member, member_here, member_seat, member_room, right_on, now_is, now_seated, unchanged}
use Rattle.tw_store.proofs.store.Store.look_under.Goals as goal

pub datum_at-requires : goal.datum_at-requires
datum_at-requires c =
    let x = seat c.self.inside.slab c.self.inside.next c.self.inside.queues.items c.args.self.now c.args.right.now c.place.result c.self.view_is c.self.invariant.0 c.requires.here c.place.ensures in
    is_there _ _ _ _ x

pub returns-in_default : goal.returns-in_default
returns-in_default c =
    let x = seat c.self.inside.slab c.self.inside.next c.self.inside.queues.items c.args.self.now c.args.right.now c.place.result c.self.view_is c.self.invariant.0 c.requires.here c.place.ensures in
    let its = c.kept_member.ensures.member ∙ member_is c.args.self.now c.args.right.now.id (named c.args.subscript) c.datum_at.result.now.datum (read_is _ _ _ _ x c.datum_at.result.now c.datum_at.ensures) in
    (no_member _ _ its (ap is_some c.in_default.is), unchanged c.args.self.now)

pub add_read_at-requires-clause-there : goal.add_read_at-requires-clause-there
add_read_at-requires-clause-there c =
    let x = seat c.self.inside.slab c.self.inside.next c.self.inside.queues.items c.args.self.now c.args.right.now c.place.result c.self.view_is c.self.invariant.0 c.requires.here c.place.ensures in
    let its = c.kept_member.ensures.member ∙ member_is c.args.self.now c.args.right.now.id (named c.args.subscript) c.datum_at.result.now.datum (read_is _ _ _ _ x c.datum_at.result.now c.datum_at.ensures) in
    let m = c.in-Some.member in
    let at : member_at c.args.self.now.store c.args.right.now.id (named c.args.subscript) ≡ Some m.id = sym its ∙ ap (option_map (λ (z : Member). z.id)) c.in-Some.is in
    let has : get c.datum_at.result.now.members (named c.args.subscript) ≡ Some m = sym c.kept_member.ensures.kept ∙ c.in-Some.is in
    let kept = look_kept c.args.self.now.store c.args.right.now.id (named c.args.subscript) m.id at c.requires.allowed in
    let y = member_seat c.self.inside.slab c.self.inside.next c.self.inside.queues.items c.args.self.now c.self.view_is c.self.invariant.0 c.args.right.now c.place.result x c.datum_at.result.now c.datum_at.ensures (named c.args.subscript) m has kept in
    is_there _ _ _ _ y

pub add_read_at-requires-clause-room : goal.add_read_at-requires-clause-room
add_read_at-requires-clause-room c =
    let x = seat c.self.inside.slab c.self.inside.next c.self.inside.queues.items c.args.self.now c.args.right.now c.place.result c.self.view_is c.self.invariant.0 c.requires.here c.place.ensures in
    let its = c.kept_member.ensures.member ∙ member_is c.args.self.now c.args.right.now.id (named c.args.subscript) c.datum_at.result.now.datum (read_is _ _ _ _ x c.datum_at.result.now c.datum_at.ensures) in
    let m = c.in-Some.member in
    let at : member_at c.args.self.now.store c.args.right.now.id (named c.args.subscript) ≡ Some m.id = sym its ∙ ap (option_map (λ (z : Member). z.id)) c.in-Some.is in
    let has : get c.datum_at.result.now.members (named c.args.subscript) ≡ Some m = sym c.kept_member.ensures.kept ∙ c.in-Some.is in
    let kept = look_kept c.args.self.now.store c.args.right.now.id (named c.args.subscript) m.id at c.requires.allowed in
    let y = member_seat c.self.inside.slab c.self.inside.next c.self.inside.queues.items c.args.self.now c.self.view_is c.self.invariant.0 c.args.right.now c.place.result x c.datum_at.result.now c.datum_at.ensures (named c.args.subscript) m has kept in
    if_some (λ (e : Slot). e.datum.datum.reads < 9223372036854775808) _ y.slot y.there (subst HasReadRoom y.live (member_room c.args.self.now.store c.args.right.now.id (named c.args.subscript) m.id at c.requires.room))

pub invariant_of-self : goal.invariant_of-self
invariant_of-self c =
    let x = seat c.self.inside.slab c.self.inside.next c.self.inside.queues.items c.args.self.now c.args.right.now c.place.result c.self.view_is c.self.invariant.0 c.requires.here c.place.ensures in
    let its = c.kept_member.ensures.member ∙ member_is c.args.self.now c.args.right.now.id (named c.args.subscript) c.datum_at.result.now.datum (read_is _ _ _ _ x c.datum_at.result.now c.datum_at.ensures) in
    let m = c.in-Some.member in
    let at : member_at c.args.self.now.store c.args.right.now.id (named c.args.subscript) ≡ Some m.id = sym its ∙ ap (option_map (λ (z : Member). z.id)) c.in-Some.is in
    let has : get c.datum_at.result.now.members (named c.args.subscript) ≡ Some m = sym c.kept_member.ensures.kept ∙ c.in-Some.is in
    let kept = look_kept c.args.self.now.store c.args.right.now.id (named c.args.subscript) m.id at c.requires.allowed in
    let y = member_seat c.self.inside.slab c.self.inside.next c.self.inside.queues.items c.args.self.now c.self.view_is c.self.invariant.0 c.args.right.now c.place.result x c.datum_at.result.now c.datum_at.ensures (named c.args.subscript) m has kept in
    (now_seated c.self.inside.slab c.self.inside.next c.self.inside.queues.items c.args.self.now c.self.view_is c.self.invariant.0 (right_on m) m.place y one_read_more c.add_read_at.new.slab c.add_read_at.ensures.changed, c.self.invariant.1, c.self.invariant.2)

pub returns : goal.returns
returns c =
    let x = seat c.self.inside.slab c.self.inside.next c.self.inside.queues.items c.args.self.now c.args.right.now c.place.result c.self.view_is c.self.invariant.0 c.requires.here c.place.ensures in
    let its = c.kept_member.ensures.member ∙ member_is c.args.self.now c.args.right.now.id (named c.args.subscript) c.datum_at.result.now.datum (read_is _ _ _ _ x c.datum_at.result.now c.datum_at.ensures) in
    let m = c.in-Some.member in
    let at : member_at c.args.self.now.store c.args.right.now.id (named c.args.subscript) ≡ Some m.id = sym its ∙ ap (option_map (λ (z : Member). z.id)) c.in-Some.is in
    let has : get c.datum_at.result.now.members (named c.args.subscript) ≡ Some m = sym c.kept_member.ensures.kept ∙ c.in-Some.is in
    let kept = look_kept c.args.self.now.store c.args.right.now.id (named c.args.subscript) m.id at c.requires.allowed in
    let y = member_seat c.self.inside.slab c.self.inside.next c.self.inside.queues.items c.args.self.now c.self.view_is c.self.invariant.0 c.args.right.now c.place.result x c.datum_at.result.now c.datum_at.ensures (named c.args.subscript) m has kept in
    subst (λ (r : Right). (member_at c.args.self.now.store c.args.right.now.id (named c.args.subscript) ≡ Some r.id) × IsHere c.args.self.now r × IsNow (read_copied c.args.self.now.store r.id) c.args.self.now (served_of c.add_read_at.new.slab c.self.inside.next c.self.inside.queues.items))
    (sym c.of.ensures)
    (at, member_here c.self.inside.slab c.self.inside.next c.self.inside.queues.items c.args.self.now c.self.view_is c.self.invariant.0 c.args.right.now c.place.result x c.datum_at.result.now c.datum_at.ensures (named c.args.subscript) m has kept, now_is c.self.inside.slab c.self.inside.next c.self.inside.queues.items c.args.self.now c.self.view_is c.self.invariant.0 (right_on m) m.place y one_read_more c.add_read_at.new.slab c.add_read_at.ensures.changed c.add_read_at.ensures.room)
