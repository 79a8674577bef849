use Rattle.tw_queue.proofs.Names.{false, room_for, subst, sym, tasks_in, true, ◌≡◌}
use Rattle.tw_queue.proofs.Rooms.{rank_room, room_still, slot_room}
use Rattle.tw_queue.proofs.queues.TaskQueues.reserve.Goals as goal

no_room : false ≡ true → ⊥
no_room e = cc

pub returns-in_err-reserve-clause-kept : goal.returns-in_err-reserve-clause-kept
returns-in_err-reserve-clause-kept c = λ kind target room.
    room_still (tasks_in c.self.inside.tasks.slots) (tasks_in c.reserve.new.self.slots) c.self.inside.tasks.has_room c.reserve.new.self.has_room c.self.inside.index c.self.inside.index
    c.reserve.ensures.kept (λ k queue there. there) kind target (subst (λ q. room_for kind target q ≡ true) (sym c.self.view_is) room)

pub returns-in_err-reserve-clause-reserved : goal.returns-in_err-reserve-clause-reserved
returns-in_err-reserve-clause-reserved c = λ room.
    absurd (no_room (c.in_err-reserve.ensures.reserved (slot_room c.args.kind c.args.target (tasks_in c.self.inside.tasks.slots) c.self.inside.tasks.has_room c.self.inside.index
    (subst (λ q. room_for c.args.kind c.args.target q ≡ true) (sym c.self.view_is) room))))

pub returns-clause-reserved : goal.returns-clause-reserved
returns-clause-reserved c = λ room.
    c.reserve-2.ensures.reserved (rank_room c.args.kind c.args.target (tasks_in c.self.inside.tasks.slots) c.self.inside.tasks.has_room c.self.inside.index
    (subst (λ q. room_for c.args.kind c.args.target q ≡ true) (sym c.self.view_is) room))

pub returns-clause-kept : goal.returns-clause-kept
returns-clause-kept c = λ kind target room.
    room_still (tasks_in c.self.inside.tasks.slots) (tasks_in c.reserve.new.self.slots) c.self.inside.tasks.has_room c.reserve.new.self.has_room c.self.inside.index c.reserve-2.new.self
    c.reserve.ensures.kept c.reserve-2.ensures.kept kind target (subst (λ q. room_for kind target q ≡ true) (sym c.self.view_is) room)
