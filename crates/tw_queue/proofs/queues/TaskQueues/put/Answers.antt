use Rattle.tw_queue.proofs.Names.{IsChangedAt, IsIndex, IsPermutation, None, Some, Waiting, ap, arith, of_z, queue_of, ranks_of, refl, room_for, slot_at, subst, sym, tasks_in, to_z, to_z-of_z, true, w64, waiting, ℤ, ◌∙◌, ◌∷◌, ◌≡◌}
use Rattle.std.specs.FinMap as map
use Rattle.tw_queue.proofs.Entries.{apart_put, fresh, tasks_put, updated}
use Rattle.tw_queue.proofs.Indexing.{put_index, ranked}
use Rattle.tw_queue.proofs.Rooms.{rank_room, room_still, slot_room}
use Rattle.tw_queue.proofs.queues.TaskQueues.put.Goals as goal

pub returns-in_default-clause-room : goal.returns-in_default-clause-room
returns-in_default-clause-room c = λ kind target room.
    room_still (tasks_in c.self.inside.tasks.slots) (tasks_in c.reserve.new.self.slots) c.self.inside.tasks.has_room c.reserve.new.self.has_room c.self.inside.index c.self.inside.index
    c.reserve.ensures.kept (λ k queue there. there) kind target (subst (λ q. room_for kind target q ≡ true) (sym c.self.view_is) room)

pub returns-in_default-clause-reserved : goal.returns-in_default-clause-reserved
returns-in_default-clause-reserved c = λ room.
    c.in_default.ensures.reserved (slot_room c.args.kind c.args.target (tasks_in c.self.inside.tasks.slots) c.self.inside.tasks.has_room c.self.inside.index
    (subst (λ q. room_for c.args.kind c.args.target q ≡ true) (sym c.self.view_is) room))

pub returns-in_default-push-clause-reserved : goal.returns-in_default-push-clause-reserved
returns-in_default-push-clause-reserved c = λ room.
    c.in_default-push.ensures.reserved (rank_room c.args.kind c.args.target (tasks_in c.self.inside.tasks.slots) c.self.inside.tasks.has_room c.self.inside.index
    (subst (λ q. room_for c.args.kind c.args.target q ≡ true) (sym c.self.view_is) room))

pub returns-in_default-push-clause-room : goal.returns-in_default-push-clause-room
returns-in_default-push-clause-room c = λ kind target room.
    room_still (tasks_in c.self.inside.tasks.slots) (tasks_in c.reserve.new.self.slots) c.self.inside.tasks.has_room c.reserve.new.self.has_room c.self.inside.index c.push.new.self
    c.reserve.ensures.kept c.in_default-push.ensures.kept kind target (subst (λ q. room_for kind target q ≡ true) (sym c.self.view_is) room)

pub invariant_of-self-2 : goal.invariant_of-self-2
invariant_of-self-2 c =
    let ready = c.reserve.new.self.slots in
    let new = c.fill.new.self.slots in
    let slot = c.next-slot.result in
    let kept = to_z w64 (of_z w64 c.args.priority) in
    let w : Waiting = record { kind = c.args.kind; priority = kept; target = c.args.target; task = c.args.task } in
    let less = ranks_of c.self.inside.index in
    let more = ranks_of c.push.new.self in
    let is : IsIndex (slot_at ready) less = subst (λ slots. IsIndex (slot_at slots) less) (sym c.reserve.ensures.same) c.self.invariant in
    let changed : IsChangedAt slot (Some w) ready new = subst (λ n. IsChangedAt n (Some w) ready new) (sym c.next-slot.ensures.next) c.fill.ensures in
    let none : map.get (tasks_in ready) c.args.task.no ≡ None =
    ap (λ slots. map.get (tasks_in slots) c.args.task.no) c.reserve.ensures.same ∙ ap (λ q. map.get q.tasks c.args.task.no) c.self.view_is ∙ c.requires.new in
    let pushed = c.in-Ok-push.ensures.pushed in
    let here = subst (λ n. IsPermutation (ranked kept n slot ∷ less c.args.kind (queue_of c.args.target)) (more c.args.kind (queue_of c.args.target))) c.number-number.ensures pushed.here in
    put_index (slot_at ready) (slot_at new) less more is c.args.kind (queue_of c.args.target) slot w pushed.others here (updated slot (Some w) ready new changed) c.next-slot.ensures.free refl refl
    c.requires.target (apart_put slot w ready new is.apart (fresh ready is.apart c.args.task.no none) changed)

pub returns-clause-put : goal.returns-clause-put
returns-clause-put c =
    let ready = c.reserve.new.self.slots in
    let new = c.fill.new.self.slots in
    let slot = c.next-slot.result in
    let kept = to_z w64 (of_z w64 c.args.priority) in
    let w : Waiting = record { kind = c.args.kind; priority = kept; target = c.args.target; task = c.args.task } in
    let less = ranks_of c.self.inside.index in
    let is : IsIndex (slot_at ready) less = subst (λ slots. IsIndex (slot_at slots) less) (sym c.reserve.ensures.same) c.self.invariant in
    let changed : IsChangedAt slot (Some w) ready new = subst (λ n. IsChangedAt n (Some w) ready new) (sym c.next-slot.ensures.next) c.fill.ensures in
    let none : map.get (tasks_in ready) c.args.task.no ≡ None =
    ap (λ slots. map.get (tasks_in slots) c.args.task.no) c.reserve.ensures.same ∙ ap (λ q. map.get q.tasks c.args.task.no) c.self.view_is ∙ c.requires.new in
    let put = tasks_put slot w ready new is.apart (fresh ready is.apart c.args.task.no none) c.next-slot.ensures.free changed in
    let same = ap tasks_in c.reserve.ensures.same ∙ ap (λ q. q.tasks) c.self.view_is in
    let whole : kept ≡ c.args.priority = grind (arith, to_z-of_z) in
    put ∙ ap (λ ts. map.insert ts c.args.task.no (waiting c.args.kind kept c.args.target c.args.task)) same
    ∙ ap (λ (p : ℤ). map.insert c.args.self.now.tasks c.args.task.no (waiting c.args.kind p c.args.target c.args.task)) whole
