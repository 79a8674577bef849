use Rattle.tw_queue.proofs.Names.{ap, arith, length, queue_of, room_at, sym, ◌<◌, ◌∙◌, ◌≡◌}
use Rattle.tw_queue.proofs.RunQueues.{if_ok, room_now, room_was, rooms_kept, same_ranks}
use Rattle.tw_queue.proofs.queues_by_target.QueuesByTarget.reserve.Goals as goal

pub returns-clause-same : goal.returns-clause-same
returns-clause-same c =
    let queues = c.self.inside.queues.items in
    let count : length queues ≡ 17 = c.self.invariant in
    let at : c.queue_of.result ≡ queue_of c.args.target = c.queue_of.ensures in
    let low : c.queue_of.result < length queues = omega (arith, c.requires) in
    same_ranks queues c.queue_of.result low c.index_mut-queue.result.now c.reserve.new.self c.index_mut-queue.ensures.value c.reserve.ensures.same ∙ ap (λ l. l.queues) c.self.view_is

pub returns-clause-room : goal.returns-clause-room
returns-clause-room c =
    let queues = c.self.inside.queues.items in
    let count : length queues ≡ 17 = c.self.invariant in
    let at : c.queue_of.result ≡ queue_of c.args.target = c.queue_of.ensures in
    let low : c.queue_of.result < length queues = omega (arith, c.requires) in
    let now = room_now queues c.queue_of.result low c.index_mut-queue.result.now c.reserve.new.self c.index_mut-queue.ensures.value in
    if_ok c.reserve.result (λ room. ap (room_at _) (sym at) ∙ now ∙ room) c.reserve.ensures.room

pub returns-clause-kept : goal.returns-clause-kept
returns-clause-kept c = λ queue room.
    let queues = c.self.inside.queues.items in
    let count : length queues ≡ 17 = c.self.invariant in
    let at : c.queue_of.result ≡ queue_of c.args.target = c.queue_of.ensures in
    let low : c.queue_of.result < length queues = omega (arith, c.requires) in
    rooms_kept queues c.queue_of.result low c.index_mut-queue.result.now c.reserve.new.self c.index_mut-queue.ensures.value c.reserve.ensures.kept queue (ap (λ l. room_at l.rooms queue) c.self.view_is ∙ room)

pub returns-clause-reserved : goal.returns-clause-reserved
returns-clause-reserved c = λ room.
    let queues = c.self.inside.queues.items in
    let count : length queues ≡ 17 = c.self.invariant in
    let at : c.queue_of.result ≡ queue_of c.args.target = c.queue_of.ensures in
    let low : c.queue_of.result < length queues = omega (arith, c.requires) in
    let was = room_was queues c.queue_of.result low c.index_mut-queue.result.now c.reserve.new.self c.index_mut-queue.ensures.value in
    c.reserve.ensures.reserved (sym was ∙ ap (room_at _) at ∙ ap (λ l. room_at l.rooms (queue_of c.args.target)) c.self.view_is ∙ room)
