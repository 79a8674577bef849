use Rattle.tw_queue.proofs.Names.{IsPushed, OnOk, ap, arith, length, queue_of, ranks_at, ranks_in, room_at, slice_set, subst, sym, ◌<◌, ◌∙◌, ◌≡◌}
use Rattle.tw_queue.proofs.RunQueues.{if_err, if_ok, pushed_at, room_was, rooms_kept, same_ranks}
use Rattle.tw_queue.proofs.queues_by_target.QueuesByTarget.push.Goals as goal

pub returns-clause-pushed : goal.returns-clause-pushed
returns-clause-pushed c =
    let queues = c.self.inside.queues.items in
    let count : length queues ≡ 17 = c.self.invariant in
    let at : c.queue_of.result ≡ queue_of c.args.target = c.queue_of.ensures in
    let low : c.queue_of.result < length queues = omega (arith, c.requires) in
    let new = slice_set queues c.queue_of.result c.push.new.self in
    subst (λ p. OnOk c.push.result (IsPushed p c.args.rank (ranks_at c.args.self.now.queues) (ranks_at (ranks_in new)))) at
    (subst (λ l. OnOk c.push.result (IsPushed c.queue_of.result c.args.rank (ranks_at l.queues) (ranks_at (ranks_in new)))) c.self.view_is
    (if_ok c.push.result (pushed_at queues c.queue_of.result low c.index_mut-queue.result.now c.push.new.self c.index_mut-queue.ensures.value c.args.rank) c.push.ensures.pushed))

pub returns-clause-refused : goal.returns-clause-refused
returns-clause-refused c =
    let queues = c.self.inside.queues.items in
    let count : length queues ≡ 17 = c.self.invariant in
    let at : c.queue_of.result ≡ queue_of c.args.target = c.queue_of.ensures in
    let low : c.queue_of.result < length queues = omega (arith, c.requires) in
    if_err c.push.result
    (λ same. same_ranks queues c.queue_of.result low c.index_mut-queue.result.now c.push.new.self c.index_mut-queue.ensures.value same ∙ ap (λ l. l.queues) c.self.view_is)
    c.push.ensures.refused

pub returns-clause-kept : goal.returns-clause-kept
returns-clause-kept c =
    let queues = c.self.inside.queues.items in
    let count : length queues ≡ 17 = c.self.invariant in
    let at : c.queue_of.result ≡ queue_of c.args.target = c.queue_of.ensures in
    let low : c.queue_of.result < length queues = omega (arith, c.requires) in
    if_err c.push.result
    (λ kept queue room. rooms_kept queues c.queue_of.result low c.index_mut-queue.result.now c.push.new.self c.index_mut-queue.ensures.value kept queue (ap (λ l. room_at l.rooms queue) c.self.view_is ∙ room))
    c.push.ensures.kept

pub returns-clause-reserved : goal.returns-clause-reserved
returns-clause-reserved c = λ room.
    let queues = c.self.inside.queues.items in
    let count : length queues ≡ 17 = c.self.invariant in
    let at : c.queue_of.result ≡ queue_of c.args.target = c.queue_of.ensures in
    let low : c.queue_of.result < length queues = omega (arith, c.requires) in
    let was = room_was queues c.queue_of.result low c.index_mut-queue.result.now c.push.new.self c.index_mut-queue.ensures.value in
    c.push.ensures.reserved (sym was ∙ ap (room_at _) at ∙ ap (λ l. room_at l.rooms (queue_of c.args.target)) c.self.view_is ∙ room)
