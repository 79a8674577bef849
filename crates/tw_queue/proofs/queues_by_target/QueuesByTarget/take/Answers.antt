use Rattle.tw_queue.proofs.Names.{Contains, IfSome, IsAheadOfAll, IsBest, IsTaken, ap, arith, length, ranks_at, ranks_in, room_at, slice_set, subst, sym, ◌<◌, ◌∙◌, ◌≡◌}
use Rattle.tw_queue.proofs.RunQueues.{best_at, rooms_kept, taken_at}
use Rattle.tw_queue.proofs.queues_by_target.QueuesByTarget.take.Goals as goal

pub returns-clause-best : goal.returns-clause-best
returns-clause-best c =
    let queues = c.self.inside.queues.items in
    let count : length queues ≡ 17 = c.self.invariant in
    let best = c.in_ok-index.ensures in
    let low : c.in_ok-index.index < length queues = omega (arith, best.0) in
    let at = c.index_mut-queue.ensures.value in
    let whole = ap (λ l. l.queues) c.self.view_is in
    let there = subst (λ ps. Contains (ranks_at ps c.in_ok-index.index) c.in_ok-index.field-0-1) (sym whole) best.2 in
    let ahead = subst (λ ps. IsAheadOfAll c.in_ok-index.field-0-1 c.args.number (ranks_at ps)) (sym whole) best.3 in
    subst (λ ps. IsBest c.args.number (ranks_at ps) c.pop.result) whole
    (best_at queues c.in_ok-index.index low c.index_mut-queue.result.now c.pop.new.self at c.args.number c.in_ok-index.field-0-1 best.1 there ahead c.pop.result c.pop.ensures.first)

pub returns-clause-taken : goal.returns-clause-taken
returns-clause-taken c =
    let queues = c.self.inside.queues.items in
    let count : length queues ≡ 17 = c.self.invariant in
    let low : c.in_ok-index.index < length queues = omega (arith, c.in_ok-index.ensures.0) in
    subst (λ l. IfSome c.pop.result (λ rank. IsTaken rank (ranks_at l.queues) (ranks_at (ranks_in (slice_set queues c.in_ok-index.index c.pop.new.self))))) c.self.view_is
    (taken_at queues c.in_ok-index.index low c.index_mut-queue.result.now c.pop.new.self c.index_mut-queue.ensures.value c.pop.result c.pop.ensures.popped)

pub returns-clause-kept : goal.returns-clause-kept
returns-clause-kept c = λ queue room.
    let queues = c.self.inside.queues.items in
    let count : length queues ≡ 17 = c.self.invariant in
    let low : c.in_ok-index.index < length queues = omega (arith, c.in_ok-index.ensures.0) in
    let at = c.index_mut-queue.ensures.value in
    rooms_kept queues c.in_ok-index.index low c.index_mut-queue.result.now c.pop.new.self at c.pop.ensures.kept queue (ap (λ l. room_at l.rooms queue) c.self.view_is ∙ room)
