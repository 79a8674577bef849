use Rattle.tw_queue.proofs.Names.{IsFirst, heap_items, refl, subst}
use Rattle.tw_queue.proofs.Runs.{run_shows}
use Rattle.tw_queue.proofs.run_queue.RunQueue.first.Goals as goal

pub returns-then-is_in_front : goal.returns-then-is_in_front
returns-then-is_in_front c =
    let front = c.if-is_in_front.ensures.yes refl in
    subst (λ p. IsFirst p.ranks c.copied.result) c.self.view_is
    (rw c.copied.ensures (run_shows c.self.inside.run.items (heap_items c.self.inside.rest) c.self.invariant.0 front c.front.result c.front.ensures.item))
