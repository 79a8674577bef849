use Rattle.tw_queue.proofs.Names.{ap, ranks_of, slot_at}
use Rattle.tw_queue.proofs.Indexing.{empty_index}
use Rattle.tw_queue.proofs.queues.TaskQueues.new.Goals as goal

pub invariant_of-result : goal.invariant_of-result
invariant_of-result c =
    empty_index (slot_at c.new-2.result.slots) (ranks_of c.in_ok-index.index) (λ slot. ap (λ slots. slot_at slots slot) c.new-2.ensures) c.in_ok-index.ensures
