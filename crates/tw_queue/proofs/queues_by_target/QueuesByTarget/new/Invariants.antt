use Rattle.tw_queue.proofs.Names.{[], length, ranks_in, replicate, ◌≡◌}
use Rattle.tw_queue.proofs.queues_by_target.QueuesByTarget.new.Given as goal

abbrev pub invariant-loop : goal.invariant-loop
invariant-loop l = record {
  ranks : ranks_in l.queues.items ≡ replicate l.counter [];
  count : length l.queues.items ≡ l.counter;
}
