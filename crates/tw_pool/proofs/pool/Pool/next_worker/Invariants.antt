use Rattle.tw_pool.proofs.Names.{AreIdle, ◌+◌, ◌≤◌}
use Rattle.tw_pool.proofs.pool.Pool.next_worker.Given as goal

abbrev pub invariant-loop-worker : goal.invariant-loop-worker
invariant-loop-worker l = record {
  low : l.from ≤ l.worker;
  idle : AreIdle l.self (l.self.layout.engines + l.self.layout.servers + l.from) (l.self.layout.engines + l.self.layout.servers + l.worker);
}
