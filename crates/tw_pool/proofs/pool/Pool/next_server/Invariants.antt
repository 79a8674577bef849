use Rattle.tw_pool.proofs.Names.{AreIdle, ◌+◌, ◌≤◌}
use Rattle.tw_pool.proofs.pool.Pool.next_server.Given as goal

abbrev pub invariant-loop-server : goal.invariant-loop-server
invariant-loop-server l = record {
  low : l.from ≤ l.server;
  idle : AreIdle l.self (l.self.layout.engines + l.from) (l.self.layout.engines + l.server);
}
