use Rattle.tw_pool.proofs.Names.{AreIdle, ◌≤◌}
use Rattle.tw_pool.proofs.pool.Pool.next_engine.Given as goal

abbrev pub invariant-loop-engine : goal.invariant-loop-engine
invariant-loop-engine l = record {
  low : l.from ≤ l.engine;
  idle : AreIdle l.self l.from l.engine;
}
