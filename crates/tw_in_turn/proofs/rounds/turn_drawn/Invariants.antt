use Rattle.tw_in_turn.proofs.Names.{AreKept, IsIdle, Looked, actor_from, looks_at, noes, ℕ, ◌+◌, ◌<◌, ◌≡◌, ◌≤◌}
use Rattle.tw_in_turn.proofs.rounds.turn_drawn.Given as goal

abbrev pub invariant-loop-skipped : goal.invariant-loop-skipped
invariant-loop-skipped g l = record {
  same : l.pool ≡ l.fn.pool;
  kept_is : AreKept l.pool l.kept;
  idle : (k : ℕ) → k < l.skipped → IsIdle l.pool (actor_from l.pool.layout l.first k);
  looked : (count : ℕ) × Looked g.S.StopSignal.says l.fn.stop l.stop (noes count) × (looks_at l.pool l.kept ≤ looks_at l.fn.pool l.fn.kept + count);
}
