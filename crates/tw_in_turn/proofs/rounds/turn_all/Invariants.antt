use Rattle.tw_in_turn.proofs.Names.{AreKept, IsAfter, IsGrown, Looked, length, looks_at, noes, turns_in, ℕ, ◌+◌, ◌≤◌}
use Rattle.tw_in_turn.proofs.rounds.turn_all.Given as goal

abbrev pub invariant-loop-rounds : goal.invariant-loop-rounds
invariant-loop-rounds g l = record {
  grown : IsGrown l.fn.pool l.pool;
  kept_is : AreKept l.pool l.kept;
  after : IsAfter l.fn.seed l.fn.pool (turns_in l.fn.seed l.fn.pool.layout l.rounds) l.pool;
  many : l.rounds ≤ length l.pool.history;
  looked : (count : ℕ) × Looked g.S.StopSignal.says l.fn.stop l.stop (noes count) × (looks_at l.pool l.kept ≤ looks_at l.fn.pool l.fn.kept + count);
}
