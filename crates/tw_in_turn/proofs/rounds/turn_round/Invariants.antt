use Rattle.tw_in_turn.proofs.Names.{AreKept, IsAfter, IsGrown, Looked, None, PoolView, actor_count, looks_at, noes, ℕ, ◌*◌, ◌+◌, ◌-◌, ◌≤◌}
use Rattle.tw_in_turn.proofs.Rounding.{MoreOrIdle}
use Rattle.tw_in_turn.proofs.rounds.turn_round.Given as goal

abbrev pub invariant-loop-index : goal.invariant-loop-index
invariant-loop-index g l = record {
  grown : IsGrown l.fn.pool l.pool;
  kept_is : AreKept l.pool l.kept;
  within : l.from ≤ actor_count l.fn.pool.layout;
  after : (first : PoolView) (rounds : ℕ) → IsAfter None first (rounds * actor_count l.fn.pool.layout) l.fn.pool → IsAfter None first (rounds * actor_count l.fn.pool.layout + l.from) l.pool;
  more : MoreOrIdle l.fn.pool l.pool l.from;
  looked : (count : ℕ) × Looked g.S.StopSignal.says l.fn.stop l.stop (noes count) × (looks_at l.pool l.kept ≤ looks_at l.fn.pool l.fn.kept + count);
}

abbrev pub decreases-loop-index : goal.decreases-loop-index
decreases-loop-index g l = actor_count l.fn.pool.layout - l.from
