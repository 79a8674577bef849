use Rattle.tw_host.proofs.Names.{AreTurns, DoneView, IsDoneOf, IsTurn, List, Option, PoolView, Turn, is_in, length, true, ◌++◌, ◌+◌, ◌≡◌}
use Rattle.tw_host.proofs.batch.take_turns.Given as goal

-- the turns before the last one, and that one
abbrev pub invariant-loop-made : goal.invariant-loop-made
invariant-loop-made l = record {
  actor : is_in l.pool.layout l.actor ≡ true;
  before : PoolView;
  had : Option DoneView;
  program : IsDoneOf before.program had;
  last : IsTurn before l.actor had l.answer l.pool;
  so_far : (past : List Turn) × (length past + 1 ≡ l.made)
      × ((rest : List Turn) (answer : Turn) (new : PoolView) → AreTurns before l.actor had rest answer new → AreTurns l.fn.pool l.actor l.fn.given (past ++ rest) answer new);
}
