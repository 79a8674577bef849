use Rattle.std.proofs.Common.{◌≡◌, All}
use Rattle.tw_host.specs.Sees.{IsDoneOf}
use Rattle.tw_fuzz.proofs.rounds.turn_round.Given as goal

abbrev pub invariant-loop-place : goal.invariant-loop-place
invariant-loop-place l = (l.pool.program ≡ l.fn.pool.program) × All (λ d. IsDoneOf l.fn.pool.program d) l.kept
