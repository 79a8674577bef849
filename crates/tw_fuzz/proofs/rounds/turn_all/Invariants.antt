use Rattle.std.proofs.Common.{◌≡◌, All}
use Rattle.tw_host.specs.Sees.{IsDoneOf}
use Rattle.tw_fuzz.proofs.rounds.turn_all.Given as goal

abbrev pub invariant-loop-place : goal.invariant-loop-place
invariant-loop-place l = All (λ d. IsDoneOf l.fn.pool.program d) l.kept.items

abbrev pub invariant-loop-round : goal.invariant-loop-round
invariant-loop-round l = (l.pool.program ≡ l.fn.pool.program) × All (λ d. IsDoneOf l.fn.pool.program d) l.kept.items
