use Rattle.std.proofs.Common.{◌≡◌, All, vec_len, None}
use Rattle.tw_in_turn.proofs.run.nothing_kept.Given as goal

abbrev pub invariant-loop : goal.invariant-loop
invariant-loop l = (vec_len l.kept ≡ l.counter) × All (λ d. d ≡ None) l.kept.items
