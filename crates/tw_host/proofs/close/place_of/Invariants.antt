use Rattle.tw_host.proofs.Names.{Actor, map, slice_index_or, ℕ, ◌<◌, ◌≢◌, ◌≤◌}
use Rattle.tw_host.proofs.close.place_of.Given as goal

abbrev pub invariant-loop-k : goal.invariant-loop-k
invariant-loop-k g l = (j : ℕ) (d : Actor) → l.from ≤ j → j < l.k → slice_index_or (map (λ s. s.actor) l.seats) j d ≢ l.actor
