use Rattle.tw_host.proofs.Names.{Actor, IsPermutation, actor_at, map, slice_index_or, ℕ, ◌<◌, ◌≡◌}
use Rattle.tw_host.proofs.close.put_in_order.Given as goal

abbrev pub invariant-loop-k : goal.invariant-loop-k
invariant-loop-k g l = record {
  moved : IsPermutation l.fn.seats l.seats;
  placed : (j : ℕ) (d : Actor) → j < l.k → slice_index_or (map (λ s. s.actor) l.seats) j d ≡ actor_at l.layout j;
}
