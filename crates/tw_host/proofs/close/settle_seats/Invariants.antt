use Rattle.tw_host.proofs.Names.{into_iter_items, into_iter_len, length, map, seen_by, sum_by, vec_capacity, vec_len, ◌++◌, ◌+◌, ◌≡◌, ◌≤◌}
use Rattle.tw_host.proofs.close.settle_seats.Given as goal

abbrev pub invariant-loop-seat : goal.invariant-loop-seat
invariant-loop-seat g l = record {
  lists : map (λ v. v.items) l.by_seat.items ++ map (λ s. s.events.items) (into_iter_items l.rest) ≡ map (λ s. s.events.items) l.fn.seats.items;
  parts : l.all.parts + into_iter_len l.rest ≡ l.fn.all.parts + vec_len l.fn.seats;
  amount : l.all.amount + sum_by (λ s. length s.events) (map (λ s. seen_by s.actor s.events.items) (into_iter_items l.rest)) ≡ l.fn.all.amount + sum_by (λ s. length s.events) (map (λ s. seen_by s.actor s.events.items) l.fn.seats.items);
  room : vec_len l.by_seat + into_iter_len l.rest ≤ vec_capacity l.by_seat;
  long : length (into_iter_items l.rest) ≡ into_iter_len l.rest;
}

abbrev pub decreases-loop-seat : goal.decreases-loop-seat
decreases-loop-seat g l = into_iter_len l.rest
