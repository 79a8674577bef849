use Rattle.tw_host.proofs.Names.{[], actor_at, actor_count, map, range_with_len, vec_capacity, vec_len, ◌+◌, ◌≡◌, ◌≤◌}
use Rattle.tw_host.proofs.seat.seats_of.Given as goal

abbrev pub invariant-loop-seat : goal.invariant-loop-seat
invariant-loop-seat g l = record {
  parts : l.all.parts + l.seat ≡ actor_count l.layout;
  amount : l.all.amount ≡ 0;
  len : vec_len l.seats ≡ l.seat;
  room : actor_count l.layout ≤ vec_capacity l.seats;
  actors : map (λ s. s.actor) l.seats.items ≡ map (actor_at l.layout) (range_with_len 0 l.seat);
  events : map (λ s. s.events.items) l.seats.items ≡ map (λ _. []) (map (actor_at l.layout) (range_with_len 0 l.seat));
}
