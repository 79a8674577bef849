-- With one seat for each actor, an actor that is named at the end has a seat.
use Rattle.tw_host.proofs.Names.{Actor, ActorCounts, All-permutation, Closes, IsDifference, IsOneEach, IsOther, List, NoneOf, Run, SeatEvents, actor_at, actor_count, actors_of, arith, get_or-map-range_with_len, index_of, inl, inr, is_in, length, length-map-range_with_len, map, true, ◌<◌, ◌∙◌, ◌≡◌, ◌≢◌, ◌⊎◌}
use Rattle.tw_host.specs.declared.close.Closed.{Closed}
use Rattle.tw_host.specs.declared.close.Closed.TheVariants.{Ended, Differs}
use Rattle.tw_host.proofs.Comparing.{index_back, index_low}

-- an actor of the layout is among its actors
none_lacks : (layout : ActorCounts) (actor : Actor) → is_in layout actor ≡ true → NoneOf actor (actors_of layout) → ⊥
none_lacks layout actor is none =
    let k = index_of layout actor in
    let low : k < actor_count layout = index_low layout actor is in
    none k actor (omega (arith, low, length-map-range_with_len (actor_at layout) 0 (actor_count layout))) (get_or-map-range_with_len (actor_at layout) 0 (actor_count layout) k k actor low (omega arith) ∙ index_back layout actor is)

pub with_seat : (run : Run) (seats : List SeatEvents) (closed : Closed) → Closes run seats closed → IsOneEach run.layout seats → IsDifference seats closed
with_seat run seats (Ended history final by_seat) closes each = tt
with_seat run seats (Differs actor list history) closes each = by closes.other
  where
    by : IsOther seats actor list.items history.events → IsDifference seats (Differs actor list history)
    by (inl differs) = differs
    by (inr none) =
        absurd (none_lacks run.layout actor closes.of_layout (All-permutation (λ b. b ≢ actor) (map (λ (s : SeatEvents). s.actor) seats) (actors_of run.layout) each none.0))
