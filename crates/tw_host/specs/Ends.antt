-- The result of closing a host.
use Rattle.std.specs.Prelude.{◌≡◌, ◌≢◌, ◌≤◌, ◌⊎◌, true, List, [], length, map, sum_by}
use Rattle.std.specs.List.{Contains}
use Rattle.std.specs.List.Sorted.{IsPermutation}
use Rattle.tw_types.specs.declared.actor.Actor.{Actor}
use Rattle.tw_types.specs.declared.event.Event.{Event}
use Rattle.tw_types.specs.Actor.{is_in}
use Rattle.tw_types.specs.Layout.{ActorCounts}
use Rattle.tw_soundness.specs.EndsWell.{EndsWell}
use Rattle.tw_pool.specs.Actors.{events_of}
use Rattle.tw_pool.specs.Ends.{FinalView, IsClosedPool}
use Rattle.tw_pool.specs.History.{HistoryView}
use Rattle.tw_pool.specs.PoolView.{PoolView}
use Rattle.tw_host.specs.declared.close.Closed.{Closed}
use Rattle.tw_host.specs.declared.close.Closed.TheVariants.{Ended, Differs}
use Rattle.tw_host.specs.Run.{Run, run_of}
use Rattle.tw_host.specs.Seats.{NoneOf, SeatEvents, actors_of, seen_by}

-- returns a seat with exactly its actor's events
abbrev pub seen_of : List Event → Actor → SeatEvents
seen_of history actor = seen_by actor (events_of actor history)

-- holds if all seats together have as many events as the run
abbrev pub Together : List SeatEvents → List Event → Type 0
Together seats history = sum_by (λ (s : SeatEvents). length s.events) seats ≡ length history

-- A pool of the run was closed. There is one seat for each actor, with exactly its actor's events; the lists are returned in
-- the order of the actors.
pub record IsEnded (run : Run) (seats : List SeatEvents) (by_seat : List (List Event)) (final : FinalView) (history : HistoryView) : Type 0 where
  pub pool : PoolView
  pub of_run : run_of pool ≡ run
  pub within : length pool.history ≤ run.limit
  pub shut : IsClosedPool pool final history
  pub ends_well : EndsWell run.program.program shut.state
  pub one_each : IsPermutation seats (map (seen_of history.events) (actors_of run.layout))
  pub by_seat_is : by_seat ≡ map (λ actor. events_of actor history.events) (actors_of run.layout)
  pub together : Together seats history.events

-- holds if the seat of an actor has other events than the actor made; or none of these seats is the actor's
abbrev pub IsOther : List SeatEvents → Actor → List Event → List Event → Type 0
IsOther seats actor list history =
    (Contains seats (seen_by actor list) × (list ≢ events_of actor history)) ⊎ (NoneOf actor (map (λ s. s.actor) seats) × (list ≡ []))

-- A pool of the run was closed, but the seat of this actor doesn't fit its events.
pub record IsDiffering (run : Run) (seats : List SeatEvents) (actor : Actor) (list : List Event) (history : HistoryView) : Type 0 where
  pub pool : PoolView
  pub of_run : run_of pool ≡ run
  pub within : length pool.history ≤ run.limit
  pub final : FinalView
  pub shut : IsClosedPool pool final history
  pub of_layout : is_in run.layout actor ≡ true
  pub other : IsOther seats actor list history.events
  pub together : Together seats history.events

-- holds if each actor of the layout has one of these seats, and no other actor has any
abbrev pub IsOneEach : ActorCounts → List SeatEvents → Type 0
IsOneEach layout seats = IsPermutation (map (λ (s : SeatEvents). s.actor) seats) (actors_of layout)

-- Holds if a named actor has a seat, with the list that is returned, and made other events.
abbrev pub IsDifference : List SeatEvents → Closed → Type 0
IsDifference seats (Ended history final by_seat) = Unit {0}
IsDifference seats (Differs actor list history) = Contains seats (seen_by actor list.items) × (list.items ≢ events_of actor history.events)

-- holds for the result of closing a run with these seats
abbrev pub Closes : Run → List SeatEvents → Closed → Type 0
Closes run seats (Ended history final by_seat) = IsEnded run seats (map (λ v. v.items) by_seat.items) final history
Closes run seats (Differs actor list history) = IsDiffering run seats actor list.items history
