-- The seats of a layout, one for each actor, with their events.
use Rattle.std.specs.Prelude.{◌≢◌, List}
use Rattle.std.specs.List.{All}
use Rattle.tw_types.specs.declared.actor.Actor.{Actor}
use Rattle.tw_types.specs.declared.event.Event.{Event}
pub use Rattle.tw_types.specs.Actor.{actor_at, actor_count, actors_of}

pub record SeatEvents : Type 0 where
  pub actor : Actor
  pub events : List Event

abbrev pub seen_by : Actor → List Event → SeatEvents
seen_by actor events = record { actor = actor; events = events }

-- holds if none of these seats is the actor's
abbrev pub NoneOf : Actor → List Actor → Type 0
NoneOf actor seats = All (λ other. other ≢ actor) seats
