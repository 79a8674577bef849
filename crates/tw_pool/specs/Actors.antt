-- The events of an actor, and how many each actor has made, by their places.
use Rattle.std.specs.Prelude.{◌≡◌, ℕ, ◌==◌, Bool, false, List, filter, length, get_or}
use Rattle.tw_types.specs.declared.actor.Actor.{Actor}
use Rattle.tw_types.specs.declared.actor.Actor.TheVariants.{Engine, Server, Worker}
use Rattle.tw_types.specs.declared.event.Event.{Event}
pub use Rattle.tw_types.specs.Actor.{HasPlace, actor_of_place, place_of}
use Rattle.tw_code.specs.machine.History.{actor_of}

abbrev pub same_actor : Actor → Actor → Bool
same_actor (Engine a) (Engine b) = a == b
same_actor (Engine a) (Server b) = false
same_actor (Engine a) (Worker b) = false
same_actor (Server a) (Engine b) = false
same_actor (Server a) (Server b) = a == b
same_actor (Server a) (Worker b) = false
same_actor (Worker a) (Engine b) = false
same_actor (Worker a) (Server b) = false
same_actor (Worker a) (Worker b) = a == b

-- returns the events of an actor, in order
abbrev pub events_of : Actor → List Event → List Event
events_of actor history = filter (λ event. same_actor (actor_of event) actor) history

-- holds if the counts have the number of each actor's events at its place
abbrev pub AreCounts : List ℕ → List Event → Type 0
AreCounts counts history = (actor : Actor) → HasPlace actor → get_or counts (place_of actor) 0 ≡ length (events_of actor history)
