-- The results that are kept from step to step of a run in one thread.
use Rattle.std.specs.Prelude.{◌≡◌, ◌≢◌, ◌<◌, ◌≤◌, ◌+◌, ◌*◌, ◌/◌, ◌⊎◌, ℕ, Bool, true, false, List, [], length, get_or, sum_by, Option, Some, None}
use Rattle.tw_types.specs.declared.actor.Actor.{Actor}
use Rattle.tw_types.specs.Actor.{actor_at, actor_count}
use Rattle.tw_types.specs.Layout.{ActorCounts, IsLayout}
use Rattle.tw_code.specs.accepting.Needs.{HasTargets}
use Rattle.tw_frame.specs.Jobs.{DoneView, JobView}
use Rattle.tw_pool.specs.declared.answer.Turn.{Turn}
use Rattle.tw_pool.specs.declared.answer.Turn.TheVariants.{Run}
use Rattle.tw_pool.specs.PoolView.{PoolView}
use Rattle.tw_host.specs.Sees.{IsDoneOf}
use Rattle.tw_in_turn.specs.declared.rounds.End.{End}
use Rattle.tw_in_turn.specs.declared.rounds.End.TheVariants.{Over, NoMemory, Stopped}
use Rattle.tw_stop.specs.Looks.{looks, noes}
use Rattle.tw_in_turn.specs.Stopping.{EndsAfter, MayExecute, is_stop, looks_within}
use Rattle.tw_pool.specs.Work.{IsIdle}
use Rattle.tw_in_turn.specs.InTurn.{Continues, Has, IsAfter, IsMove, IsOver, IsOutOfMemory}

-- holds for the reason why no step follows this result, in the pool after it; a stop cuts off the job that was issued
abbrev pub Ends : End → PoolView → Turn → Type 0
Ends Over p answer = IsOver answer
Ends NoMemory p answer = IsOutOfMemory answer
Ends (Stopped cut) p answer = (job : JobView) × (answer ≡ Run job) × MayExecute p cut

-- ---- looks while tasks run

-- returns how many looks there were at least for a result that is kept
abbrev pub owed : Option DoneView → ℕ
owed None = 0
owed (Some done) = done.steps / 65536

abbrev pub all_owed : List (Option DoneView) → ℕ
all_owed kept = sum_by owed kept

-- returns how many there were at least, for the events and for all results that are kept
abbrev pub looks_at : PoolView → List (Option DoneView) → ℕ
looks_at p kept = looks_within p.history + all_owed kept

-- returns the answers of the looks in a step, if it isn't the last or ends so
abbrev pub answers_in : Option End → ℕ → List Bool
answers_in None count = noes count
answers_in (Some Over) count = noes count
answers_in (Some NoMemory) count = noes count
answers_in (Some (Stopped cut)) count = looks count true

-- holds for the looks in a step of an actor, from the result that it kept to the one that it keeps; there is one more before it
abbrev pub IsWatched : (List Bool → Type 0) → PoolView → Option DoneView → PoolView → Option DoneView → Option End → Type 0
IsWatched Looks old given new kept end =
    (count : ℕ) × Looks (answers_in end count) × (looks_within new.history + owed kept ≤ looks_within old.history + owed given + count + 1)

-- looks with such answers, and steps up to this pool, after which no step follows for this reason
abbrev pub EndsBy : (List Bool → Type 0) → Option ℕ → PoolView → List (Option DoneView) → End → PoolView → Type 0
EndsBy Looks seed first kept end p =
    (turns : ℕ) × (count : ℕ) × (looks_within p.history ≤ looks_at first kept + count + 1) × Looks (looks count (is_stop end)) × EndsAfter seed first turns end p

-- ---- results that are kept

-- an actor keeps a result for its step, and it is of the program that is run
pub record Keeps (p : PoolView) (actor : Actor) (given : Option DoneView) : Type 0 where
  pub has : Has p actor given
  pub program : IsDoneOf p.program given

-- holds if an actor keeps what it needs for its next step, or if no step follows
abbrev pub ContinuesOrEnds : PoolView → Actor → Turn → Option DoneView → Option End → Type 0
ContinuesOrEnds p actor answer kept None = Continues answer × Keeps p actor kept
ContinuesOrEnds p actor answer kept (Some end) = Ends end p answer

-- only events are new
pub record IsGrown (old new : PoolView) : Type 0 where
  pub same : new ≡ record old { history = new.history }
  pub within : length new.history ≤ old.limit

-- a step of an actor, the result that it keeps, and why the run is over, or none if it isn't; the others keep theirs. If the run
-- continues, there is one more event, or nothing has changed and the actor is idle.
pub record IsTurned (old : PoolView) (actor : Actor) (new : PoolView) (kept : Option DoneView) (end : Option End) : Type 0 where
  pub answer : Turn
  pub move : IsMove old actor answer new
  pub comes : ContinuesOrEnds new actor answer kept end
  pub others : (other : Actor) (its : Option DoneView) → other ≢ actor → Keeps old other its → Keeps new other its
  pub more : Continues answer → (length old.history + 1 ≤ length new.history) ⊎ ((new ≡ old) × IsIdle old actor)
  pub grown : IsGrown old new

-- each actor has what it needs for its next step, in the order of the actors
pub record AreKept (p : PoolView) (kept : List (Option DoneView)) : Type 0 where
  pub each : (index : ℕ) (d : Option DoneView) → index < actor_count p.layout → Keeps p (actor_at p.layout index) (get_or kept index d)
  pub long : length kept ≡ actor_count p.layout

-- a pool in which some event is due while its run isn't over
pub record MayTurn (p : PoolView) : Type 0 where
  pub counts : IsLayout p.layout
  pub targets : HasTargets p.program.program p.layout
  pub stopped : p.stopped ≡ false
  pub within : length p.history ≤ p.limit

-- returns how many steps so many rounds have: each actor's own, or with a seed one
abbrev pub turns_in : Option ℕ → ActorCounts → ℕ → ℕ
turns_in None layout rounds = rounds * actor_count layout
turns_in (Some seed) layout rounds = rounds

-- if a round isn't the last, there is some new event
pub record CompletesRound (seed : Option ℕ) (rounds : ℕ) (old new : PoolView) (kept : List (Option DoneView)) : Type 0 where
  pub more : length old.history < length new.history
  pub kept_is : AreKept new kept
  pub after : (first : PoolView) → IsAfter seed first (turns_in seed old.layout rounds) old → IsAfter seed first (turns_in seed old.layout (rounds + 1)) new

-- holds for the result of a round after so many, with a look for each of its events at least, and those while tasks ran
abbrev pub IsRoundResult : (List Bool → Type 0) → Option ℕ → ℕ → PoolView → List (Option DoneView) → PoolView → List (Option DoneView) → Option End → Type 0
IsRoundResult Looks seed rounds old had new kept None =
    CompletesRound seed rounds old new kept × (count : ℕ) × Looks (noes count) × (looks_at new kept ≤ looks_at old had + count)
IsRoundResult Looks seed rounds old had new kept (Some end) =
    (turns : ℕ) × (count : ℕ) × Looks (looks count (is_stop end)) × (looks_within new.history ≤ looks_at old had + count + 1)
    × ((first : PoolView) → IsAfter seed first (turns_in seed old.layout rounds) old → EndsAfter seed first turns end new)

-- a pool before its first event, with this number of actors
pub record IsOpened (p : PoolView) (count : ℕ) : Type 0 where
  pub first : p.history ≡ []
  pub count_is : count ≡ actor_count p.layout
