-- A run in one thread. Its actors make steps one after the other: engines, servers, workers, again and again, or in an order that a seed
-- decides. A job that an actor is issued is run at once, and its `Done` is submitted with the actor's next step.
use Rattle.std.specs.Prelude.{◌≡◌, ◌<◌, ◌≤◌, ◌+◌, ◌%◌, ℕ, zero, suc, Bool, true, false, length, Option, Some, None}
use Rattle.tw_types.specs.declared.actor.Actor.{Actor}
use Rattle.tw_types.specs.Actor.{actor_at, actor_count}
use Rattle.tw_types.specs.Layout.{ActorCounts}
use Rattle.tw_code.specs.machine.State.{State}
use Rattle.tw_soundness.specs.EndsWell.{EndsWell}
use Rattle.tw_frame.specs.Jobs.{DoneView, IsDone, JobView}
use Rattle.tw_pool.specs.declared.answer.Closing.{Closing}
use Rattle.tw_pool.specs.declared.answer.Closing.TheVariants.{Quiet, Stuck, Stopped, Limit}
use Rattle.tw_pool.specs.declared.answer.Turn.{Turn}
use Rattle.tw_pool.specs.declared.answer.Turn.TheVariants.{Over, Foreign, Owed, NoMemory, Run, Ended, Went, Idle}
use Rattle.tw_pool.specs.Ends.{FinalView, IsClosedPool}
use Rattle.tw_pool.specs.History.{HistoryView}
use Rattle.tw_pool.specs.PoolView.{PoolView, HasState}
use Rattle.tw_pool.specs.Turns.{IsTurn, issued_to}
use Rattle.tw_pool.specs.Work.{IsIdle}
use Rattle.tw_in_turn.specs.Drawn.{place_for}

-- ---- the order of steps

-- returns the actor that makes the step after so many, round by round
abbrev pub actor_after : ActorCounts → ℕ → Actor
actor_after layout turns = actor_at layout (turns % actor_count layout)

-- returns the actor that is so many after an index; the first one follows the last
abbrev pub actor_from : ActorCounts → ℕ → ℕ → Actor
actor_from layout index skipped = actor_at layout ((index + skipped) % actor_count layout)

-- the first actor that isn't idle, from the place on that a seed draws for the step
pub record IsDrawn (seed : ℕ) (p : PoolView) (turns : ℕ) (actor : Actor) : Type 0 where
  pub skipped : ℕ
  pub is : actor ≡ actor_from p.layout (place_for seed turns (actor_count p.layout)) skipped
  pub idle : (k : ℕ) → k < skipped → IsIdle p (actor_from p.layout (place_for seed turns (actor_count p.layout)) k)
  pub busy : IsIdle p actor → ⊥

-- holds for the actor that makes the step after so many, with a seed or none
abbrev pub IsNext : Option ℕ → PoolView → ℕ → Actor → Type 0
IsNext None p turns actor = actor ≡ actor_after p.layout turns
IsNext (Some seed) p turns actor = IsDrawn seed p turns actor

-- ---- a step

-- the result of a job: local steps up to an instruction that isn't local, or up to one for which an allocation failed
pub record IsWorkOf (job : JobView) (short : Bool) (done : DoneView) : Type 0 where
  pub own : done.before ≡ job
  pub short_is : done.short ≡ short
  pub is_done : IsDone job.program.program job.procedure job.position done.after done.steps short

-- holds for the result of the issued job, up to an instruction that isn't local; and for none without a job
abbrev pub HasDone : Option JobView → Option DoneView → Type 0
HasDone None given = given ≡ None
HasDone (Some job) None = ⊥
HasDone (Some job) (Some done) = IsWorkOf job false done

-- holds for what an actor submits with its step
abbrev pub Has : PoolView → Actor → Option DoneView → Type 0
Has p actor given = (s : State) → HasState p s → HasDone (issued_to p s actor) given

-- the step of an actor with that
pub record IsMove (old : PoolView) (actor : Actor) (answer : Turn) (new : PoolView) : Type 0 where
  pub given : Option DoneView
  pub has : Has old actor given
  pub turn : IsTurn old actor given answer new

-- ---- steps, one after the other

-- holds for the results after which the next actor makes a step
abbrev pub Continues : Turn → Type 0
Continues (Over closing) = ⊥
Continues (Foreign done) = ⊥
Continues Owed = ⊥
Continues (NoMemory given) = ⊥
Continues (Run job) = Unit {0}
Continues Ended = Unit {0}
Continues Went = Unit {0}
Continues Idle = Unit {0}

-- holds for the pool after so many steps, from the first one on
abbrev pub IsAfter : Option ℕ → PoolView → ℕ → PoolView → Type 0
IsAfter seed first zero p = p ≡ first
IsAfter seed first (suc turns) p =
    (before : PoolView) × (actor : Actor) × (answer : Turn) × IsAfter seed first turns before × IsNext seed before turns actor × IsMove before actor answer p × Continues answer

-- the step after some others, with a result for which `Answers` holds
pub record IsReachedWith (seed : Option ℕ) (first : PoolView) (Answers : Turn → Type 0) (p : PoolView) : Type 0 where
  pub turns : ℕ
  pub before : PoolView
  pub after : IsAfter seed first turns before
  pub actor : Actor
  pub next : IsNext seed before turns actor
  pub answer : Turn
  pub last : IsMove before actor answer p
  pub is : Answers answer

-- ---- how it ends

-- holds if the run is over
abbrev pub IsOver : Turn → Type 0
IsOver answer = (closing : Closing) × (answer ≡ Over closing)

-- holds if an allocation failed: for the step's event, or for a local instruction of the job that it issued
abbrev pub IsOutOfMemory : Turn → Type 0
IsOutOfMemory (Over closing) = ⊥
IsOutOfMemory (Foreign done) = ⊥
IsOutOfMemory Owed = ⊥
IsOutOfMemory (NoMemory given) = Unit {0}
IsOutOfMemory (Run job) = (done : DoneView) × IsWorkOf job true done
IsOutOfMemory Ended = ⊥
IsOutOfMemory Went = ⊥
IsOutOfMemory Idle = ⊥

-- holds if it has ended by itself, or has reached the limit
abbrev pub HasEnded : Option Closing → Type 0
HasEnded None = ⊥
HasEnded (Some Quiet) = Unit {0}
HasEnded (Some (Stuck rules)) = Unit {0}
HasEnded (Some Stopped) = ⊥
HasEnded (Some Limit) = Unit {0}

-- the pool was closed; since the first one only its events are new
pub record IsLeftIn (first p : PoolView) (final : FinalView) (history : HistoryView) : Type 0 where
  pub of_first : p ≡ record first { history = p.history }
  pub within : length p.history ≤ first.limit
  pub shut : IsClosedPool p final history
  pub ends_well : EndsWell first.program.program shut.state
