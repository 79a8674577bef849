-- The result of a host's step, and the events that its seat gets.
use Rattle.std.specs.Prelude.{◌≡◌, ◌≢◌, ◌≤◌, ◌⊎◌, ℕ, List, [], ◌++◌, length, Option, Result, Ok, Err, IfSome}
use Rattle.tw_types.specs.declared.actor.Actor.{Actor}
use Rattle.tw_types.specs.declared.event.Event.{Event}
use Rattle.tw_verify.specs.Typed.{TypedProgram}
use Rattle.tw_frame.specs.Jobs.{DoneView}
use Rattle.tw_pool.specs.declared.answer.Turn.{Turn}
use Rattle.tw_pool.specs.declared.answer.Turn.TheVariants as turn
use Rattle.tw_pool.specs.Actors.{events_of}
use Rattle.tw_pool.specs.PoolView.{PoolView, with_events}
use Rattle.tw_pool.specs.Turns.{AreOwn, IsTurn}
use Rattle.tw_host.specs.declared.locked.Strange.{Strange}
use Rattle.tw_host.specs.Run.{Run, run_of}

-- some pool of the run, within its limit, in which the actor has `count` events, makes a step that appends exactly these
pub record SomeTurn (run : Run) (actor : Actor) (count : ℕ) (given : Option DoneView) (answer : Turn) (es : List Event) : Type 0 where
  pub pool : PoolView
  pub of_run : run_of pool ≡ run
  pub within : length pool.history ≤ run.limit
  pub same_count : length (events_of actor pool.history) ≡ count
  pub turns : IsTurn pool actor given answer (with_events pool es)

-- holds for such a step; or an allocation for the events failed, and the pool made no step
abbrev pub TurnsOrNot : Run → Actor → ℕ → Option DoneView → Turn → List Event → Type 0
TurnsOrNot run actor count given answer es = SomeTurn run actor count given answer es ⊎ ((answer ≡ turn.NoMemory given) × (es ≡ []))

-- the seat had the old events, and gets these
pub record SeesTurn (run : Run) (actor : Actor) (old new : List Event) (given : Option DoneView) (answer : Turn) : Type 0 where
  pub es : List Event
  pub appended : new ≡ old ++ es
  pub own : AreOwn actor es
  pub turns : TurnsOrNot run actor (length old) given answer es

abbrev pub Sees : Run → Actor → List Event → List Event → Option DoneView → Result Turn Strange → Type 0
Sees run actor old new given (Ok answer) = SeesTurn run actor old new given answer
Sees run actor old new given (Err strange) = (new ≡ old) × (strange.count ≢ length old) × (strange.done ≡ given)

-- ---- consequences for jobs

abbrev pub IsDoneOf : TypedProgram → Option DoneView → Type 0
IsDoneOf program done = IfSome done (λ d. d.before.program ≡ program)

-- holds if jobs and results in an answer are of the program
abbrev pub IsAnswerOf : TypedProgram → Turn → Type 0
IsAnswerOf program (turn.Over closing) = Unit {0}
IsAnswerOf program (turn.Foreign done) = done.before.program ≡ program
IsAnswerOf program turn.Owed = Unit {0}
IsAnswerOf program (turn.NoMemory done) = IsDoneOf program done
IsAnswerOf program (turn.Run job) = job.program ≡ program
IsAnswerOf program turn.Ended = Unit {0}
IsAnswerOf program turn.Went = Unit {0}
IsAnswerOf program turn.Idle = Unit {0}
