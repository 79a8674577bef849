-- Batches: several steps of one seat that hold the lock once, their result, and the events that the seat gets.
use Rattle.std.specs.Prelude.{◌≡◌, ◌<◌, ◌≤◌, ◌*◌, ◌⊎◌, ℕ, false, List, [], ◌∷◌, ◌++◌, length, Option, Some, None, Result, Ok, Err, slice_get}
use Rattle.tw_types.specs.declared.actor.Actor.{Actor}
use Rattle.tw_types.specs.declared.event.Event.{Event}
use Rattle.tw_code.specs.declared.procedure.Procedure.{Procedure}
use Rattle.tw_code.specs.accepting.Flow.{flows}
use Rattle.tw_code.specs.accepting.Walk.{IsBudget}
use Rattle.tw_code.specs.machine.Rights.{Typing}
use Rattle.tw_soundness.specs.AtPlace.{Accepts}
use Rattle.tw_frame.specs.Banks.{HasText}
use Rattle.tw_frame.specs.Jobs.{DoneView, JobView}
use Rattle.tw_frame.specs.Ready.{IsStop}
use Rattle.tw_pool.specs.declared.answer.Turn.{Turn}
use Rattle.tw_pool.specs.declared.answer.Turn.TheVariants as turn
use Rattle.tw_pool.specs.Actors.{events_of}
use Rattle.tw_pool.specs.PoolView.{PoolView, with_events}
use Rattle.tw_pool.specs.Turns.{IsTurn}
use Rattle.tw_host.specs.declared.locked.Strange.{Strange}
use Rattle.tw_host.specs.Run.{Run, run_of}
use Rattle.tw_host.specs.Sees.{Sees}

-- the greatest number of steps
abbrev pub most_turns : ℕ
most_turns = 64

-- holds if a job makes no step: its next instruction isn't local
abbrev pub IsAtStop : JobView → Type 0
IsAtStop job = (p : Procedure) × (slice_get job.program.program job.procedure ≡ Some p) × IsStop p.code job.position.place

-- the greatest budget of a task whose jobs are run under the lock
abbrev pub few_instructions : ℕ
few_instructions = 256

-- a job of an accepted procedure whose budget is that small, and without text registers, so that no step allocates
pub record IsBrief (job : JobView) : Type 0 where
  pub p : Procedure
  pub here : slice_get job.program.program job.procedure ≡ Some p
  pub typings : List Typing
  pub accepts : Accepts job.program.program typings p
  pub budget : ℕ
  pub is_budget : IsBudget (flows p.code) budget
  pub few : budget ≤ few_instructions
  pub plain : HasText p.registers → ⊥

-- holds for a job that is run under the lock
abbrev pub RunsHere : JobView → Type 0
RunsHere job = IsAtStop job ⊎ IsBrief job

-- Holds for what the next step of a batch is passed. After an event that issues no job, and after the end of a task, that is
-- nothing. After a job whose next instruction isn't local, or whose task is brief, it is the job's `Done`, which has few steps and isn't
-- short. After any other result the batch ends.
abbrev pub HasNextResult : Turn → Option DoneView → Type 0
HasNextResult (turn.Over closing) next = ⊥
HasNextResult (turn.Foreign done) next = ⊥
HasNextResult turn.Owed next = ⊥
HasNextResult (turn.NoMemory given) next = ⊥
HasNextResult (turn.Run job) next = RunsHere job × ((done : DoneView) × (next ≡ Some done) × (done.before ≡ job) × (done.steps ≤ few_instructions) × (done.short ≡ false))
HasNextResult turn.Ended next = next ≡ None
HasNextResult turn.Went next = next ≡ None
HasNextResult turn.Idle next = ⊥

-- holds for steps of an actor, each in the state that the one before left: some results after which the batch continues, and the last one
abbrev pub AreTurns : PoolView → Actor → Option DoneView → List Turn → Turn → PoolView → Type 0
AreTurns old actor given [] answer new = IsTurn old actor given answer new
AreTurns old actor given (first ∷ rest) answer new =
    (next : Option DoneView) × (between : PoolView) × IsTurn old actor given first between × HasNextResult first next × AreTurns between actor next rest answer new

-- some pool of the run, within its limit, in which the actor has `count` events, makes at most `most` such steps, and they append exactly these
pub record SomeTurns (most : ℕ) (run : Run) (actor : Actor) (count : ℕ) (given : Option DoneView) (answer : Turn) (es : List Event) : Type 0 where
  pub pool : PoolView
  pub of_run : run_of pool ≡ run
  pub within : length pool.history ≤ run.limit
  pub same_count : length (events_of actor pool.history) ≡ count
  pub before : List Turn
  pub few : length before < most
  pub turns : AreTurns pool actor given before answer (with_events pool es)

-- the seat had the old events, and gets these; or an allocation for them failed, and the pool made no step
pub record SeesTurns (most : ℕ) (run : Run) (actor : Actor) (old new : List Event) (given : Option DoneView) (answer : Turn) : Type 0 where
  pub es : List Event
  pub appended : new ≡ old ++ es
  pub few : length es ≤ 2 * most
  pub own : events_of actor es ≡ es
  pub turns : SomeTurns most run actor (length old) given answer es ⊎ ((answer ≡ turn.NoMemory given) × (es ≡ []))

abbrev pub SeesUpTo : ℕ → Run → Actor → List Event → List Event → Option DoneView → Result Turn Strange → Type 0
SeesUpTo most run actor old new given (Ok answer) = SeesTurns most run actor old new given answer
SeesUpTo most run actor old new given (Err strange) = Sees run actor old new given (Err strange)

abbrev pub SeesAll : Run → Actor → List Event → List Event → Option DoneView → Result Turn Strange → Type 0
SeesAll = SeesUpTo most_turns
