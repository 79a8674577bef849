-- The contract of a driver: the list of its steps, from its first scheduling step to its end.
use Rattle.std.specs.Prelude.{◌≡◌, ℕ, Bool, true, false, List, [], ◌∷◌, ◌++◌, Option, Some, None, Result, Ok, Err}
use Rattle.tw_types.specs.declared.actor.Actor.{Actor}
use Rattle.tw_frame.specs.Jobs.{DoneView, JobView}
use Rattle.tw_pool.specs.declared.answer.Turn.{Turn}
use Rattle.tw_pool.specs.declared.answer.Turn.TheVariants as turn
use Rattle.tw_host.specs.declared.locked.Strange.{Strange}
use Rattle.tw_workers.specs.declared.driver.End.{End}

abbrev pub Answer : Type 0
Answer = Result Turn Strange

-- A step of a driver: a scheduling step or a batch, a stop of the run, a job, a job that a stop of the run cuts off, or a call of the observer
-- before or after the job.
-- A scheduling step has its argument and its result, and a batch the argument of its first step and the result of its last.
pub data Step : Type 0 where
  Turned : Option DoneView → Answer → Step
  Held : Option DoneView → Answer → Step
  Stopped : Step
  Before : Actor → ℕ → Step
  Ran : JobView → DoneView → Step
  Left : JobView → Step
  After : Actor → ℕ → Step

-- returns one scheduling step, or a batch
abbrev pub step_or_batch : Bool → Option DoneView → Answer → Step
step_or_batch false given answer = Turned given answer
step_or_batch true given answer = Held given answer

-- ---- after a scheduling step

-- returns the steps of a job, which is run, or cut off, between the two calls of the observer
abbrev pub working : JobView → Option DoneView → List Step
working job None = Before job.actor job.task ∷ Left job ∷ After job.actor job.task ∷ []
working job (Some done) = Before job.actor job.task ∷ Ran job done ∷ After job.actor job.task ∷ []

-- holds if, after a failed allocation, a `Done` is submitted once, with any result, and the run is stopped
abbrev pub GivesUp : Option DoneView → List Step → Type 0
GivesUp None steps = steps ≡ Stopped ∷ []
GivesUp (Some done) steps = (answer : Answer) × (steps ≡ Turned (Some done) answer ∷ Stopped ∷ [])

-- The driver continues: these steps follow this result, and with its next scheduling step it submits this.
abbrev pub Continues : Answer → List Step → Option DoneView → Type 0
Continues (Ok (turn.Over closing)) steps next = ⊥
Continues (Ok (turn.Foreign done)) steps next = ⊥
Continues (Ok turn.Owed) steps next = ⊥
Continues (Ok (turn.NoMemory given)) steps next = ⊥
Continues (Ok (turn.Run job)) steps next = (done : DoneView) × (done.before ≡ job) × (done.short ≡ false) × (steps ≡ working job (Some done)) × (next ≡ Some done)
Continues (Ok turn.Ended) steps next = (steps ≡ []) × (next ≡ None)
Continues (Ok turn.Went) steps next = (steps ≡ []) × (next ≡ None)
Continues (Ok turn.Idle) steps next = (steps ≡ []) × (next ≡ None)
Continues (Err strange) steps next = ⊥

-- the driver ends after a job for which an allocation failed, or that was cut off
abbrev pub EndsWithin : JobView → List Step → Bool → Type 0
EndsWithin job steps true = (done : DoneView) × (rest : List Step) × (done.before ≡ job) × (done.short ≡ true) × GivesUp (Some done) rest × (steps ≡ working job (Some done) ++ rest)
EndsWithin job steps false = steps ≡ working job None

-- The driver ends: these steps follow its last result, and `memory` is whether an allocation failed.
abbrev pub Ends : Answer → List Step → Bool → Type 0
Ends (Ok (turn.Over closing)) steps memory = (steps ≡ []) × (memory ≡ false)
Ends (Ok (turn.Foreign done)) steps memory = (steps ≡ Stopped ∷ []) × (memory ≡ false)
Ends (Ok turn.Owed) steps memory = (steps ≡ Stopped ∷ []) × (memory ≡ false)
Ends (Ok (turn.NoMemory given)) steps memory = GivesUp given steps × (memory ≡ true)
Ends (Ok (turn.Run job)) steps memory = EndsWithin job steps memory
Ends (Ok turn.Ended) steps memory = ⊥
Ends (Ok turn.Went) steps memory = ⊥
Ends (Ok turn.Idle) steps memory = ⊥
Ends (Err strange) steps memory = (steps ≡ Stopped ∷ []) × (memory ≡ false)

-- holds if it continues, with or without a `Done` to submit; or if it ends
abbrev pub Follows : Answer → List Step → Result (Option DoneView) End → Type 0
Follows answer steps (Ok next) = Continues answer steps next
Follows answer steps (Err end) = Ends answer steps end.memory

-- ---- from a scheduling step to the end

-- a driver that submits this makes these steps, and `memory` is whether an allocation failed
pub data Drives : Option DoneView → List Step → Bool → Type 0 where
  ends : {given : Option DoneView} {memory : Bool} (several : Bool) (answer : Answer) (rest : List Step) → Ends answer rest memory → Drives given (step_or_batch several given answer ∷ rest) memory
  goes : {given : Option DoneView} {memory : Bool} (several : Bool) (answer : Answer) (later : List Step) (next : Option DoneView) (rest : List Step)
      → Continues answer later next → Drives next rest memory → Drives given (step_or_batch several given answer ∷ (later ++ rest)) memory
