-- The effect of one event on the parts of a pool.
use Rattle.std.specs.Prelude.{◌≡◌, ◌≢◌, ℕ, ◌^◌, Option, Some, None, IsSome, slice_get}
use Rattle.std.specs.declared.result.Result.{Result}
use Rattle.std.specs.declared.result.Result.TheVariants.{Ok, Err}
use Rattle.std.specs.FinMap.{get}
use Rattle.tw_types.specs.declared.actor.Actor.{Actor}
use Rattle.tw_types.specs.declared.event.Event.{Event}
use Rattle.tw_types.specs.Layout.{ActorCounts}
use Rattle.tw_types.specs.Notices.{Notices}
use Rattle.tw_types.specs.Outcome.{Went}
use Rattle.tw_store.specs.Served.{IsUnchanged}
use Rattle.tw_code.specs.declared.instr.Instr.{Instr}
use Rattle.tw_code.specs.declared.procedure.Procedure.{Procedure}
use Rattle.tw_code.specs.machine.Bounds.{AreBelow}
use Rattle.tw_code.specs.machine.History.{actor_of}
use Rattle.tw_code.specs.machine.Machine.{step}
use Rattle.tw_code.specs.machine.State.{State}
use Rattle.tw_verify.specs.Typed.{TypedProgram}
use Rattle.tw_frame.specs.Jobs.{DoneView, FrameView, JobView, job_of}
use Rattle.tw_pool_state.specs.Coming.{frame_after}
use Rattle.tw_pool_state.specs.Fits.{AreParts}
use Rattle.tw_pool_state.specs.Parts.{state_of}
use Rattle.tw_pool_state.specs.Queued.{queues_after}
use Rattle.tw_pool_state.specs.RunningTasks.{with_running}
use Rattle.tw_pool_state.specs.declared.parts.Parts.{Parts}

-- ---- events

-- the event succeeds, the results are parts again, the queues have its notices, and no other actor's task has changed
pub record Succeeds (verified : TypedProgram) (layout : ActorCounts) (event : Event) (old : Parts) (notices : Notices) (new : Parts) : Type 0 where
  pub left : Notices
  pub step_is : step verified.program layout event (state_of old notices) ≡ Went (state_of new left)
  pub parts : AreParts verified layout new left
  pub queues : new.store.queues ≡ queues_after verified.program event (state_of old notices) old.store.queues
  pub others : (actor : Actor) → actor ≢ actor_of event → get new.running_tasks.tasks actor ≡ get old.running_tasks.tasks actor

-- holds if it does so for any set of notices that has those in the queues
abbrev pub Makes : TypedProgram → ActorCounts → Event → Parts → Parts → Type 0
Makes verified layout event old new = (notices : Notices) → AreParts verified layout old notices → Succeeds verified layout event old notices new

-- only reserved memory has changed
pub record Untouched (old new : Parts) : Type 0 where
  pub store : IsUnchanged old.store new.store
  pub rules : new.rules.rules ≡ old.rules.rules
  pub next_rule : new.rules.next ≡ old.rules.next
  pub tasks : new.tasks.tasks ≡ old.tasks.tasks
  pub next_task : new.next_task ≡ old.next_task
  pub running_tasks : new.running_tasks ≡ old.running_tasks
  pub outputs : new.outputs ≡ old.outputs

-- holds if a due event succeeds; nothing changes if none is due, or if an allocation fails
abbrev pub IsTried : {A E : Type 0} → Option A → (A → Type 0) → Type 0 → Result (Option A) E → Type 0
IsTried due Made Same (Ok None) = (due ≡ None) × Same
IsTried due Made Same (Ok (Some x)) = (due ≡ Some x) × Made x
IsTried due Made Same (Err e) = IsSome due × Same

-- ---- after a job

-- returns the parts after the job
abbrev pub with_done : Parts → Actor → FrameView → DoneView → Parts
with_done p actor f done = record p { running_tasks = with_running p.running_tasks actor (frame_after f done) }

-- the `Done` is of the job that was issued last for the actor's task
pub record IsOwed (p : Parts) (actor : Actor) (f : FrameView) (done : DoneView) : Type 0 where
  pub is_running : get p.running_tasks.tasks actor ≡ Some f
  pub own : done.before ≡ job_of f

-- numbers, counts and spent instructions are small
abbrev pub IsSmall : State → Type 0
IsSmall s = AreBelow (2 ^ 62) s

-- the actor's task is at this instruction after the job, in parts of a pool
pub record IsAtInstr (p : Parts) (actor : Actor) (done : DoneView) (instr : Instr) : Type 0 where
  pub layout : ActorCounts
  pub notices : Notices
  pub f : FrameView
  pub owed : IsOwed p actor f done
  pub parts : AreParts done.before.program layout (with_done p actor f done) notices
  pub small : IsSmall (state_of (with_done p actor f done) notices)
  pub q : Procedure
  pub here : slice_get done.before.program.program f.procedure ≡ Some q
  pub following_is : slice_get q.code done.after.place ≡ Some instr

-- holds if the event succeeds from there
abbrev pub MakesAfter : Event → Parts → Actor → DoneView → Parts → Type 0
MakesAfter event old actor done new = (layout : ActorCounts) (f : FrameView) → IsOwed old actor f done → Makes done.before.program layout event (with_done old actor f done) new

-- ---- jobs

-- the job is the actor's, issued under this number
pub record IsIssued (p : Parts) (actor : Actor) (event_no : ℕ) (job : JobView) : Type 0 where
  pub f : FrameView
  pub is_running : get p.running_tasks.tasks actor ≡ Some f
  pub number : f.event_no ≡ event_no
  pub job_is : job ≡ job_of f

-- holds for the result of a Take: the best task that waits for the actor starts, and its job is issued
abbrev pub IsTaken : {A E : Type 0} → Option A → (A → JobView → Type 0) → Type 0 → Result (Option JobView) E → Type 0
IsTaken due Made Same (Ok None) = (due ≡ None) × Same
IsTaken {A = A} due Made Same (Ok (Some job)) = (x : A) × (due ≡ Some x) × Made x job
IsTaken due Made Same (Err e) = IsSome due × Same
