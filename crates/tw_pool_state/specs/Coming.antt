-- Changes of a running task.
use Rattle.std.specs.Prelude.{◌≡◌, ◌+◌, ℕ, [], IsSome, List, None, Ok, Option, Result, Some, slice_get}
use Rattle.std.specs.declared.result.Result.TheVariants.{Err}
use Rattle.std.specs.FinMap.{insert, remove}
use Rattle.tw_types.specs.declared.actor.Actor.{Actor}
use Rattle.tw_types.specs.declared.value.Value.{Value}
use Rattle.tw_types.specs.Task.{TaskOf, TasksOf, best}
use Rattle.tw_rights.specs.declared.arg.Arg.{Arg}
use Rattle.tw_rights.specs.declared.held.Held.{Held}
use Rattle.tw_rights.specs.Filed.{filed, rights_in}
use Rattle.tw_code.specs.declared.procedure.Procedure.{Procedure}
use Rattle.tw_code.specs.machine.Position.{at_next_place}
use Rattle.tw_verify.specs.Typed.{TypedProgram}
use Rattle.tw_frame.specs.Drafts.{StartsAsMachine, started}
use Rattle.tw_frame.specs.Jobs.{DoneView, FrameView, JobView, MayBeAt, bare_frame, job_of}
use Rattle.tw_pool_state.specs.RunningTasks.{TasksByActor}

-- ---- it starts

-- returns the frame that starts with these values, issued under this number
abbrev pub begun : TypedProgram → Actor → ℕ → ℕ × TaskOf Arg → List Value → FrameView
begun verified actor event_no e values = record {
  program = verified;
  task = e.0;
  procedure = e.1.procedure;
  actor = actor;
  event_no = event_no;
  position = record { place = 0; values = values; loops = [] };
  held = filed (rights_in e.1.args);
  spent = 0;
}

-- holds if the actor's best task may run from its start
abbrev pub MayBegin : TypedProgram → Actor → TasksOf Arg → Type 0
MayBegin verified actor waiting = (e : ℕ × TaskOf Arg) (values : List Value) → best actor waiting ≡ Some e → ((p : Procedure) → slice_get verified.program e.1.procedure ≡ Some p → started e.1.args p.registers ≡ Ok values)
    → StartsAsMachine verified.program e.0 e.1.procedure e.1.args values (bare_frame (begun verified actor 0 e values)) → MayBeAt verified.program e.1.procedure (begun verified actor 0 e values).position

-- the best task starts like the machine's, with its start values, and is issued under this number
pub record Begins (verified : TypedProgram) (actor : Actor) (event_no : ℕ) (old : TasksByActor) (waiting : TasksOf Arg) (new : TasksByActor) (left : TasksOf Arg) (job : JobView) : Type 0 where
  pub e : ℕ × TaskOf Arg
  pub due : best actor waiting ≡ Some e
  pub values : List Value
  pub starts : (p : Procedure) → slice_get verified.program e.1.procedure ≡ Some p → started e.1.args p.registers ≡ Ok values
  pub machine : StartsAsMachine verified.program e.0 e.1.procedure e.1.args values (bare_frame (begun verified actor event_no e values))
  pub is_running : new ≡ insert old actor (begun verified actor event_no e values)
  pub rest : left ≡ remove waiting e.0
  pub lent : job ≡ job_of (begun verified actor event_no e values)

-- holds if nothing changes when no task waits for the actor
abbrev pub BeginsOrNone : TypedProgram → Actor → ℕ → TasksByActor → TasksOf Arg → TasksByActor → TasksOf Arg → Option JobView → Type 0
BeginsOrNone verified actor event_no old waiting new left None = (best actor waiting ≡ None) × (new ≡ old) × (left ≡ waiting)
BeginsOrNone verified actor event_no old waiting new left (Some job) = Begins verified actor event_no old waiting new left job

-- holds if nothing changes when an allocation fails
abbrev pub IsBegun : {E : Type 0} → TypedProgram → Actor → ℕ → TasksByActor → TasksOf Arg → TasksByActor → TasksOf Arg → Result (Option JobView) E → Type 0
IsBegun verified actor event_no old waiting new left (Ok o) = BeginsOrNone verified actor event_no old waiting new left o
IsBegun verified actor event_no old waiting new left (Err e) = IsSome (best actor waiting) × (new ≡ old) × (left ≡ waiting)

-- ---- it moves on

-- returns the frame after a job
abbrev pub frame_after : FrameView → DoneView → FrameView
frame_after f done = record f { position = done.after; spent = f.spent + done.steps }

-- returns the frame at the next place, with these rights
abbrev pub frame_at_next : FrameView → List (Option Held) → FrameView
frame_at_next f file = record f { held = file; position = at_next_place f.position; spent = f.spent + 1 }

-- returns the frame, issued under this number
abbrev pub issued_as : ℕ → FrameView → FrameView
issued_as event_no f = record f { event_no = event_no }
