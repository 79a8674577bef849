-- The memory of jobs, the models of a job, a `Done` and a draft, and their invariants.
use Rattle.std.specs.Prelude.{◌≡◌, ℕ, Bool, true, false, [], List, Option, Some, None, slice_get}
use Rattle.tw_types.specs.declared.actor.Actor.TheVariants.{Engine}
use Rattle.tw_code.specs.declared.procedure.Procedure.{Procedure}
use Rattle.tw_code.specs.declared.version.Version.TheVariants.{Two}
use Rattle.tw_code.specs.machine.Position.{Position}
use Rattle.tw_frame.specs.declared.context.Context.{Context}
use Rattle.tw_frame.specs.declared.job_buffer.JobOutcome.{JobOutcome}
use Rattle.tw_frame.specs.declared.job_buffer.JobBuffer.{JobBuffer}
use Rattle.tw_frame.specs.declared.job.RunOutcome.{RunOutcome}
use Rattle.tw_frame.specs.declared.job.RunOutcome.TheVariants as went
use Rattle.tw_frame.specs.Jobs.{AreTwice, DoneView, DraftView, IsDone, JobView, MayBeAt, position_of}

-- ---- work done

abbrev pub outcome_of : RunOutcome → JobOutcome
outcome_of (went.Unmoved short) = record { steps = 0; moved = false; short = short }
outcome_of (went.Moved steps short) = record { steps = steps; moved = true; short = short }

-- returns the position after a run; the old one if it didn't move
abbrev pub after_of : Position → Bool → Position → Position
after_of before true after = after
after_of before false after = before

-- holds if a run ended in this way, from a position, with these two equal contexts
abbrev pub IsRun : List Procedure → ℕ → Position → Context → Context → RunOutcome → Type 0
IsRun program procedure before after again (went.Unmoved short) = IsDone program procedure before before 0 short
IsRun program procedure before after again (went.Moved steps short) = IsDone program procedure before (position_of after) steps short
    × ((p : Procedure) → slice_get program procedure ≡ Some p → AreTwice p.registers after again)

-- the invariant of a job's result: where it is after the run, and that the copy is equal
pub record IsKept (program : List Procedure) (procedure : ℕ) (before : Position) (after again : Context) (outcome : JobOutcome) : Type 0 where
  pub done : IsDone program procedure before (after_of before outcome.moved (position_of after)) outcome.steps outcome.short
  pub twice : outcome.moved ≡ true → (p : Procedure) → slice_get program procedure ≡ Some p → AreTwice p.registers after again

abbrev pub IsRunOf : JobBuffer → Type 0
IsRunOf job_buffer = IsKept job_buffer.lent.program.program job_buffer.lent.procedure job_buffer.lent.position job_buffer.after.value job_buffer.again.value job_buffer.outcome

-- ---- memory for a job

-- returns the job of no task, as the model of empty memory
abbrev pub nobodys : JobView
nobodys = record {
  program = record { version = Two; program = []; typings = [] };
  task = 0;
  procedure = 0;
  actor = Engine 0;
  event_no = 0;
  position = record { place = 0; values = []; loops = [] };
}

-- returns the issued job, or that of no task
abbrev pub issued_in : Option JobBuffer → JobView
issued_in None = nobodys
issued_in (Some job_buffer) = job_buffer.lent

abbrev pub done_of : JobBuffer → DoneView
done_of job_buffer = record {
  before = job_buffer.lent;
  after = after_of job_buffer.lent.position job_buffer.outcome.moved (position_of job_buffer.after.value);
  steps = job_buffer.outcome.steps;
  short = job_buffer.outcome.short;
}

abbrev pub done_in : Option JobBuffer → DoneView
done_in None = record { before = nobodys; after = nobodys.position; steps = 0; short = false }
done_in (Some job_buffer) = done_of job_buffer

abbrev pub draft_in : Option JobBuffer → DraftView
draft_in place = record { program = (issued_in place).program; procedure = (issued_in place).procedure; values = (issued_in place).position.values }

abbrev pub IsThere : Option JobBuffer → Type 0
IsThere None = ⊥
IsThere (Some job_buffer) = Unit {0}

-- holds if there is a job whose task may run from its position
abbrev pub MayRun : Option JobBuffer → Type 0
MayRun None = ⊥
MayRun (Some job_buffer) = MayBeAt job_buffer.lent.program.program job_buffer.lent.procedure job_buffer.lent.position

-- holds if there is a job that was run
abbrev pub WasRun : Option JobBuffer → Type 0
WasRun None = ⊥
WasRun (Some job_buffer) = IsRunOf job_buffer
