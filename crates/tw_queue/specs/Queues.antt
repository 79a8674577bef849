-- The model of the queues.
use Rattle.std.specs.Prelude.{◌≡◌, ℕ, ◌<◌, ℤ, Bool, true, false, List, Option, Some, None, IfSome, slice_index_or}
use Rattle.std.specs.FinMap as map
use Rattle.tw_types.specs.declared.actor.Kind.{Kind}
use Rattle.tw_types.specs.declared.actor.Kind.TheVariants.{Control, Leaf}
use Rattle.tw_types.specs.Task.{TaskOf, TasksOf}
use Rattle.tw_rights.specs.declared.arg.Arg.{Arg}
use Rattle.tw_rights.specs.declared.task.Task.{Task}

-- the waiting tasks, by their numbers; and for each kind and run queue, whether a task can be added without an allocation
pub record Queues : Type 0 where
  pub tasks : TasksOf Arg
  pub control_rooms : List Bool
  pub leaf_rooms : List Bool

-- returns the run queue of a target; the one for any actor is after those
abbrev pub queue_of : Option ℕ → ℕ
queue_of None = 16
queue_of (Some target) = target

abbrev pub room_at : List Bool → ℕ → Bool
room_at rooms queue = slice_index_or rooms queue false

-- returns whether a task of this kind for this target can be added without an allocation
abbrev pub room_for : Kind → Option ℕ → Queues → Bool
room_for Control target queues = room_at queues.control_rooms (queue_of target)
room_for Leaf target queues = room_at queues.leaf_rooms (queue_of target)

-- holds if reserved memory is still there
abbrev pub IsRoomKept : Queues → Queues → Type 0
IsRoomKept old new = (kind : Kind) (target : Option ℕ) → room_for kind target old ≡ true → room_for kind target new ≡ true

-- returns the waiting task
abbrev pub waiting : Kind → ℤ → Option ℕ → Task → TaskOf Arg
waiting kind priority target task =
    record { kind = kind; procedure = task.procedure; priority = priority; target = target; args = task.args }

-- returns a waiting task, with its number, as it is taken
abbrev pub taken_task : ℕ × TaskOf Arg → Task
taken_task e = record { no = e.0; procedure = e.1.procedure; args = e.1.args }

-- returns the tasks without this one
abbrev pub without : {A : Type 0} → Option (ℕ × TaskOf A) → TasksOf A → TasksOf A
without None tasks = tasks
without (Some e) tasks = map.remove tasks e.0

-- holds for the number of an actor of some layout, or none
abbrev pub IsTarget : Option ℕ → Type 0
IsTarget target = IfSome target (λ number. number < 16)
