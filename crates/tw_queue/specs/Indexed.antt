-- The ranks as an index of the tasks.
use Rattle.std.specs.Prelude.{◌≡◌, ℕ, List, [], ◌∷◌, map, Option, Some, None, nat_eq}
use Rattle.std.specs.List.{Contains, IsDistinct}
use Rattle.std.specs.FinMap.{from_entries}
use Rattle.tw_types.specs.declared.actor.Kind.{Kind}
use Rattle.tw_types.specs.Task.{TaskOf, TasksOf}
use Rattle.tw_rights.specs.declared.arg.Arg.{Arg}
use Rattle.tw_queue.specs.declared.rank.Rank.{Rank}
use Rattle.tw_queue.specs.declared.waiting.Waiting.{Waiting}
use Rattle.tw_queue.specs.RankIndex.{Ranking}
use Rattle.tw_queue.specs.Queues.{IsTarget, queue_of, waiting}

-- returns the waiting task in a slot
abbrev pub task_in : Waiting → TaskOf Arg
task_in w = waiting w.kind w.priority w.target w.task

-- returns the tasks in the slots, with their numbers
abbrev pub numbered : List (Option Waiting) → List (ℕ × TaskOf Arg)
numbered [] = []
numbered (None ∷ slots) = numbered slots
numbered (Some w ∷ slots) = (w.task.no, task_in w) ∷ numbered slots

abbrev pub tasks_in : List (Option Waiting) → TasksOf Arg
tasks_in slots = from_entries (numbered slots)

-- returns the rank of the task in a slot
abbrev pub rank_of : ℕ → Waiting → Rank
rank_of slot w = record { priority = w.priority; number = w.task.no; slot = slot }

-- holds if the task in the rank's slot has this kind, this run queue, and the rank's priority and number
abbrev pub IsEntryAt : Kind → ℕ → Rank → Option Waiting → Type 0
IsEntryAt kind queue rank None = ⊥
IsEntryAt kind queue rank (Some w) =
    (w.kind ≡ kind) × (queue_of w.target ≡ queue) × (w.priority ≡ rank.priority) × (w.task.no ≡ rank.number)

-- holds if no number is in two slots
abbrev pub AreApart : (ℕ → Option Waiting) → Type 0
AreApart entry = (p q : ℕ) (v w : Waiting) → entry p ≡ Some v → entry q ≡ Some w → v.task.no ≡ w.task.no → p ≡ q

-- each rank is that of the task in its slot, each task has its rank, and no slot and no number is there twice
pub record IsIndex (entry : ℕ → Option Waiting) (ranks : Ranking) : Type 0 where
  pub sound : (kind : Kind) (queue : ℕ) (rank : Rank) → Contains (ranks kind queue) rank
      → IsEntryAt kind queue rank (entry rank.slot)
  pub complete : (slot : ℕ) (w : Waiting) → entry slot ≡ Some w
      → Contains (ranks w.kind (queue_of w.target)) (rank_of slot w)
  pub distinct : (kind : Kind) (queue : ℕ) → IsDistinct nat_eq (map (λ rank. rank.slot) (ranks kind queue))
  pub targets : (slot : ℕ) (w : Waiting) → entry slot ≡ Some w → IsTarget w.target
  pub apart : AreApart entry
