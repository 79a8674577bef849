-- A slot for each actor of the greatest layout: four engines, four servers, sixteen workers.
use Rattle.std.specs.Prelude.{◌≡◌, ◌<◌, ℕ, suc, Bool, true, false, nat_lt, List, [], ◌∷◌, length, Option, IsSome, Some, None, count_by, is_some, slice_index_or}
use Rattle.std.specs.FinMap.{FinMap, from_entries, insert}
use Rattle.tw_types.specs.declared.actor.Actor.{Actor}
use Rattle.tw_types.specs.declared.actor.Actor.TheVariants.{Engine, Server, Worker}
use Rattle.tw_types.specs.Actor.{actor_cmp}
pub use Rattle.tw_types.specs.Actor.{HasPlace as HasSlot, actor_of_place as actor_of, place_of as slot_of}
use Rattle.tw_types.specs.Layout.{ActorCounts}
use Rattle.tw_frame.specs.Jobs.{FrameView}

-- the running tasks, by their actors
abbrev pub TasksByActor : Type 0
TasksByActor = FinMap actor_cmp FrameView

-- the running tasks of a layout
pub record RunningView : Type 0 where
  pub layout : ActorCounts
  pub tasks : TasksByActor

-- returns them with another task of the actor
abbrev pub with_running : RunningView → Actor → FrameView → RunningView
with_running r actor f = record r { tasks = insert r.tasks actor f }

-- returns the tasks in these slots with their actors; the first slot has this number
abbrev pub by_actor_from : ℕ → List (Option FrameView) → List (Actor × FrameView)
by_actor_from task_slot [] = []
by_actor_from task_slot (None ∷ running_tasks) = by_actor_from (suc task_slot) running_tasks
by_actor_from task_slot (Some f ∷ running_tasks) = (actor_of task_slot, f) ∷ by_actor_from (suc task_slot) running_tasks

abbrev pub by_actor : List (Option FrameView) → TasksByActor
by_actor running_tasks = from_entries (by_actor_from 0 running_tasks)

-- there are 24 slots, of which `taken` are taken
pub record AreTaskSlots (running_tasks : List (Option FrameView)) (taken : ℕ) : Type 0 where
  pub many : length running_tasks ≡ 24
  pub counted : taken ≡ count_by is_some running_tasks

-- ---- memory for tasks

-- returns whether the actor is one of the layout that takes tasks: an engine or a worker
abbrev pub takes_tasks : ActorCounts → Actor → Bool
takes_tasks layout (Engine number) = nat_lt number layout.engines
takes_tasks layout (Server number) = false
takes_tasks layout (Worker number) = nat_lt number layout.workers

-- the first slots have memory for a task if their actor takes tasks, and no others
pub record HasBuffers (layout : ActorCounts) (count : ℕ) (frame_buffers : List (Option (Unit {0}))) : Type 0 where
  pub many : length frame_buffers ≡ count
  pub there : (k : ℕ) → k < count → is_some (slice_index_or frame_buffers k None) ≡ takes_tasks layout (actor_of k)

-- each empty slot of an actor that takes tasks has memory for one
pub record AreKept (layout : ActorCounts) (running_tasks : List (Option FrameView)) (frame_buffers : List (Option (Unit {0}))) : Type 0 where
  pub many : length frame_buffers ≡ 24
  pub there : (k : ℕ) → k < 24 → takes_tasks layout (actor_of k) ≡ true → slice_index_or running_tasks k None ≡ None → IsSome (slice_index_or frame_buffers k None)
