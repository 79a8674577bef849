-- When a task can be added without an allocation.
use Rattle.std.proofs.Common.{◌≡◌, ℕ, zero, suc, Bool, true, false, List, [], ◌∷◌, Option, refl, sym, ◌∙◌, ◌&&◌}
use Rattle.tw_queue.proofs.Names.{Arg, Control, IsRoomKept, KeepsRoom, Kind, Leaf, Queues, TasksOf, and_from, and_parts, has_room_for, queue_of, room_at, room_for, rooms_with}
use Rattle.tw_queue.specs.declared.index.RankIndex.{RankIndex}

abbrev queues_with : TasksOf Arg → Bool → RankIndex → Queues
queues_with tasks has_slot index = record {
  tasks = tasks;
  control_rooms = rooms_with has_slot index.control.rooms;
  leaf_rooms = rooms_with has_slot index.leaf.rooms;
}

both_at : (has_slot : Bool) (rooms : List Bool) (queue : ℕ) → room_at (rooms_with has_slot rooms) queue ≡ (has_slot && room_at rooms queue)
both_at true [] queue = refl
both_at false [] queue = refl
both_at has_slot (room ∷ rooms) zero = refl
both_at has_slot (room ∷ rooms) (suc queue) = both_at has_slot rooms queue

-- a slot, and room for the rank
both_for : (kind : Kind) (target : Option ℕ) (tasks : TasksOf Arg) (has_slot : Bool) (index : RankIndex)
    → room_for kind target (queues_with tasks has_slot index) ≡ (has_slot && has_room_for kind (queue_of target) index)
both_for Control target tasks has_slot index = both_at has_slot index.control.rooms (queue_of target)
both_for Leaf target tasks has_slot index = both_at has_slot index.leaf.rooms (queue_of target)

pub slot_room : (kind : Kind) (target : Option ℕ) (tasks : TasksOf Arg) (has_slot : Bool) (index : RankIndex)
    → room_for kind target (queues_with tasks has_slot index) ≡ true → has_slot ≡ true
slot_room kind target tasks has_slot index room = (and_parts has_slot _ (sym (both_for kind target tasks has_slot index) ∙ room)).0

pub rank_room : (kind : Kind) (target : Option ℕ) (tasks : TasksOf Arg) (has_slot : Bool) (index : RankIndex)
    → room_for kind target (queues_with tasks has_slot index) ≡ true → has_room_for kind (queue_of target) index ≡ true
rank_room kind target tasks has_slot index room = (and_parts has_slot _ (sym (both_for kind target tasks has_slot index) ∙ room)).1

pub room_of : (kind : Kind) (target : Option ℕ) (tasks : TasksOf Arg) (has_slot : Bool) (index : RankIndex)
    → has_slot ≡ true → has_room_for kind (queue_of target) index ≡ true → room_for kind target (queues_with tasks has_slot index) ≡ true
room_of kind target tasks has_slot index slot rank = both_for kind target tasks has_slot index ∙ and_from _ _ slot rank

pub room_still : (old new : TasksOf Arg) (before after : Bool) (index next : RankIndex) → (before ≡ true → after ≡ true) → KeepsRoom index next
    → IsRoomKept (queues_with old before index) (queues_with new after next)
room_still old new before after index next more kept kind target room =
    room_of kind target new after next (more (slot_room kind target old before index room)) (kept kind (queue_of target) (rank_room kind target old before index room))
