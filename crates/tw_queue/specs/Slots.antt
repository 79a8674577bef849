-- The model of the slots in which tasks wait.
use Rattle.std.specs.Prelude.{◌≡◌, ◌≢◌, ℕ, zero, suc, ◌+◌, Bool, List, map, length, Option, Some, None, is_some, count_by, slice_get, slice_index_or}
use Rattle.tw_queue.specs.declared.slots.Slot.{Slot}
use Rattle.tw_queue.specs.declared.slots.Slot.TheVariants.{Free, Full}
use Rattle.tw_queue.specs.declared.waiting.Waiting.{Waiting}

-- a task or nothing in each slot, the slot that is filled next, and whether there is memory for one more
pub record Slotted : Type 0 where
  pub slots : List (Option Waiting)
  pub next : ℕ
  pub has_room : Bool

abbrev pub slot_at : List (Option Waiting) → ℕ → Option Waiting
slot_at slots slot = slice_index_or slots slot None

-- the slot has this content now, and all others are unchanged
pub record IsChangedAt (slot : ℕ) (w : Option Waiting) (old new : List (Option Waiting)) : Type 0 where
  pub here : slot_at new slot ≡ w
  pub others : (other : ℕ) → other ≢ slot → slot_at new other ≡ slot_at old other

-- ---- the code's slots

abbrev pub waiting_in : Slot → Option Waiting
waiting_in (Free next) = None
waiting_in (Full w) = Some w

-- holds if from this slot on so many free ones refer to each other in a chain, and the last one to the end
abbrev pub IsFreeList : List Slot → ℕ → ℕ → Type 0
IsFreeList slots zero first = first ≡ length slots
IsFreeList slots (suc count) first = (next : ℕ) × (slice_get slots first ≡ Some (Free next)) × IsFreeList slots count next

-- there are `len` tasks, and all other slots are in the chain of free ones
pub record AreSlots (slots : List Slot) (len first : ℕ) : Type 0 where
  pub counted : len ≡ count_by is_some (map waiting_in slots)
  pub free : ℕ
  pub total : len + free ≡ length slots
  pub linked : IsFreeList slots free first
