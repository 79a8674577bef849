use Rattle.tw_store.proofs.Names.{Contains, Slot, Some, slot_at, ℕ, ◌≡◌}
use Rattle.tw_store.proofs.slot.place_of.Given as goal

-- the slot of the id is among the entries that are left, and every entry left is the slab's
abbrev pub invariant-loop-place : goal.invariant-loop-place
invariant-loop-place l =
    (goal.iterator-loop-place).can_next l.place-iterator ×
    (goal.iterator-loop-place).is_finite l.place-iterator ×
    ((p : ℕ) (e : Slot) → slot_at l.slab.slots p ≡ Some e → e.id ≡ l.fn.id → Contains l.place-iterator (p, e)) ×
    ((p : ℕ) (e : Slot) → Contains l.place-iterator (p, e) → slot_at l.slab.slots p ≡ Some e)
