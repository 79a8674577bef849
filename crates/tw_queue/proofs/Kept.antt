-- The slots stay right when one is filled or emptied.
use Rattle.std.proofs.Common.{[], ◌≡◌, ◌≢◌, ◌⊎◌, ℕ, zero, suc, ◌+◌, ◌-◌, ◌<◌, List, ◌∷◌, ◌++◌, map, length, get_or, set, Some, None, is_some, IsSome, count_by, cond, slice_get, refl, sym, ap, subst, ◌∙◌, inl, inr, arith, length-set, true≢false}
use Rattle.tw_queue.proofs.Names.{AreSlots, Free, Full, IsChangedAt, IsFreeList, Waiting, get_or-map, get_or-set_other, get_or-set_same, get_or_from_slice_get, get_or_past, length-map, length_push, map-set, map_push, slice_get-get_or, slice_get_read, slice_get_within, sum_by-set, sum_by_push, waiting_in}
use Rattle.tw_queue.specs.declared.slots.Slot.{Slot}

-- ---- lists of free slots

-- a slot begins one list of free ones at most
free_unique : (slots : List Slot) (m n first : ℕ) → IsFreeList slots m first → IsFreeList slots n first → m ≡ n
free_unique slots zero zero first p q = refl
free_unique slots zero (suc n) first p q = absurd (omega (arith, slice_get_within slots first _ q.1))
free_unique slots (suc m) zero first p q = absurd (omega (arith, slice_get_within slots first _ p.1))
free_unique slots (suc m) (suc n) first p q =
    let one = p.1 in
    let other = q.1 in
    let same : q.0 ≡ p.0 = cc in
    ap suc (free_unique slots m n p.0 p.2 (subst (IsFreeList slots n) same q.2))

-- a slot that isn't in the list can change
free_set : (slots : List Slot) (at : ℕ) (s : Slot) (n first : ℕ) → ((m : ℕ) → m < n → IsFreeList slots (suc m) at → ⊥) → IsFreeList slots n first → IsFreeList (set slots at s) n first
free_set slots at s zero first off p = p ∙ sym (length-set slots at s)
free_set slots at s (suc n) first off p =
    let other : first ≢ at = λ same. off n (omega arith) (subst (IsFreeList slots (suc n)) same p) in
    let within = slice_get_within slots first _ p.1 in
    let kept : slice_get (set slots at s) first ≡ Some (Free p.0) =
    slice_get-get_or (set slots at s) first s (omega (arith, length-set slots at s))
    ∙ ap Some (get_or-set_other slots at first s s other ∙ get_or_from_slice_get slots first _ s p.1) in
    (p.0, kept, free_set slots at s n p.0 (λ m below. off m (omega arith)) p.2)

full_not_free : (slots : List Slot) (at : ℕ) (w : Waiting) → slice_get slots at ≡ Some (Full w) → (m : ℕ) → IsFreeList slots (suc m) at → ⊥
full_not_free slots at w found m p = let listed = p.1 in cc

-- ---- the content of a slot

count_set : (slots : List Slot) (at : ℕ) (old new : Slot) → slice_get slots at ≡ Some old
    → count_by is_some (map waiting_in (set slots at new)) + cond (is_some (waiting_in old)) 1 0 ≡ count_by is_some (map waiting_in slots) + cond (is_some (waiting_in new)) 1 0
count_set slots at old new found =
    let within = slice_get_within slots at old found in
    let read : get_or (map waiting_in slots) at None ≡ waiting_in old =
    get_or-map waiting_in slots at old None within ∙ ap waiting_in (get_or_from_slice_get slots at old old found) in
    let counted = sum_by-set (λ o. cond (is_some o) 1 0) (map waiting_in slots) at (waiting_in new) None (omega (arith, length-map slots waiting_in)) in
    rw (map-set waiting_in slots at new, ← read) counted

pub full_at : (slots : List Slot) (at : ℕ) → IsSome (get_or (map waiting_in slots) at None) → (w : Waiting) × (slice_get slots at ≡ Some (Full w))
full_at slots at some =
    let inside : at < length (map waiting_in slots) = grind (arith, get_or_past) in
    let within : at < length slots = omega (arith, length-map slots waiting_in) in
    by (get_or slots at (Free 0)) (slice_get-get_or slots at (Free 0) within) (subst IsSome (get_or-map waiting_in slots at (Free 0) None within) some)
  where
    by : (s : Slot) → slice_get slots at ≡ Some s → IsSome (waiting_in s) → (w : Waiting) × (slice_get slots at ≡ Some (Full w))
    by (Free _) found h = absurd (true≢false (sym h))
    by (Full w) found h = (w, found)

pub changed_set : (slots : List Slot) (at : ℕ) (s : Slot) → at < length slots → IsChangedAt at (waiting_in s) (map waiting_in slots) (map waiting_in (set slots at s))
changed_set slots at s within =
    let inside : at < length (map waiting_in slots) = omega (arith, length-map slots waiting_in) in
    record {
      here = ap (λ xs. get_or xs at None) (map-set waiting_in slots at s) ∙ get_or-set_same (map waiting_in slots) at (waiting_in s) None inside;
      others = λ other apart. ap (λ xs. get_or xs other None) (map-set waiting_in slots at s) ∙ get_or-set_other (map waiting_in slots) at other (waiting_in s) None apart;
    }

-- ---- the next slot

module _ (slots : List Slot) (len first : ℕ) (are : AreSlots slots len first) where
  first_cases : ((first ≡ length slots) × (len ≡ length slots)) ⊎ ((next : ℕ) × (slice_get slots first ≡ Some (Free next)))
  first_cases = by are.free are.total are.linked
    where
      by : (n : ℕ) → len + n ≡ length slots → IsFreeList slots n first → ((first ≡ length slots) × (len ≡ length slots)) ⊎ ((next : ℕ) × (slice_get slots first ≡ Some (Free next)))
      by zero total linked = inl (linked, omega arith)
      by (suc n) total linked = inr (linked.0, linked.1)

  pub first_empty : get_or (map waiting_in slots) first None ≡ None
  first_empty = elim first_cases [
    | inl end ↦ get_or_past (map waiting_in slots) first None (omega (arith, length-map slots waiting_in))
    | inr found ↦ get_or-map waiting_in slots first (Free 0) None (slice_get_within slots first _ found.1) ∙ ap waiting_in (get_or_from_slice_get slots first _ (Free 0) found.1)
  ]

  -- if no slot is free, all are full
  pub all_full : first ≡ length slots → len ≡ length slots
  all_full at_end = elim first_cases [ inl end ↦ end.1 | inr found ↦ omega (arith, slice_get_within slots first _ found.1) ]

  first_free : first ≢ length slots → (next : ℕ) × (slice_get slots first ≡ Some (Free next))
  first_free before = elim first_cases [ inl end ↦ absurd (before end.0) | inr found ↦ found ]

  pub first_within : first ≢ length slots → first < length slots
  first_within before = slice_get_within slots first _ (first_free before).1

  pub read_first : (s : Slot) → first ≢ length slots → s ≡ get_or slots first s → slice_get slots first ≡ Some s
  read_first s before read = slice_get_read slots (length slots) first s refl (first_within before) read

  pub first_not_full : (w : Waiting) → slice_get slots first ≡ Some (Full w) → ⊥
  first_not_full w found =
      let free = (first_free (λ e. omega (arith, slice_get_within slots first _ found))).1 in
      cc

  -- ---- a slot more

  pub pushed : (w : Waiting) → first ≡ length slots → AreSlots (slots ++ Full w ∷ []) (len + 1) (first + 1)
  pushed w at_end =
      let full = all_full at_end in
      let longer = length_push slots (Full w) in
      record {
        counted = rw (map_push waiting_in slots (Full w), sum_by_push (λ o. cond (is_some o) 1 0) (map waiting_in slots) (Some w)) (ap (λ n. n + 1) are.counted);
        free = 0;
        total = omega arith;
        linked = omega arith;
      }

  -- ---- the first free slot is filled

  pub filled : (next : ℕ) (w : Waiting) → slice_get slots first ≡ Some (Free next) → AreSlots (set slots first (Full w)) (len + 1) next
  filled next w found = by are.free are.total are.linked
    where
      by : (n : ℕ) → len + n ≡ length slots → IsFreeList slots n first → AreSlots (set slots first (Full w)) (len + 1) next
      by zero total linked = absurd (omega (arith, slice_get_within slots first _ found))
      by (suc n) total linked =
          let listed = linked.1 in
          let same : linked.0 ≡ next = cc in
          let off : (m : ℕ) → m < n → IsFreeList slots (suc m) first → ⊥ =
          λ m below p. omega (arith, free_unique slots (suc m) (suc n) first p linked) in
          record {
            counted = omega (arith, are.counted, count_set slots first (Free next) (Full w) found);
            free = n;
            total = omega (arith, length-set slots first (Full w));
            linked = free_set slots first (Full w) n next off (subst (IsFreeList slots n) same linked.2);
          }

  -- ---- a slot is left

  pub left : (at : ℕ) (w : Waiting) → slice_get slots at ≡ Some (Full w) → AreSlots (set slots at (Free first)) (len - 1) at
  left at w found =
      let within = slice_get_within slots at _ found in
      let count = count_set slots at (Full w) (Free first) found in
      let counted = are.counted in
      let total = are.total in
      let written : slice_get (set slots at (Free first)) at ≡ Some (Free first) =
      slice_get-get_or _ at (Free first) (omega (arith, length-set slots at (Free first)))
      ∙ ap Some (get_or-set_same slots at (Free first) (Free first) within) in
      record {
        counted = omega arith;
        free = suc are.free;
        total = omega (arith, length-set slots at (Free first));
        linked = (first, written, free_set slots at (Free first) are.free first (λ m _. full_not_free slots at w found m) are.linked);
      }
