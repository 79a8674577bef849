-- The ranks of one kind, if one run queue changes.
use Rattle.tw_queue.proofs.Names.{AllByRecursion, Bool, Contains, IfSome, IsFirst, IsPermutation, List, None, OnErr, OnOk, Option, Rank, RunQueueView, Some, [], all_at, ap, arith, contains_none, false, get_or, get_or-map, get_or-set_other, get_or-set_same, inl, inr, is_lt, length, length-map, map, map-set, nat_eq, nat_other, nat_same, rank_cmp, refl, room_at, slice_set, subst, suc, sym, true, zero, ℕ, ◌++◌, ◌<◌, ◌∙◌, ◌∷◌, ◌≡◌, ◌⊎◌}
use Rattle.std.specs.declared.result.Result.{Result}
use Rattle.std.specs.declared.result.Result.TheVariants.{Ok, Err}
use Rattle.std.proofs.Math.Seq.{map-set_same}
use Rattle.tw_queue.specs.QueuesByTarget.{ranks_in, rooms_in, ranks_at, AreRoomsKept, IsAheadOfAll, IsBest, IsChangedAt, IsOwnQueue, IsPushed, IsTaken}
use Rattle.tw_queue.proofs.Order.{upper_over}

pub if_ok : {T E P Q : Type 0} (r : Result T E) → (P → Q) → OnOk r P → OnOk r Q
if_ok (Ok x) gives p = gives p
if_ok (Err e) gives p = tt

pub if_err : {T E P Q : Type 0} (r : Result T E) → (P → Q) → OnErr r P → OnErr r Q
if_err (Ok x) gives p = tt
if_err (Err e) gives p = gives p

module _ {X : Type 0} where
  pub each_at : (P : X → Type 0) (xs : List X) (k : ℕ) (d : X) → AllByRecursion P xs → k < length xs → P (get_or xs k d)
  each_at P [] k d all low = absurd (omega arith)
  each_at P (x ∷ xs) zero d all low = all.0
  each_at P (x ∷ xs) (suc k) d all low = each_at P xs k d all.1 (omega arith)

abbrev ranks_of_queue : RunQueueView → List Rank
ranks_of_queue queue = queue.ranks

abbrev has_room : RunQueueView → Bool
has_room queue = queue.has_room

module _ (ps : List RunQueueView) (queue : ℕ) (low : queue < length ps) (p w : RunQueueView) (at : p ≡ get_or ps queue p) where
  part_was : {X : Type 0} (part : RunQueueView → X) (none : X) → get_or (map part ps) queue none ≡ part p
  part_was part none = get_or-map part ps queue p none low ∙ ap part (sym at)

  part_now : {X : Type 0} (part : RunQueueView → X) (none : X) → get_or (map part (slice_set ps queue w)) queue none ≡ part w
  part_now part none =
      let inside : queue < length (map part ps) = subst (λ n. queue < n) (sym (length-map ps part)) low in
      ap (λ xs. get_or xs queue none) (map-set part ps queue w) ∙ get_or-set_same (map part ps) queue (part w) none inside

  part_changed : {X : Type 0} (part : RunQueueView → X) (none : X) (q : ℕ) → (q ≡ queue) ⊎ (get_or (map part (slice_set ps queue w)) q none ≡ get_or (map part ps) q none)
  part_changed part none q = by (nat_eq q queue) refl
    where
      by : (b : Bool) → nat_eq q queue ≡ b → (q ≡ queue) ⊎ (get_or (map part (slice_set ps queue w)) q none ≡ get_or (map part ps) q none)
      by true e = inl (nat_same q queue e)
      by false e = inr (ap (λ xs. get_or xs q none) (map-set part ps queue w) ∙ get_or-set_other (map part ps) queue q (part w) none (nat_other q queue e))

  pub was_at : ranks_at (ranks_in ps) queue ≡ p.ranks
  was_at = part_was ranks_of_queue []

  pub now_at : ranks_at (ranks_in (slice_set ps queue w)) queue ≡ w.ranks
  now_at = part_now ranks_of_queue []

  pub changed_at : IsChangedAt queue (ranks_at (ranks_in ps)) (ranks_at (ranks_in (slice_set ps queue w)))
  changed_at q = part_changed ranks_of_queue [] q

  pub pushed_at : (rank : Rank) → IsPermutation (rank ∷ p.ranks) w.ranks → IsPushed queue rank (ranks_at (ranks_in ps)) (ranks_at (ranks_in (slice_set ps queue w)))
  pushed_at rank moved = (subst (λ xs. IsPermutation (rank ∷ xs) (ranks_at (ranks_in (slice_set ps queue w)) queue)) (sym was_at) (subst (IsPermutation (rank ∷ p.ranks)) (sym now_at) moved), changed_at)

  popped_at : (rank : Rank) → IsPermutation p.ranks (rank ∷ w.ranks) → IsPermutation (ranks_at (ranks_in ps) queue) (rank ∷ ranks_at (ranks_in (slice_set ps queue w)) queue)
  popped_at rank moved = subst (λ xs. IsPermutation xs (rank ∷ ranks_at (ranks_in (slice_set ps queue w)) queue)) (sym was_at) (subst (λ xs. IsPermutation p.ranks (rank ∷ xs)) (sym now_at) moved)

  pub same_ranks : w.ranks ≡ p.ranks → ranks_in (slice_set ps queue w) ≡ ranks_in ps
  same_ranks e = map-set_same ranks_of_queue ps queue w p (e ∙ ap ranks_of_queue at)

  pub room_was : room_at (rooms_in ps) queue ≡ p.has_room
  room_was = part_was has_room false

  pub room_now : room_at (rooms_in (slice_set ps queue w)) queue ≡ w.has_room
  room_now = part_now has_room false

  pub rooms_kept : (p.has_room ≡ true → w.has_room ≡ true) → AreRoomsKept (rooms_in ps) (rooms_in (slice_set ps queue w))
  rooms_kept kept q room = by (part_changed has_room false q)
    where
      by : (q ≡ queue) ⊎ (room_at (rooms_in (slice_set ps queue w)) q ≡ room_at (rooms_in ps) q) → room_at (rooms_in (slice_set ps queue w)) q ≡ true
      by (inl here) = ap (room_at (rooms_in (slice_set ps queue w))) here ∙ room_now ∙ kept (sym room_was ∙ ap (room_at (rooms_in ps)) (sym here) ∙ room)
      by (inr same) = same ∙ room

  pub taken_at : (r : Option Rank) → IfSome r (λ rank. IsPermutation p.ranks (rank ∷ w.ranks)) → IfSome r (λ rank. IsTaken rank (ranks_at (ranks_in ps)) (ranks_at (ranks_in (slice_set ps queue w))))
  taken_at None moved = tt
  taken_at (Some rank) moved = (queue, popped_at rank moved, changed_at)

  -- the first rank of the run queue with the best one is the best one
  pub best_at : (number : ℕ) (best : Rank) → IsOwnQueue number queue → Contains (ranks_at (ranks_in ps) queue) best → IsAheadOfAll best number (ranks_at (ranks_in ps)) → (r : Option Rank) → IsFirst p.ranks r
      → IsBest number (ranks_at (ranks_in ps)) r
  best_at number best own there ahead None none = absurd (contains_none best (subst (λ xs. Contains xs best) (was_at ∙ none) there))
  best_at number best own there ahead (Some x) first =
      let low : is_lt (rank_cmp x best) ≡ false = all_at (λ y. is_lt (rank_cmp x y) ≡ false) p.ranks best first.1 (subst (λ xs. Contains xs best) was_at there) in
      (queue, own, subst (λ xs. Contains xs x) (sym was_at) first.0, (upper_over x best (ranks_at (ranks_in ps) 16) low ahead.0, upper_over x best (ranks_at (ranks_in ps) number) low ahead.1))

pub each_push : {X : Type 0} (P : X → Type 0) (xs : List X) (y : X) → AllByRecursion P xs → P y → AllByRecursion P (xs ++ y ∷ [])
each_push P [] y all p = (p, tt)
each_push P (x ∷ xs) y all p = (all.0, each_push P xs y all.1 p)
