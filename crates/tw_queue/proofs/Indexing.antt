-- The index of the ranks stays right when a task is added or removed.
use Rattle.tw_queue.proofs.Names.{AreApart, Bool, Contains-permutation, IsEntryAt, IsHereOrSame, IsIndex, IsPermutation, IsPermutation-map, IsPermutation-sym, IsTarget, Kind, None, Option, Rank, Ranking, Some, Waiting, [], all_at, all_mapped, contains_cases, contains_here, contains_later, contains_none, false, inl, inr, map, mapped_has, nat_apart, nat_eq, nat_flips, nat_itself, nat_same, queue_of, rank_of, refl, subst, sym, true, ℕ, ℤ, ◌∙◌, ◌∷◌, ◌≡◌, ◌⊎◌}
use Rattle.std.specs.List.{Contains, IsDistinct}
use Rattle.std.proofs.lemmas.Map.Keys.{IsDistinct-IsPermutation, IsDistinct-cons, IsDistinct-head, IsDistinct-tail}

-- the task in a slot
abbrev pub Entries : Type 0
Entries = ℕ → Option Waiting

abbrev pub slot_of : Rank → ℕ
slot_of rank = rank.slot

abbrev pub ranked : ℤ → ℕ → ℕ → Rank
ranked priority number slot = record { priority = priority; number = number; slot = slot }

entry_is : (kind : Kind) (queue : ℕ) (rank : Rank) (o : Option Waiting) (w : Waiting) → IsEntryAt kind queue rank o → o ≡ Some w → IsEntryAt kind queue rank (Some w)
entry_is kind queue rank o w h e = subst (IsEntryAt kind queue rank) e h

no_entry : (kind : Kind) (queue : ℕ) (rank : Rank) (o : Option Waiting) → IsEntryAt kind queue rank o → o ≡ None → ⊥
no_entry kind queue rank o h e = subst (IsEntryAt kind queue rank) e h

-- another entry in this slot alone
pub record IsUpdated (slot : ℕ) (w : Option Waiting) (old new : Entries) : Type 0 where
  pub here : new slot ≡ w
  pub others : (q : ℕ) → (slot ≡ q → ⊥) → new q ≡ old q

moved_here : (ranks : Ranking) (kind k : Kind) (queue p : ℕ) (rank : Rank) → k ≡ kind → p ≡ queue → Contains (ranks k p) rank → Contains (ranks kind queue) rank
moved_here ranks kind k queue p rank ek ep c = subst (λ x. Contains (ranks x queue) rank) ek (subst (λ x. Contains (ranks k x) rank) ep c)

moved_back : (ranks : Ranking) (kind k : Kind) (queue p : ℕ) (rank : Rank) → k ≡ kind → p ≡ queue → Contains (ranks kind queue) rank → Contains (ranks k p) rank
moved_back ranks kind k queue p rank ek ep c = subst (λ x. Contains (ranks x p) rank) (sym ek) (subst (λ x. Contains (ranks kind x) rank) (sym ep) c)

distinct_at : (ranks : Ranking) (kind k : Kind) (queue p : ℕ) → k ≡ kind → p ≡ queue → IsDistinct nat_eq (map slot_of (ranks kind queue)) → IsDistinct nat_eq (map slot_of (ranks k p))
distinct_at ranks kind k queue p ek ep d = subst (λ x. IsDistinct nat_eq (map slot_of (ranks x p))) (sym ek) (subst (λ x. IsDistinct nat_eq (map slot_of (ranks kind x))) (sym ep) d)

-- ---- a task comes

module _ (old new : Entries) (less more : Ranking) (is : IsIndex old less) (kind : Kind) (queue : ℕ)
    (slot : ℕ) (w : Waiting) (others : IsHereOrSame kind queue less more) (added : IsPermutation (rank_of slot w ∷ less kind queue) (more kind queue)) (updated : IsUpdated slot (Some w) old new) (free : old slot ≡ None)
    (at_kind : w.kind ≡ kind) (at_queue : queue_of w.target ≡ queue) where
  other_slot : (k : Kind) (p : ℕ) (rank : Rank) → Contains (less k p) rank → slot ≡ rank.slot → ⊥
  other_slot k p rank c e = no_entry k p rank (old rank.slot) (is.sound k p rank c) (subst (λ q. old q ≡ None) e free)

  was_sound : (k : Kind) (p : ℕ) (rank : Rank) → Contains (less k p) rank → IsEntryAt k p rank (new rank.slot)
  was_sound k p rank c = subst (IsEntryAt k p rank) (sym (updated.others rank.slot (other_slot k p rank c))) (is.sound k p rank c)

  grown_cases : (rank : Rank) → Contains (more kind queue) rank → (rank_of slot w ≡ rank) ⊎ Contains (less kind queue) rank
  grown_cases rank c = contains_cases (rank_of slot w) (less kind queue) rank (Contains-permutation _ _ rank (IsPermutation-sym _ _ added) c)

  grown_has : (rank : Rank) → Contains (rank_of slot w ∷ less kind queue) rank → Contains (more kind queue) rank
  grown_has rank c = Contains-permutation _ _ rank added c

  still_there : (k : Kind) (p : ℕ) (rank : Rank) → Contains (less k p) rank → Contains (more k p) rank
  still_there k p rank c = by (others k p)
    where
      by : ((k ≡ kind) × (p ≡ queue)) ⊎ (more k p ≡ less k p) → Contains (more k p) rank
      by (inl at) = moved_back more kind k queue p rank at.0 at.1 (grown_has rank (contains_later (rank_of slot w) (less kind queue) rank (moved_here less kind k queue p rank at.0 at.1 c)))
      by (inr same) = subst (λ xs. Contains xs rank) (sym same) c

  own_entry : IsEntryAt kind queue (rank_of slot w) (new slot)
  own_entry = subst (IsEntryAt kind queue (rank_of slot w)) (sym updated.here) (at_kind, at_queue, refl, refl)

  put_sound : (k : Kind) (p : ℕ) (rank : Rank) → Contains (more k p) rank → IsEntryAt k p rank (new rank.slot)
  put_sound k p rank c = by (others k p)
    where
      own : (rank_of slot w ≡ rank) ⊎ Contains (less kind queue) rank → IsEntryAt kind queue rank (new rank.slot)
      own (inl e) = subst (λ r. IsEntryAt kind queue r (new r.slot)) e own_entry
      own (inr d) = was_sound kind queue rank d

      by : ((k ≡ kind) × (p ≡ queue)) ⊎ (more k p ≡ less k p) → IsEntryAt k p rank (new rank.slot)
      by (inl at) = subst (λ x. IsEntryAt x p rank (new rank.slot)) (sym at.0) (subst (λ x. IsEntryAt kind x rank (new rank.slot)) (sym at.1)
          (own (grown_cases rank (moved_here more kind k queue p rank at.0 at.1 c))))
      by (inr same) = was_sound k p rank (subst (λ xs. Contains xs rank) same c)

  new_here : (q : ℕ) (v : Waiting) → new q ≡ Some v → slot ≡ q → w ≡ v
  new_here q v e one =
      let here = updated.here in
      let there : new slot ≡ Some v = subst (λ x. new x ≡ Some v) (sym one) e in
      cc

  old_there : (q : ℕ) (v : Waiting) → new q ≡ Some v → nat_eq slot q ≡ false → old q ≡ Some v
  old_there q v e t =
      let apart : slot ≡ q → ⊥ = λ h. let u = nat_itself q in let z : nat_eq slot q ≡ true = subst (λ x. nat_eq x q ≡ true) (sym h) u in cc in
      sym (updated.others q apart) ∙ e

  put_complete : (q : ℕ) (v : Waiting) → new q ≡ Some v → Contains (more v.kind (queue_of v.target)) (rank_of q v)
  put_complete q v e = by (nat_eq slot q) refl
    where
      by : (b : Bool) → nat_eq slot q ≡ b → Contains (more v.kind (queue_of v.target)) (rank_of q v)
      by true t =
          let one = nat_same slot q t in
          subst (λ x. Contains (more v.kind (queue_of v.target)) (rank_of x v)) one
          (subst (λ x. Contains (more x.kind (queue_of x.target)) (rank_of slot x)) (new_here q v e one)
          (moved_back more kind w.kind queue (queue_of w.target) (rank_of slot w) at_kind at_queue (grown_has (rank_of slot w) (contains_here (rank_of slot w) (less kind queue)))))
      by false t = still_there v.kind (queue_of v.target) (rank_of q v) (is.complete q v (old_there q v e t))

  put_distinct : (k : Kind) (p : ℕ) → IsDistinct nat_eq (map slot_of (more k p))
  put_distinct k p = by (others k p)
    where
      by : ((k ≡ kind) × (p ≡ queue)) ⊎ (more k p ≡ less k p) → IsDistinct nat_eq (map slot_of (more k p))
      by (inl at) = distinct_at more kind k queue p at.0 at.1
          (IsDistinct-IsPermutation nat_eq nat_flips _ _ (IsPermutation-map slot_of _ _ added)
          (IsDistinct-cons nat_eq slot (map slot_of (less kind queue)) (all_mapped (λ q. nat_eq slot q ≡ false) slot_of (less kind queue) (λ rank c. nat_apart slot rank.slot (other_slot kind queue rank c)))
          (is.distinct kind queue)))
      by (inr same) = subst (λ xs. IsDistinct nat_eq (map slot_of xs)) (sym same) (is.distinct k p)

  put_targets : IsTarget w.target → (q : ℕ) (v : Waiting) → new q ≡ Some v → IsTarget v.target
  put_targets target q v e = by (nat_eq slot q) refl
    where
      by : (b : Bool) → nat_eq slot q ≡ b → IsTarget v.target
      by true t = subst (λ x. IsTarget x.target) (new_here q v e (nat_same slot q t)) target
      by false t = is.targets q v (old_there q v e t)

  pub put_index : IsTarget w.target → AreApart new → IsIndex new more
  put_index target apart = record {
    sound = put_sound;
    complete = put_complete;
    distinct = put_distinct;
    targets = put_targets target;
    apart = apart;
  }

-- ---- a task is removed

module _ (old new : Entries) (less more : Ranking) (is : IsIndex old more) (kind : Kind) (queue : ℕ) (rank : Rank)
    (gone_others : IsHereOrSame kind queue less more) (added : IsPermutation (rank ∷ less kind queue) (more kind queue)) (updated : IsUpdated rank.slot None old new) where
  flipped : (k : Kind) (p : ℕ) → ((k ≡ kind) × (p ≡ queue)) ⊎ (more k p ≡ less k p) → ((k ≡ kind) × (p ≡ queue)) ⊎ (less k p ≡ more k p)
  flipped k p (inl at) = inl at
  flipped k p (inr same) = inr (sym same)

  others : (k : Kind) (p : ℕ) → ((k ≡ kind) × (p ≡ queue)) ⊎ (less k p ≡ more k p)
  others k p = flipped k p (gone_others k p)

  own_there : Contains (more kind queue) rank
  own_there = Contains-permutation _ _ rank added (contains_here rank (less kind queue))

  was_there : (k : Kind) (p : ℕ) (r : Rank) → Contains (less k p) r → Contains (more k p) r
  was_there k p r c = by (others k p)
    where
      by : ((k ≡ kind) × (p ≡ queue)) ⊎ (less k p ≡ more k p) → Contains (more k p) r
      by (inl at) = moved_back more kind k queue p r at.0 at.1 (Contains-permutation _ _ r added (contains_later rank (less kind queue) r (moved_here less kind k queue p r at.0 at.1 c)))
      by (inr same) = subst (λ xs. Contains xs r) same c

  slots : IsDistinct nat_eq (rank.slot ∷ map slot_of (less kind queue))
  slots = IsDistinct-IsPermutation nat_eq nat_flips _ _ (IsPermutation-sym _ _ (IsPermutation-map slot_of _ _ added)) (is.distinct kind queue)

  -- the slot has left with its rank
  left_here : (r : Rank) → Contains (less kind queue) r → rank.slot ≡ r.slot → ⊥
  left_here r c e =
      let apart = all_at (λ q. nat_eq rank.slot q ≡ false) (map slot_of (less kind queue)) r.slot (IsDistinct-head nat_eq rank.slot (map slot_of (less kind queue)) slots) (mapped_has slot_of (less kind queue) r c) in
      let u = nat_itself r.slot in
      let z : nat_eq rank.slot r.slot ≡ true = subst (λ x. nat_eq x r.slot ≡ true) (sym e) u in
      cc

  left : (k : Kind) (p : ℕ) (r : Rank) → Contains (less k p) r → rank.slot ≡ r.slot → ⊥
  left k p r c e = by (old rank.slot) refl
    where
      by : (o : Option Waiting) → old rank.slot ≡ o → ⊥
      by None none = no_entry kind queue rank (old rank.slot) (is.sound kind queue rank own_there) none
      by (Some w) some =
          let own = entry_is kind queue rank (old rank.slot) w (is.sound kind queue rank own_there) some in
          let other = entry_is k p r (old r.slot) w (is.sound k p r (was_there k p r c)) (subst (λ q. old q ≡ Some w) e some) in
          left_here r (moved_here less kind k queue p r (sym other.0 ∙ own.0) (sym other.1 ∙ own.1) c) e

  gone_sound : (k : Kind) (p : ℕ) (r : Rank) → Contains (less k p) r → IsEntryAt k p r (new r.slot)
  gone_sound k p r c = subst (IsEntryAt k p r) (sym (updated.others r.slot (left k p r c))) (is.sound k p r (was_there k p r c))

  here_left : (q : ℕ) (v : Waiting) → new q ≡ Some v → rank.slot ≡ q → ⊥
  here_left q v e one =
      let here = updated.here in
      let there : new rank.slot ≡ Some v = subst (λ x. new x ≡ Some v) (sym one) e in
      cc

  was_entry : (q : ℕ) (v : Waiting) → new q ≡ Some v → old q ≡ Some v
  was_entry q v e = sym (updated.others q (here_left q v e)) ∙ e

  gone_complete : (q : ℕ) (v : Waiting) → new q ≡ Some v → Contains (less v.kind (queue_of v.target)) (rank_of q v)
  gone_complete q v e = by (others v.kind (queue_of v.target))
    where
      there : Contains (more v.kind (queue_of v.target)) (rank_of q v)
      there = is.complete q v (was_entry q v e)

      rest : (rank ≡ rank_of q v) ⊎ Contains (less kind queue) (rank_of q v) → Contains (less kind queue) (rank_of q v)
      rest (inl one) = absurd (here_left q v e (subst (λ r. rank.slot ≡ r.slot) one refl))
      rest (inr c) = c

      by : ((v.kind ≡ kind) × (queue_of v.target ≡ queue)) ⊎ (less v.kind (queue_of v.target) ≡ more v.kind (queue_of v.target)) → Contains (less v.kind (queue_of v.target)) (rank_of q v)
      by (inl at) = moved_back less kind v.kind queue (queue_of v.target) (rank_of q v) at.0 at.1
          (rest (contains_cases rank (less kind queue) (rank_of q v) (Contains-permutation _ _ (rank_of q v) (IsPermutation-sym _ _ added) (moved_here more kind v.kind queue (queue_of v.target) (rank_of q v) at.0 at.1 there))))
      by (inr same) = subst (λ xs. Contains xs (rank_of q v)) (sym same) there

  gone_distinct : (k : Kind) (p : ℕ) → IsDistinct nat_eq (map slot_of (less k p))
  gone_distinct k p = by (others k p)
    where
      by : ((k ≡ kind) × (p ≡ queue)) ⊎ (less k p ≡ more k p) → IsDistinct nat_eq (map slot_of (less k p))
      by (inl at) = distinct_at less kind k queue p at.0 at.1 (IsDistinct-tail nat_eq rank.slot (map slot_of (less kind queue)) slots)
      by (inr same) = subst (λ xs. IsDistinct nat_eq (map slot_of xs)) (sym same) (is.distinct k p)

  pub taken_index : IsIndex new less
  taken_index = record {
    sound = gone_sound;
    complete = gone_complete;
    distinct = gone_distinct;
    targets = λ q v e. is.targets q v (was_entry q v e);
    apart = λ p q v u e f. is.apart p q v u (was_entry p v e) (was_entry q u f);
  }

-- ---- no tasks

distinct_none : IsDistinct nat_eq []
unfolding IsDistinct
distinct_none = tt

pub empty_index : (entry : Entries) (ranks : Ranking) → ((slot : ℕ) → entry slot ≡ None) → ((kind : Kind) (queue : ℕ) → ranks kind queue ≡ []) → IsIndex entry ranks
empty_index entry ranks none empty = record {
  sound = λ kind queue rank c. absurd (contains_none rank (subst (λ xs. Contains xs rank) (empty kind queue) c));
  complete = λ slot w e. absurd (nothing slot w e);
  distinct = λ kind queue. subst (λ xs. IsDistinct nat_eq (map slot_of xs)) (sym (empty kind queue)) distinct_none;
  targets = λ slot w e. absurd (nothing slot w e);
  apart = λ p q v w e f i. absurd (nothing p v e);
}
  where
    nothing : (slot : ℕ) (w : Waiting) → entry slot ≡ Some w → ⊥
    nothing slot w e = let n = none slot in cc
