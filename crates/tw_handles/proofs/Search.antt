-- A binary search among subscripts that rise.
use Rattle.tw_handles.proofs.Names.{Contains, Content, Datum, FinalView, List, Maps, MatchOption, None, Option, Set, Some, Subscript, T, Unset, [], ap, arith, count_in, entries, entries_sorted, get, inl, inr, is_sorted, len-entries, length, length-map, none_past, option_and_then, refl, same_Some, slice_get, slice_get_within, subscripts_of, subst, suc, sym, value_cmp, zero, ℕ, ◌+◌, ◌<◌, ◌∙◌, ◌∷◌, ◌≡◌, ◌≤◌, ◌⊎◌}
use Rattle.std.proofs.Common.{map as each}
use Rattle.std.specs.declared.cmp.Ordering.TheVariants.{Less, Equal, Greater}
use Rattle.std.specs.FinMap.Entries.{below_all}
use Rattle.std.specs.Ordering.{ordering_reverse}
use Rattle.std.proofs.Math.Nat.{eq-or-lt_of_le}
use Rattle.tw_types.proofs.Rising.{first, less, second}
use Rattle.tw_types.proofs.ValueOrder.{value_cmp_total, value_cmp-IsAntisymmetric}
use Rattle.tw_handles.specs.Finding.{HasNone, HasSubscript, IsNowhere, IsThere, order_at, order_with, subscripts_at, subscripts_if}

-- ---- the subscripts of a datum

pub record AreRising (ks : List Subscript) : Type 0 where
  pub rise : (i j : ℕ) (a b : Subscript) → i < j → slice_get ks i ≡ Some a → slice_get ks j ≡ Some b → value_cmp a b ≡ Less

none_there : (i : ℕ) (k : Subscript) → slice_get [] i ≡ Some k → ⊥
none_there i k is = cc

none_rising : AreRising []
none_rising = record { rise = λ i j a b lt p q. absurd (none_there i a p) }

module _ {V : Type 0} where
  below_at : (k : Subscript) (es : List (Subscript × V)) (j : ℕ) (b : Subscript) → T (below_all value_cmp k es) → slice_get (each (λ e. e.0) es) j ≡ Some b → value_cmp k b ≡ Less
  below_at k [] j b h is = absurd (none_there j b is)
  below_at k (e ∷ es) zero b h is = subst (λ x. value_cmp k x ≡ Less) (same_Some e.0 b is) (less _ (first _ _ h))
  below_at k (e ∷ es) (suc j) b h is = below_at k es j b (second _ _ h) is

  sorted_at : (es : List (Subscript × V)) → T (is_sorted value_cmp es) → (i j : ℕ) (a b : Subscript) → i < j → slice_get (each (λ e. e.0) es) i ≡ Some a → slice_get (each (λ e. e.0) es) j ≡ Some b → value_cmp a b ≡ Less
  sorted_at [] h i j a b lt p q = absurd (none_there i a p)
  sorted_at (e ∷ es) h i zero a b lt p q = absurd (omega arith)
  sorted_at (e ∷ es) h zero (suc j) a b lt p q = subst (λ x. value_cmp x b ≡ Less) (same_Some e.0 a p) (below_at e.0 es j b (first _ _ h) q)
  sorted_at (e ∷ es) h (suc i) (suc j) a b lt p q = sorted_at es (second _ _ h) i j a b (omega arith) p q

pub rising_in : (content : Content) → AreRising (subscripts_of content)
rising_in Unset = none_rising
rising_in (Set v) = none_rising
rising_in (Contains members) = record { rise = sorted_at (entries members) (entries_sorted members) }
rising_in (Maps values) = record { rise = sorted_at (entries values) (entries_sorted values) }

pub count_of : (content : Content) → length (subscripts_of content) ≡ count_in content
count_of Unset = refl
count_of (Set v) = refl
count_of (Contains members) = length-map (entries members) (λ e. e.0) ∙ sym (len-entries members)
count_of (Maps values) = length-map (entries values) (λ e. e.0) ∙ sym (len-entries values)

-- ---- the search

-- where a subscript isn't: below `low` all are smaller, and from `high` on all are greater
pub record IsSearched (ks : List Subscript) (s : Subscript) (low high : ℕ) : Type 0 where
  pub below : (i : ℕ) (k : Subscript) → i < low → slice_get ks i ≡ Some k → value_cmp k s ≡ Less
  pub above : (i : ℕ) (k : Subscript) → high ≤ i → slice_get ks i ≡ Some k → value_cmp s k ≡ Less

either : (i n : ℕ) → (i < n) ⊎ (n ≤ i)
either i zero = inr (omega arith)
either zero (suc n) = inl (omega arith)
either (suc i) (suc n) = by (either i n)
  where
    by : (i < n) ⊎ (n ≤ i) → (suc i < suc n) ⊎ (suc n ≤ suc i)
    by (inl lt) = inl (omega (arith, lt))
    by (inr le) = inr (omega (arith, le))

module _ (ks : List Subscript) (s : Subscript) (rising : AreRising ks) where
  greater_by : (m i : ℕ) (k l : Subscript) → slice_get ks m ≡ Some k → value_cmp s k ≡ Less → (m ≡ i) ⊎ (m < i) → slice_get ks i ≡ Some l → value_cmp s l ≡ Less
  greater_by m i k l at is (inl eq) there = subst (λ x. value_cmp s x ≡ Less) (same_Some k l (sym at ∙ ap (slice_get ks) eq ∙ there)) is
  greater_by m i k l at is (inr lt) there = value_cmp_total.trans s k l is (rising.rise m i k l lt at there)

  smaller_by : (m i : ℕ) (k l : Subscript) → slice_get ks m ≡ Some k → value_cmp k s ≡ Less → (i ≡ m) ⊎ (i < m) → slice_get ks i ≡ Some l → value_cmp l s ≡ Less
  smaller_by m i k l at is (inl eq) there = subst (λ x. value_cmp x s ≡ Less) (same_Some k l (sym at ∙ ap (slice_get ks) (sym eq) ∙ there)) is
  smaller_by m i k l at is (inr lt) there = value_cmp_total.trans l k s (rising.rise i m l k lt there at) is

  turned : (k : Subscript) → value_cmp s k ≡ Greater → value_cmp k s ≡ Less
  turned k is = value_cmp_total.antisymm k s ∙ ap ordering_reverse is

  before : (m i : ℕ) → i < m + 1 → i ≤ m
  before m i lt = omega arith

  -- a subscript after one that is missing is missing
  past_end : (m i : ℕ) (k : Subscript) → slice_get ks m ≡ None → m ≤ i → slice_get ks i ≡ Some k → ⊥
  past_end m i k none le is = let end = none_past ks m none in let within = slice_get_within ks i k is in omega arith

  pub narrowed_to : (low high m : ℕ) → IsSearched ks s low high → Less ≡ order_at ks m s → IsSearched ks s low m
  narrowed_to low high m h is = record { below = h.below; above = λ i l le there. by i l le there (slice_get ks m) refl }
    where
      by : (i : ℕ) (l : Subscript) → m ≤ i → slice_get ks i ≡ Some l → (o : Option Subscript) → slice_get ks m ≡ o → value_cmp s l ≡ Less
      by i l le there None at = absurd (past_end m i l at le there)
      by i l le there (Some k) at = greater_by m i k l at (sym (is ∙ ap (order_with s) at)) (eq-or-lt_of_le le) there

  pub narrowed_from : (low high m : ℕ) → IsSearched ks s low high → Greater ≡ order_at ks m s → IsSearched ks s (m + 1) high
  narrowed_from low high m h is = record { below = λ i l lt there. by i l lt there (slice_get ks m) refl; above = h.above }
    where
      by : (i : ℕ) (l : Subscript) → i < m + 1 → slice_get ks i ≡ Some l → (o : Option Subscript) → slice_get ks m ≡ o → value_cmp l s ≡ Less
      by i l lt there None at = let no : Greater ≡ Less = is ∙ ap (order_with s) at in cc
      by i l lt there (Some k) at = smaller_by m i k l at (turned k (sym (is ∙ ap (order_with s) at))) (eq-or-lt_of_le (before m i lt)) there

  pub found_at : (m : ℕ) → Equal ≡ order_at ks m s → HasSubscript ks s m
  found_at m is = by (slice_get ks m) refl
    where
      by : (o : Option Subscript) → slice_get ks m ≡ o → HasSubscript ks s m
      by None at = let no : Equal ≡ Less = is ∙ ap (order_with s) at in cc
      by (Some k) at =
          let tie : s ≡ k = value_cmp-IsAntisymmetric s k (sym (is ∙ ap (order_with s) at)) in
          at ∙ ap (λ x. Some x) (sym tie)

  pub found_none : (low high : ℕ) → IsSearched ks s low high → high ≤ low → HasNone ks s
  found_none low high h le = λ i there. by i there (either i low)
    where
      tied : value_cmp s s ≡ Less → ⊥
      tied is = let turn : value_cmp s s ≡ Greater = value_cmp_total.antisymm s s ∙ ap ordering_reverse is in let no : Less ≡ Greater = sym is ∙ turn in cc

      by : (i : ℕ) → HasSubscript ks s i → (i < low) ⊎ (low ≤ i) → ⊥
      by i there (inl lt) = tied (h.below i s lt there)
      by i there (inr ge) = tied (h.above i s (omega (arith, le, ge)) there)

-- nothing is known at first
pub whole : (ks : List Subscript) (s : Subscript) (low high : ℕ) → low ≡ 0 → length ks ≤ high → IsSearched ks s low high
whole ks s low high none all = record {
  below = λ i k lt there. absurd (omega arith);
  above = λ i k le there. let within = slice_get_within ks i k there in absurd (omega arith);
}

-- ---- an output

module _ (final : FinalView) (index : ℕ) (s : Subscript) where
  abbrev live_at : Option ℕ → Option Datum
  live_at o = option_and_then (λ id. get final.store.store.live id) o

  nowhere_by : subscripts_at final index ≡ [] → IsNowhere final index s
  nowhere_by none = λ place there. none_there place s (ap (λ ks. slice_get ks place) (sym none) ∙ there)

  pub nowhere_past : slice_get final.outputs index ≡ None → IsNowhere final index s
  nowhere_past past = nowhere_by (ap (λ o. subscripts_if (live_at o)) past)

  pub nowhere_freed : (id : ℕ) → slice_get final.outputs index ≡ Some id → get final.store.store.live id ≡ None → IsNowhere final index s
  nowhere_freed id at freed = nowhere_by (ap (λ o. subscripts_if (live_at o)) at ∙ ap subscripts_if freed)

  pub there_in : (id : ℕ) (x : Datum) (r : Option ℕ) → slice_get final.outputs index ≡ Some id → get final.store.store.live id ≡ Some x
      → MatchOption r (HasNone (subscripts_of x.content) s) (HasSubscript (subscripts_of x.content) s) → MatchOption r (IsNowhere final index s) (IsThere final index s)
  there_in id x r at live h = subst (λ (ks : List Subscript). MatchOption r (HasNone ks s) (HasSubscript ks s)) (sym same_subscripts) h
    where
      same_subscripts : subscripts_at final index ≡ subscripts_of x.content
      same_subscripts = ap (λ o. subscripts_if (live_at o)) at ∙ ap subscripts_if live
