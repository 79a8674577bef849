-- Sets of indices below 64, as the bits of a number.
use Rattle.tw_host.proofs.Names.{Bool, Is, IsCleared, IsMarked, IsRange, Isnt, and_le_l, and_le_r, ap, arith, bit_and, bit_at, bit_at-trailing_zeros, bit_at-zero, bit_at_above, bit_at_and, bit_at_clear_other, bit_at_clear_same, bit_at_not, bit_at_ones, bit_at_ones_above, bit_at_set_other, bit_at_set_same, bit_not, bit_or, false, inl, inr, ltb-false, ltb-true, min, nat_lt, one_shl, refl, same_from_bits, subst, sym, trailing_zeros, true, w64, ℕ, ◌-◌, ◌<◌, ◌^◌, ◌∙◌, ◌≡◌, ◌≢◌, ◌≤◌, ◌⊎◌}
use Rattle.tw_host.proofs.Settling.{is_or_isnt, not_both}

pub set_bit : (n k own : ℕ) → k < 64 → own ≡ 2 ^ k → IsMarked k true n (bit_or n own)
set_bit n k own low is =
    subst (λ (m : ℕ). IsMarked k true n (bit_or n m)) (one_shl k 64 low ∙ sym is) (record { here = bit_at_set_same w64 n k low; others = λ i within other. bit_at_set_other w64 n k low i other })

pub clear_bit : (n k own : ℕ) → k < 64 → own ≡ 2 ^ k → IsMarked k false n (bit_and n (bit_not w64 own))
clear_bit n k own low is =
    subst (λ (m : ℕ). IsMarked k false n (bit_and n (bit_not w64 m))) (one_shl k 64 low ∙ sym is) (record { here = bit_at_clear_same w64 n k low; others = λ i within other. bit_at_clear_other w64 n k low i within other })

-- ---- one bit of two numbers

both : (a b i : ℕ) → Is a i → Is b i → Is (bit_and a b) i
both a b i p q = bit_at_and a b i ∙ (ap (λ (x : ℕ). min x (bit_at b i)) p ∙ ap (min 1) q)

not_first : (a b i : ℕ) → Isnt a i → Isnt (bit_and a b) i
not_first a b i p = by (is_or_isnt b i)
  where
    by : Is b i ⊎ Isnt b i → Isnt (bit_and a b) i
    by (inl q) = bit_at_and a b i ∙ (ap (λ (x : ℕ). min x (bit_at b i)) p ∙ ap (min 0) q)
    by (inr q) = bit_at_and a b i ∙ (ap (λ (x : ℕ). min x (bit_at b i)) p ∙ ap (min 0) q)

not_second : (a b i : ℕ) → Isnt b i → Isnt (bit_and a b) i
not_second a b i q = by (is_or_isnt a i)
  where
    by : Is a i ⊎ Isnt a i → Isnt (bit_and a b) i
    by (inl p) = bit_at_and a b i ∙ (ap (λ (x : ℕ). min x (bit_at b i)) p ∙ ap (min 1) q)
    by (inr p) = not_first a b i p

of_both : (a b i : ℕ) → Is (bit_and a b) i → Is a i × Is b i
of_both a b i is = by (is_or_isnt a i) (is_or_isnt b i)
  where
    by : Is a i ⊎ Isnt a i → Is b i ⊎ Isnt b i → Is a i × Is b i
    by (inr p) q = not_both (bit_and a b) i is (not_first a b i p)
    by (inl p) (inr q) = not_both (bit_and a b) i is (not_second a b i q)
    by (inl p) (inl q) = (p, q)

other : (n i : ℕ) → n < 2 ^ 64 → i < 64 → Isnt n i → Is (bit_not w64 n) i
other n i within low isnt = bit_at_not w64 n i within low ∙ ap (λ (x : ℕ). 1 - x) isnt

not_other : (n i : ℕ) → n < 2 ^ 64 → i < 64 → Is n i → Isnt (bit_not w64 n) i
not_other n i within low is = bit_at_not w64 n i within low ∙ ap (λ (x : ℕ). 1 - x) is

of_other : (n i : ℕ) → n < 2 ^ 64 → i < 64 → Is (bit_not w64 n) i → Isnt n i
of_other n i within low is = by (is_or_isnt n i)
  where
    by : Is n i ⊎ Isnt n i → Isnt n i
    by (inl p) = not_both (bit_not w64 n) i is (not_other n i within low p)
    by (inr p) = p

no_bits : (n : ℕ) → ((i : ℕ) → Isnt n i) → n ≡ 0
no_bits n none = same_from_bits n 0 (λ i. none i ∙ sym (bit_at-zero i))

pub and_zero : (a b : ℕ) → a ≡ 0 → bit_and a b ≡ 0
and_zero a b is = no_bits (bit_and a b) (λ i. not_first a b i (ap (λ (n : ℕ). bit_at n i) is ∙ bit_at-zero i))

pow_low : (k : ℕ) → k < 64 → 2 ^ k < 2 ^ 64
pow_low k low = omega (arith, one_shl k 64 low)

-- ---- ranges

module _ (from to : ℕ) (low : from < 64) (within : to < 64) where
  abbrev mask : ℕ
  mask = bit_not w64 (2 ^ from - 1)

  few : 2 ^ from - 1 < 2 ^ 64
  few = let l = pow_low from low in omega (arith, l)

  pub range : IsRange from to (bit_and (2 ^ to - 1) (bit_not w64 (2 ^ from - 1)))
  range = record {
    inside = λ i above below. both (2 ^ to - 1) mask i (bit_at_ones to i below) (other (2 ^ from - 1) i few (omega (arith, below, within)) (bit_at_ones_above from i above));
    only = λ i is. let parts = of_both (2 ^ to - 1) mask i is in let below = under i parts.0 in (over i parts.1 (omega (arith, below, within)), below);
    few = let l = pow_low to within in omega (arith, and_le_l (2 ^ to - 1) mask, l);
  }
    where
      under : (i : ℕ) → Is (2 ^ to - 1) i → i < to
      under i is = by (nat_lt i to) refl
        where
          by : (b : Bool) → nat_lt i to ≡ b → i < to
          by true e = ltb-true i to e
          by false e = not_both (2 ^ to - 1) i is (bit_at_ones_above to i (ltb-false i to e))

      over : (i : ℕ) → Is mask i → i < 64 → from ≤ i
      over i is i_low = by (nat_lt i from) refl
        where
          by : (b : Bool) → nat_lt i from ≡ b → from ≤ i
          by true e = not_both mask i is (not_other (2 ^ from - 1) i few i_low (bit_at_ones from i (ltb-true i from e)))
          by false e = ltb-false i from e

-- ---- those of a range

pub none_there : (asleep mask from to : ℕ) → IsRange from to mask → bit_and asleep mask ≡ 0 → (i : ℕ) → from ≤ i → i < to → Isnt asleep i
none_there asleep mask from to r none i above below = by (is_or_isnt asleep i)
  where
    by : Is asleep i ⊎ Isnt asleep i → Isnt asleep i
    by (inl is) = not_both (bit_and asleep mask) i (both asleep mask i is (r.inside i above below)) (ap (λ (n : ℕ). bit_at n i) none ∙ bit_at-zero i)
    by (inr isnt) = isnt

pub some_there : (asleep mask from to : ℕ) → IsRange from to mask → bit_and asleep mask ≢ 0 → (i : ℕ) × (from ≤ i) × (i < to) × Is asleep i
some_there asleep mask from to r some =
    let all = bit_and asleep mask in
    let found = bit_at-trailing_zeros w64 all (omega (arith, some)) (omega (arith, and_le_r asleep mask, r.few)) in
    let i = trailing_zeros w64 all in
    let parts = of_both asleep mask i found.1 in
    let inside = r.only i parts.1 in
    (i, inside.0, inside.1, parts.0)

pub some_looks : (mask asleep out : ℕ) → mask < 2 ^ 64 → asleep < 2 ^ 64 → out < 2 ^ 64 → bit_and (bit_and mask (bit_not w64 asleep)) (bit_not w64 out) ≢ 0
    → (i : ℕ) × (i < 64) × Is mask i × Isnt asleep i × Isnt out i
some_looks mask asleep out few_mask few_asleep few_out some =
    let all = bit_and (bit_and mask (bit_not w64 asleep)) (bit_not w64 out) in
    let found = bit_at-trailing_zeros w64 all (omega (arith, some)) (omega (arith, few_mask, and_le_l mask (bit_not w64 asleep), and_le_l (bit_and mask (bit_not w64 asleep)) (bit_not w64 out))) in
    let i = trailing_zeros w64 all in
    let outer = of_both (bit_and mask (bit_not w64 asleep)) (bit_not w64 out) i found.1 in
    let inner = of_both mask (bit_not w64 asleep) i outer.0 in
    (i, found.0, inner.0, of_other asleep i few_asleep found.0 inner.1, of_other out i few_out found.0 outer.1)

-- ---- bits that are cleared

pub cleared : (due old : ℕ) → due < 2 ^ 64 → old < 2 ^ 64 → IsCleared due old (bit_and old (bit_not w64 due))
cleared due old few_due few_old = record {
  gone = λ i low is. not_second old (bit_not w64 due) i (not_other due i few_due low is);
  others = λ i low isnt. same i (other due i few_due low isnt);
  all = all;
}
  where
    same : (i : ℕ) → Is (bit_not w64 due) i → bit_at (bit_and old (bit_not w64 due)) i ≡ bit_at old i
    same i kept = by (is_or_isnt old i)
      where
        by : Is old i ⊎ Isnt old i → bit_at (bit_and old (bit_not w64 due)) i ≡ bit_at old i
        by (inl p) = both old (bit_not w64 due) i p kept ∙ sym p
        by (inr p) = not_first old (bit_not w64 due) i p ∙ sym p

    none : due ≡ old → (i : ℕ) → Isnt (bit_and old (bit_not w64 due)) i
    none is i = by (nat_lt i 64) (is_or_isnt old i) refl
      where
        by : (b : Bool) → Is old i ⊎ Isnt old i → nat_lt i 64 ≡ b → Isnt (bit_and old (bit_not w64 due)) i
        by b (inr p) e = not_first old (bit_not w64 due) i p
        by true (inl p) e = not_second old (bit_not w64 due) i (not_other due i few_due (ltb-true i 64 e) (ap (λ (n : ℕ). bit_at n i) is ∙ p))
        by false (inl p) e = not_both old i p (bit_at_above old 64 i few_old (ltb-false i 64 e))

    all : (due ≡ old) ⊎ (old ≡ 0) → bit_and old (bit_not w64 due) ≡ 0
    all (inl is) = no_bits (bit_and old (bit_not w64 due)) (none is)
    all (inr zero_is) = and_zero old (bit_not w64 due) zero_is
