-- The lowest code at a place, and its origin.
use Rattle.std.proofs.Common.{◌≡◌, ℕ, suc, ◌≤◌, ◌⊎◌, inl, inr, Bool, true, false, Option, Some, None, refl, sym, ap, ◌∙◌, arith}
use Rattle.tw_verify.proofs.VerifierNames.{if◌then◌else◌, leb-false, leb-true, lowest_at, lowest_of, nat_lt, same_Some}

-- ---- the lower of two

low_is : (a b : Option ℕ) (n : ℕ) → lowest_of a b ≡ Some n → (a ≡ Some n) ⊎ (b ≡ Some n)
low_is None b n h = inr h
low_is (Some a) None n h = inl h
low_is (Some a) (Some b) n h = by (nat_lt b a) h
  where
    by : (t : Bool) → Some (if t then b else a) ≡ Some n → (Some a ≡ Some n) ⊎ (Some b ≡ Some n)
    by true e = inr e
    by false e = inl e

low_least : (a b : Option ℕ) (n : ℕ) → lowest_of a b ≡ Some n → ((m : ℕ) → a ≡ Some m → n ≤ m) × ((m : ℕ) → b ≡ Some m → n ≤ m)
low_least None b n h = (λ m e. cc, λ m e. let same : n ≡ m = same_Some n m (sym h ∙ e) in omega arith)
low_least (Some a) None n h = (λ m e. let same : n ≡ m = same_Some n m (sym h ∙ e) in omega arith, λ m e. cc)
low_least (Some a) (Some b) n h = (λ m e. let same : a ≡ m = same_Some a m e in omega (arith, low.0), λ m e. let same : b ≡ m = same_Some b m e in omega (arith, low.1))
  where
    by : (t : Bool) → nat_lt b a ≡ t → Some (if t then b else a) ≡ Some n → (n ≤ a) × (n ≤ b)
    by true e f = let less = leb-true (suc b) a e in let is : b ≡ n = same_Some b n f in (omega arith, omega arith)
    by false e f = let more = leb-false (suc b) a e in let is : a ≡ n = same_Some a n f in (omega arith, omega arith)

    low : (n ≤ a) × (n ≤ b)
    low = by (nat_lt b a) refl h

low_none : (a b : Option ℕ) → lowest_of a b ≡ None → (a ≡ None) × (b ≡ None)
low_none None b h = (refl, h)
low_none (Some a) b h = cc

if_is : (b : Bool) (k n : ℕ) → (if b then Some k else None) ≡ Some n → (b ≡ true) × (n ≡ k)
if_is true k n h = (refl, sym (same_Some k n h))
if_is false k n h = cc

if_not : (b : Bool) (k : ℕ) → (if b then Some k else None) ≡ None → b ≡ false
if_not true k h = cc
if_not false k h = refl

if_so : (b : Bool) (k : ℕ) → b ≡ true → (if b then Some k else None) ≡ Some k
if_so b k e = ap (λ (t : Bool). if t then Some k else None) e

-- ---- the lowest number at a place

abbrev pub IsCause : Option ℕ → Bool → Bool → ℕ → Type 0
IsCause own differs changed n = (own ≡ Some n) ⊎ (((differs ≡ true) × (n ≡ 7)) ⊎ ((changed ≡ true) × (n ≡ 8)))

-- it is one of the three
pub cause_at : (own : Option ℕ) (differs changed : Bool) (n : ℕ) → lowest_at own differs changed ≡ Some n → IsCause own differs changed n
cause_at own differs changed n h = outer (low_is (lowest_of own (if differs then Some 7 else None)) (if changed then Some 8 else None) n h)
  where
    inner : (own ≡ Some n) ⊎ ((if differs then Some 7 else None) ≡ Some n) → IsCause own differs changed n
    inner (inl e) = inl e
    inner (inr e) = inr (inl (if_is differs 7 n e))

    outer : (lowest_of own (if differs then Some 7 else None) ≡ Some n) ⊎ ((if changed then Some 8 else None) ≡ Some n) → IsCause own differs changed n
    outer (inl e) = inner (low_is own (if differs then Some 7 else None) n e)
    outer (inr e) = inr (inr (if_is changed 8 n e))

-- and at most each of them
pub least_at : (own : Option ℕ) (differs changed : Bool) (n : ℕ) → lowest_at own differs changed ≡ Some n → ((m : ℕ) → own ≡ Some m → n ≤ m) × (differs ≡ true → n ≤ 7) × (changed ≡ true → n ≤ 8)
least_at own differs changed n h = by (lowest_of own (if differs then Some 7 else None)) refl
  where
    least : ((m : ℕ) → lowest_of own (if differs then Some 7 else None) ≡ Some m → n ≤ m) × ((m : ℕ) → (if changed then Some 8 else None) ≡ Some m → n ≤ m)
    least = low_least (lowest_of own (if differs then Some 7 else None)) (if changed then Some 8 else None) n h

    by : (o : Option ℕ) → lowest_of own (if differs then Some 7 else None) ≡ o → ((m : ℕ) → own ≡ Some m → n ≤ m) × (differs ≡ true → n ≤ 7) × (changed ≡ true → n ≤ 8)
    by None e =
        let none = low_none own (if differs then Some 7 else None) e in (
          λ m f. let both : None ≡ Some m = sym none.0 ∙ f in cc,
          λ d. let both : Some 7 ≡ None = sym (if_so differs 7 d) ∙ none.1 in cc,
          λ c. least.1 8 (if_so changed 8 c),
        )
    by (Some k) e =
        let inner = low_least own (if differs then Some 7 else None) k e in
        let low = least.0 k e in (
          λ m f. omega (arith, inner.0 m f),
          λ d. omega (arith, inner.1 7 (if_so differs 7 d)),
          λ c. least.1 8 (if_so changed 8 c),
        )

-- if there is none, none of the three is there
pub nothing_at : (own : Option ℕ) (differs changed : Bool) → lowest_at own differs changed ≡ None → (own ≡ None) × (differs ≡ false) × (changed ≡ false)
nothing_at own differs changed h =
    let outer = low_none (lowest_of own (if differs then Some 7 else None)) (if changed then Some 8 else None) h in
    let inner = low_none own (if differs then Some 7 else None) outer.0 in
    (inner.0, if_not differs 7 inner.1, if_not changed 8 outer.1)
