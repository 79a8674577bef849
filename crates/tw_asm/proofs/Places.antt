-- The labels of a procedure's code: their numbers fit in the machine, and none is past the code's length.
use Rattle.std.proofs.Common.{◌≡◌, ◌==◌, ◌≤◌, ◌<◌, ◌^◌, ℕ, ◌+◌, Bool, true, false, cond, filter, List, [], ◌∷◌, ◌++◌, length, get_or, Option, Some, None, refl, subst, arith}
use Rattle.tw_asm.proofs.AsmNames.{All-from_recursion, AllByRecursion, Instr, IsProcedure, Procedure, eqb-true, first_ones, goal_from, goals_from, label_at, label_places, nat_lt, nat_tests, not, position-Some, skip_of}

-- holds if the numbers of the labels fit in the machine
abbrev pub AreNumbered : List ℕ → Type 0
AreNumbered labels = (place number : ℕ) → label_at labels place ≡ Some number → number < 2 ^ 64

-- ---- how many

few_filtered : (p : ℕ → Bool) (xs : List ℕ) → length (filter p xs) ≤ length xs
few_filtered p [] = omega arith
few_filtered p (x ∷ xs) = by (p x) (few_filtered p xs)
  where
    by : (b : Bool) → length (filter p xs) ≤ length xs → length (cond b (x ∷ filter p xs) (filter p xs)) ≤ length (x ∷ xs)
    by true h = omega (arith, h)
    by false h = omega (arith, h)

few_ones : (xs : List ℕ) → length (first_ones xs) ≤ length xs
few_ones [] = omega arith
few_ones (x ∷ xs) = omega (arith, few_filtered (λ y. not (y == x)) (first_ones xs), few_ones xs)

few_goals : (place : ℕ) (code : List Instr) → length (goals_from place code) ≤ length code
few_goals place [] = omega arith
few_goals place (i ∷ others) = by (skip_of i) (few_goals (place + 1) others)
  where
    by : (skip : Option ℕ) → length (goals_from (place + 1) others) ≤ length others → length (goal_from place skip ++ goals_from (place + 1) others) ≤ length (i ∷ others)
    by None h = omega (arith, h)
    by (Some skip) h = omega (arith, h)

few_labels : (code : List Instr) → length (label_places code) ≤ length code
few_labels code =
    let near = filter (λ goal. not (nat_lt (length code) goal)) (goals_from 0 code) in
    omega (arith, few_ones near, few_filtered (λ goal. not (nat_lt (length code) goal)) (goals_from 0 code), few_goals 0 code)

-- ---- which

module _ (P : ℕ → Type 0) where
  kept : (p : ℕ → Bool) (xs : List ℕ) → AllByRecursion P xs → AllByRecursion P (filter p xs)
  kept p [] h = tt
  kept p (x ∷ xs) h = by (p x) (kept p xs h.1)
    where
      by : (b : Bool) → AllByRecursion P (filter p xs) → AllByRecursion P (cond b (x ∷ filter p xs) (filter p xs))
      by true rest = (h.0, rest)
      by false rest = rest

  kept_once : (xs : List ℕ) → AllByRecursion P xs → AllByRecursion P (first_ones xs)
  kept_once [] h = tt
  kept_once (x ∷ xs) h = (h.0, kept (λ y. not (y == x)) (first_ones xs) (kept_once xs h.1))

not_past : (n goal : ℕ) → nat_lt n goal ≡ false → goal ≤ n
not_past n goal e = grind (arith, nat_tests)

all_near : (n : ℕ) (goals : List ℕ) → AllByRecursion (λ goal. goal ≤ n) (filter (λ goal. not (nat_lt n goal)) goals)
all_near n [] = tt
all_near n (goal ∷ goals) = by (nat_lt n goal) refl (all_near n goals)
  where
    by : (b : Bool) → nat_lt n goal ≡ b → AllByRecursion (λ g. g ≤ n) (filter (λ g. not (nat_lt n g)) goals) → AllByRecursion (λ g. g ≤ n) (cond (not b) (goal ∷ filter (λ g. not (nat_lt n g)) goals) (filter (λ g. not (nat_lt n g)) goals))
    by true e rest = rest
    by false e rest = (not_past n goal e, rest)

-- ---- a label at a place

-- the number of a label is its index
pub label_is : (labels : List ℕ) (place number : ℕ) → label_at labels place ≡ Some number → (number < length labels) × (get_or labels number 0 ≡ place)
label_is labels place number e = let h = position-Some (λ p. p == place) labels number 0 e in (h.0, eqb-true (get_or labels number 0) place h.1)

pub label_within : (code : List Instr) (place number : ℕ) → label_at (label_places code) place ≡ Some number → place ≤ length code
label_within code place number e =
    let h = label_is (label_places code) place number e in
    let near = all_near (length code) (goals_from 0 code) in
    let all = kept_once (λ goal. goal ≤ length code) (filter (λ goal. not (nat_lt (length code) goal)) (goals_from 0 code)) near in
    subst (λ (p : ℕ). p ≤ length code) h.1 (All-from_recursion (λ goal. goal ≤ length code) (label_places code) all number 0 h.0)

pub numbered : (p : Procedure) → IsProcedure p → AreNumbered (label_places p.code)
numbered p h place number e =
    let at = (label_is (label_places p.code) place number e).0 in
    let most = h.code.0.1 in
    omega (arith, at, few_labels p.code, most)
