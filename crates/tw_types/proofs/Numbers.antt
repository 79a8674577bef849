-- Tests of numbers.
use Rattle.std.proofs.Common.{◌≡◌, ◌<◌, ◌⊎◌, inl, inr, ℕ, Bool, true, false, refl, subst, nat_eq, nat_lt, arith}
use Rattle.std.proofs.lemmas.Bool.Decides.{nat_tests}

pub nat_apart : (a b : ℕ) → (a ≡ b → ⊥) → nat_eq a b ≡ false
nat_apart a b h = grind (arith, nat_tests)

pub nat_same : (a b : ℕ) → nat_eq a b ≡ true → a ≡ b
nat_same a b h = grind (arith, nat_tests)

pub nat_other : (a b : ℕ) → nat_eq a b ≡ false → a ≡ b → ⊥
nat_other a b h e = grind (arith, nat_tests)

pub nat_is : (a b : ℕ) → a ≡ b → nat_eq a b ≡ true
nat_is a b h = grind (arith, nat_tests)

pub nat_itself : (a : ℕ) → nat_eq a a ≡ true
nat_itself a = grind (arith, nat_tests)

pub nat_flips : (a b : ℕ) → nat_eq a b ≡ nat_eq b a
nat_flips a b = by (nat_eq a b) (nat_eq b a) refl refl
  where
    by : (p q : Bool) → nat_eq a b ≡ p → nat_eq b a ≡ q → p ≡ q
    by true true h k = refl
    by false false h k = refl
    by true false h k =
        let u : nat_eq b a ≡ true = subst (λ x. nat_eq x a ≡ true) (nat_same a b h) (nat_itself a) in
        cc
    by false true h k =
        let u : nat_eq a b ≡ true = subst (λ x. nat_eq x b ≡ true) (nat_same b a k) (nat_itself b) in
        cc

pub lt_test : (a b : ℕ) → a < b → nat_lt a b ≡ true
lt_test a b h = grind (arith, nat_tests)

pub test_lt : (a b : ℕ) → nat_lt a b ≡ true → a < b
test_lt a b h = grind (arith, nat_tests)

-- two numbers are equal or different
pub same_or_apart : (a b : ℕ) → (a ≡ b) ⊎ (a ≡ b → ⊥)
same_or_apart a b = by (nat_eq a b) refl
  where
    by : (t : Bool) → nat_eq a b ≡ t → (a ≡ b) ⊎ (a ≡ b → ⊥)
    by true e = inl (nat_same a b e)
    by false e = inr (nat_other a b e)
