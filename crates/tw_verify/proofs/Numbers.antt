-- The lowest code of checks.
use Rattle.std.proofs.Common.{◌≡◌, ℕ, Bool, true, false, List, [], ◌∷◌, ◌++◌, Option, Some, None, refl, sym, ap, ◌∙◌, arith}
use Rattle.tw_verify.proofs.VerifierNames.{Question, if◌then◌else◌, lower, lowest_of, nat_lt, rejection_in}
use Rattle.std.proofs.lemmas.Bool.Decides.{nat_tests}

lower_twice : (n m k : ℕ) → (if nat_lt (if nat_lt k m then k else m) n then (if nat_lt k m then k else m) else n) ≡ (if nat_lt k (if nat_lt m n then m else n) then k else (if nat_lt m n then m else n))
lower_twice n m k = grind (arith, nat_tests)

lower-lowest : (n : ℕ) (first second : Option ℕ) → lower n (lowest_of first second) ≡ lower (lower n first) second
lower-lowest n None second = refl
lower-lowest n (Some m) None = refl
lower-lowest n (Some m) (Some k) = lower_twice n m k

pub lowest_nothing : (first : Option ℕ) → lowest_of first None ≡ first
lowest_nothing None = refl
lowest_nothing (Some n) = refl

pub lowest_of_three : (first second third : Option ℕ) → lowest_of (lowest_of first second) third ≡ lowest_of first (lowest_of second third)
lowest_of_three None second third = refl
lowest_of_three (Some n) second third = ap Some (sym (lower-lowest n second third))

pub rejection_in-append : (xs ys : List Question) → rejection_in (xs ++ ys) ≡ lowest_of (rejection_in xs) (rejection_in ys)
rejection_in-append [] ys = refl
rejection_in-append (q ∷ xs) ys =
    ap (λ (r : Option ℕ). if q.1 then r else Some (lower q.0 r)) (rejection_in-append xs ys) ∙ out q.1
  where
    out : (b : Bool) → (if b then lowest_of (rejection_in xs) (rejection_in ys) else Some (lower q.0 (lowest_of (rejection_in xs) (rejection_in ys)))) ≡ lowest_of (if b then rejection_in xs else Some (lower q.0 (rejection_in xs))) (rejection_in ys)
    out true = refl
    out false = ap Some (lower-lowest q.0 (rejection_in xs) (rejection_in ys))
