-- A bound that is reported is the number itself.
use Rattle.tw_bounds.proofs.Names.{AreReported, AtMost, Bool, Bound, Endless, IsAtMost, IsBoundOfMain, List, None, Option, Over, Procedure, Some, Weights, [], ap, arith, bound_at, cap, false, greatest_bound, if◌then◌else◌, le-leb, leb-true, map, min, nat_le, option_flatten, option_map, refl, reported, same_Some, slice_get, slice_get-map, sym, true, ℕ, ◌∙◌, ◌∷◌, ◌≡◌}

abbrev pub number_of : Bound → ℕ
number_of (AtMost n) = n
number_of Over = 0
number_of Endless = 0

pub is_exact : (exact : Option ℕ) (n : ℕ) → reported exact ≡ AtMost n → exact ≡ Some n
is_exact None n e = cc
is_exact (Some m) n e = by (nat_le m greatest_bound) e
  where
    by : (b : Bool) → (if b then AtMost m else Over) ≡ AtMost n → Some m ≡ Some n
    by true e = ap (λ (x : Bound). Some (number_of x)) e
    by false e = cc

listed : (exact : List (Option ℕ)) (n : ℕ) → slice_get (map reported exact) 0 ≡ Some (AtMost n) → bound_at exact 0 ≡ Some n
listed exact n at = by (slice_get exact 0) (sym (slice_get-map reported exact 0) ∙ at)
  where
    by : (o : Option (Option ℕ)) → option_map reported o ≡ Some (AtMost n) → option_flatten o ≡ Some n
    by None e = cc
    by (Some x) e = is_exact x n (same_Some (reported x) (AtMost n) e)

pub main_bound : (program : List Procedure) (weights : Weights) (bounds : List Bound) (n : ℕ) → AreReported program weights bounds → IsAtMost bounds n → IsBoundOfMain program weights n
main_bound program weights bounds n is at = (is.0, is.1.each, listed is.0 n (sym (ap (λ (xs : List Bound). slice_get xs 0) is.2) ∙ at))

-- a number that was cut off is reported as the exact one
same_report : (o : Option ℕ) → reported (option_map (λ b. min b cap) o) ≡ reported o
same_report None = refl
same_report (Some n) = by (nat_le (min n cap) greatest_bound) (nat_le n greatest_bound) refl refl
  where
    by : (a b : Bool) → nat_le (min n cap) greatest_bound ≡ a → nat_le n greatest_bound ≡ b → (if nat_le (min n cap) greatest_bound then AtMost (min n cap) else Over) ≡ (if nat_le n greatest_bound then AtMost n else Over)
    by true true e f =
        let low = leb-true n greatest_bound f in
        let same : min n cap ≡ n = omega (arith, low) in
        rw (e, f) (ap AtMost same)
    by true false e f =
        let low = leb-true (min n cap) greatest_bound e in
        let no : false ≡ true = sym f ∙ le-leb n greatest_bound (omega (arith, low)) in
        cc
    by false true e f =
        let low = leb-true n greatest_bound f in
        let no : false ≡ true = sym e ∙ le-leb (min n cap) greatest_bound (omega (arith, low)) in
        cc
    by false false e f = rw (e, f) refl

pub reported_exact : (exact : List (Option ℕ)) → map reported (map (option_map (λ b. min b cap)) exact) ≡ map reported exact
reported_exact [] = refl
reported_exact (o ∷ exact) = ap (λ (b : Bound). b ∷ map reported (map (option_map (λ c. min c cap)) exact)) (same_report o) ∙ ap (λ (bs : List Bound). reported o ∷ bs) (reported_exact exact)
