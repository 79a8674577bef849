-- The first place of a pattern is the one that a search finds.
use Rattle.std.proofs.Common.{◌≡◌, ℕ, zero, suc, ◌≤◌, Bool, true, false, if◌then◌else◌, List, [], ◌∷◌, length, Option, Some, None, refl, ap, arith}
use Rattle.std.specs.Option.{option_map}
use Rattle.std.proofs.lemmas.Bool.{and_from, and_parts, le-leb, leb-true}
use Rattle.std.proofs.lemmas.Slice.Eq.{bytes_eq-Decides}
use Rattle.memchr.specs.Find.{FindsNeedle, OccursAt}
use Rattle.memchr.proofs.lemmas.MatchLemmas.{OccursAt-from_part, OccursAt-part}
use Rattle.tw_code.specs.machine.Texts.{begins_with, first_of}

module _ (pattern : List ℕ) where
  begins : (text : List ℕ) → OccursAt text pattern 0 → begins_with pattern text ≡ true
  begins text h = and_from _ _ (le-leb _ _ (omega (arith, h.fits))) ((bytes_eq-Decides _ pattern).1 (OccursAt-part text pattern 0 h))

  occurs : (text : List ℕ) → begins_with pattern text ≡ true → OccursAt text pattern 0
  occurs text e =
      let parts = and_parts _ _ e in
      let long : length pattern ≤ length text = leb-true _ _ parts.0 in
      OccursAt-from_part text pattern 0 (omega arith) ((bytes_eq-Decides _ pattern).0 parts.1)

  later : (x : ℕ) (text : List ℕ) (k : ℕ) → OccursAt text pattern k → OccursAt (x ∷ text) pattern (suc k)
  later x text k h = OccursAt-from_part (x ∷ text) pattern (suc k) (omega (arith, h.fits)) (OccursAt-part text pattern k h)

  earlier : (x : ℕ) (text : List ℕ) (k : ℕ) → OccursAt (x ∷ text) pattern (suc k) → OccursAt text pattern k
  earlier x text k h = OccursAt-from_part text pattern k (omega (arith, h.fits)) (OccursAt-part (x ∷ text) pattern (suc k) h)

  at_end : (b : Bool) → (b ≡ true → OccursAt [] pattern 0) → (OccursAt [] pattern 0 → b ≡ true) → (r : Option ℕ) → FindsNeedle [] pattern 0 r → r ≡ (if b then Some 0 else None)
  at_end true gives takes None h = absurd (h 0 (omega arith) (omega arith) (gives refl))
  at_end false gives takes None h = refl
  at_end true gives takes (Some zero) h = refl
  at_end true gives takes (Some (suc k)) h = absurd (omega (arith, h.0.high))
  at_end false gives takes (Some zero) h = let e = takes h.1 in cc
  at_end false gives takes (Some (suc k)) h = absurd (omega (arith, h.0.high))

  one_more : (x : ℕ) (text : List ℕ) (b : Bool) → (b ≡ true → OccursAt (x ∷ text) pattern 0) → (OccursAt (x ∷ text) pattern 0 → b ≡ true)
      → ((r : Option ℕ) → FindsNeedle text pattern 0 r → r ≡ first_of pattern text)
      → (r : Option ℕ) → FindsNeedle (x ∷ text) pattern 0 r → r ≡ (if b then Some 0 else option_map suc (first_of pattern text))
  one_more x text true gives takes rest None h = absurd (h 0 (omega arith) (omega arith) (gives refl))
  one_more x text true gives takes rest (Some zero) h = refl
  one_more x text true gives takes rest (Some (suc k)) h = absurd (h.0.before 0 (omega arith) (omega arith) (gives refl))
  one_more x text false gives takes rest None h = ap (option_map suc) (rest None (λ k low high is. h (suc k) (omega arith) (omega arith) (later x text k is)))
  one_more x text false gives takes rest (Some zero) h = let e = takes h.1 in cc
  one_more x text false gives takes rest (Some (suc k)) h =
      ap (option_map suc) (rest (Some k) (record { low = omega arith; high = omega (arith, h.0.high); before = λ q low high is. h.0.before (suc q) (omega arith) (omega arith) (later x text q is) }, earlier x text k h.1))

  pub find_is : (text : List ℕ) (r : Option ℕ) → FindsNeedle text pattern 0 r → r ≡ first_of pattern text
  find_is [] r h = at_end (begins_with pattern []) (occurs []) (begins []) r h
  find_is (x ∷ text) r h = one_more x text (begins_with pattern (x ∷ text)) (occurs (x ∷ text)) (begins (x ∷ text)) (find_is text) r h
