-- Texts before a `:`.
use Rattle.std.proofs.Common.{◌≡◌, ◌≢◌, ◌==◌, ℕ, Bool, true, false, cond, List, [], ◌∷◌, ◌++◌, Option, Some, None, refl, sym, ap, ◌∙◌}
use Rattle.std.proofs.lemmas.Bool.{eqb-true}
use Rattle.std.specs.Borrow.{Bor}
use Rattle.std.specs.Option.{option_map}
use Rattle.std.specs.Prelude.{MatchOption}
use Rattle.tw_lexer.specs.Names.{before_colon}

pub before : (name : List ℕ) → before_colon (name ++ 58 ∷ []) ≡ Some name
before [] = refl
before (b ∷ []) = refl
before (b ∷ c ∷ rest) = rw (before (c ∷ rest)) refl

abbrev no_name : Option (List ℕ)
no_name = None

abbrev empty_name : Option (List ℕ)
empty_name = Some []

pub none_before : (word : List ℕ) → ((name : List ℕ) → word ≢ name ++ 58 ∷ []) → before_colon word ≡ None
none_before [] none = refl
none_before (b ∷ []) none = by (b == 58) refl
  where
    by : (t : Bool) → (b == 58) ≡ t → cond t empty_name no_name ≡ no_name
    by true is = absurd (none [] (ap (λ (k : ℕ). k ∷ []) (eqb-true b 58 is)))
    by false is = refl
none_before (b ∷ c ∷ rest) none = rw (none_before (c ∷ rest) (λ name e. none (b ∷ name) (ap (λ (ys : List ℕ). b ∷ ys) e))) refl

pub colon_same : (word : List ℕ) (r : Option (Bor (List ℕ))) → MatchOption r ((front : List ℕ) → word ≢ front ++ 58 ∷ []) (λ x. word ≡ x.now ++ 58 ∷ []) → option_map (λ x. x.now) r ≡ before_colon word
colon_same word None h = sym (none_before word h)
colon_same word (Some x) h = sym (ap before_colon h ∙ before x.now)

-- the text that is found is before the `:`
pub found_before : (word found : List ℕ) → before_colon word ≡ Some found → word ≡ found ++ 58 ∷ []
found_before [] found e = absurd (none e)
  where
    none : no_name ≡ Some found → ⊥
    none e = cc
found_before (b ∷ []) found e = by (b == 58) refl e
  where
    none : no_name ≡ Some found → ⊥
    none e = cc

    empty : empty_name ≡ Some found → [] ≡ found
    empty e = cc

    by : (t : Bool) → (b == 58) ≡ t → cond t empty_name no_name ≡ Some found → b ∷ [] ≡ found ++ 58 ∷ []
    by true is e = ap (λ (k : ℕ). k ∷ []) (eqb-true b 58 is) ∙ ap (λ (xs : List ℕ). xs ++ 58 ∷ []) (empty e)
    by false is e = absurd (none e)
found_before (b ∷ c ∷ rest) found e = by (before_colon (c ∷ rest)) refl (λ name is. found_before (c ∷ rest) name is)
  where
    none : no_name ≡ Some found → ⊥
    none e = cc

    whole : (name : List ℕ) → Some (b ∷ name) ≡ Some found → b ∷ name ≡ found
    whole name e = cc

    by : (inner : Option (List ℕ)) → before_colon (c ∷ rest) ≡ inner → ((name : List ℕ) → before_colon (c ∷ rest) ≡ Some name → c ∷ rest ≡ name ++ 58 ∷ []) → b ∷ c ∷ rest ≡ found ++ 58 ∷ []
    by None is back = absurd (none (rw is at e))
    by (Some name) is back = ap (λ (xs : List ℕ). b ∷ xs) (back name is) ∙ ap (λ (xs : List ℕ). xs ++ 58 ∷ []) (whole name (rw is at e))
