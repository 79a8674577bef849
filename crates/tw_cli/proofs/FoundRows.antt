-- The values that are found among rows.
use Rattle.tw_cli.proofs.Names.{Bool, Err, IfOk, IfSome, IsExplainedBy, IsExplanation, IsMeaningOf, List, MatchOption, None, Ok, Option, Result, Some, Text, [], false, find, is_number, is_some, length, list_any, meant, names_code, refl, subst, sym, true, ℕ, ◌==◌, ◌∷◌, ◌≡◌}

pub some_found : {X : Type 0} (p : X → Bool) (xs : List X) → is_some (find p xs) ≡ list_any p xs
some_found p [] = refl
some_found p (x ∷ xs) = by (p x) refl (some_found p xs)
  where
    by : (b : Bool) → p x ≡ b → is_some (find p xs) ≡ list_any p xs → is_some (find p (x ∷ xs)) ≡ list_any p (x ∷ xs)
    by true e h = rw e refl
    by false e h = rw e h

pub found_passes : {X : Type 0} (p : X → Bool) (xs : List X) → IfSome (find p xs) (λ x. p x ≡ true)
found_passes p [] = tt
found_passes {X} p (x ∷ xs) = by (p x) refl (found_passes p xs)
  where
    by : (b : Bool) → p x ≡ b → IfSome (find p xs) (λ (y : X). p y ≡ true) → IfSome (find p (x ∷ xs)) (λ (y : X). p y ≡ true)
    by true e h = rw e e
    by false e h = rw e h

-- ---- the explanation of an argument after `explain`

pub explained_word : {V E : Type 0} (Formed : V → Type 0) (code text : V → List ℕ) (word : Text) (r : Result (Option V) E) → (length word == 0) ≡ false
    → IfOk r (λ requested. MatchOption requested (is_number (meant word) ≡ false) (λ e. (is_number (meant word) ≡ true) × Formed e × (code e ≡ meant word) × IsExplanation (meant word) (text e)))
    → IfOk r (λ requested. MatchOption requested (names_code word ≡ false) (λ e. (names_code word ≡ true) × Formed e × IsMeaningOf word (code e) (text e)))
explained_word Formed code text word (Ok None) some h = rw (some, h) refl
explained_word Formed code text word (Ok (Some e)) some h = (rw (some, h.0) refl, h.1, subst (λ (b : Bool). IsExplainedBy b word (code e) (text e)) (sym some) (h.2, h.3))
explained_word Formed code text word (Err e) some h = tt
