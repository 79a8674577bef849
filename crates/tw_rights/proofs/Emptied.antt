-- Files of which no register has a right.
use Rattle.std.proofs.Common.{◌≡◌, ◌<◌, ◌≤◌, ◌∙◌, ℕ, suc, ◌⊎◌, inl, inr, List, [], ◌∷◌, Option, None, refl, ap, length, replicate, get_or, arith}
use Rattle.std.proofs.lemmas.Bool.{cases_lt}
use Rattle.tw_rights.specs.Filed.{filed}
use Rattle.tw_rights.specs.declared.held.Held.{Held}

none_at_each : (xs : List (Option Held)) → ((place : ℕ) → get_or xs place None ≡ None) → xs ≡ replicate (length xs) None
none_at_each [] none = refl
none_at_each (x ∷ xs) none = ap (λ y. y ∷ xs) (none 0) ∙ ap (λ (ys : List (Option Held)). None ∷ ys) (none_at_each xs (λ place. none (suc place)))

-- the registers before this one are empty, and those after it
pub all_empty : (xs : List (Option Held)) (end place : ℕ) → length xs ≡ 16 → ((i : ℕ) → i < place → get_or xs i None ≡ None) → ((i : ℕ) → end ≤ i → get_or xs i None ≡ None) → end ≤ place → xs ≡ filed []
all_empty xs end place long before after past = none_at_each xs (λ i. at i (cases_lt i place)) ∙ ap (λ n. replicate n None) long
  where
    at : (i : ℕ) → (i < place) ⊎ (place ≤ i) → get_or xs i None ≡ None
    at i (inl low) = before i low
    at i (inr high) = after i (omega (arith, past, high))
