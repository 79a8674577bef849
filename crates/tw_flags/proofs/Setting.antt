-- A step on a flag's word keeps its rule.
use Rattle.std.proofs.Common.{◌≡◌, ℕ, ◌-◌, ◌<◌, ◌==◌, Bool, true, false, List, [], ◌∷◌, ◌++◌, Option, Some, None, length, refl, ap, sym, ◌∙◌, subst, arith, inl}
use Rattle.std.specs.List.{last_or}
use Rattle.std.specs.Prelude.{if◌then◌else◌, unwrap_or}
use mir.Val.{bool_byte}
use prog.Atomic.{either}
use Rattle.logbook.specs.Pages.{Cell, cell, keeps, no_nib, step, Moves, Goes}
use Rattle.tw_flags.specs.Values.{IsKept, Looks, Sets, is_raised, word_of}

abbrev pub shown : List Bool → List Bool
shown values = []

abbrev pub moved : List Bool → List Bool → Bool → Type 0
moved before after answer = Unit {0}

last_set : (o : Option Bool) (values : List Bool) (raised : Bool) → last_or o (values ++ raised ∷ []) ≡ Some raised
last_set o [] raised = refl
last_set o (x ∷ xs) raised = last_set (Some x) xs raised

-- a flag is as it was set last
pub set_last : (values : List Bool) (raised : Bool) → is_raised (values ++ raised ∷ []) ≡ raised
set_last values raised = ap (λ o. unwrap_or o false) (last_set None values raised)

-- whatever the word was, it is that of the setting
becomes : (was raised : Bool) → either ((if was then 1 else 0) == 1 - bool_byte raised) (bool_byte raised) (if was then 1 else 0) ≡ (if raised then 1 else 0)
becomes true true = refl
becomes true false = refl
becomes false true = refl
becomes false false = refl

pub sets_moves : (seen : List Bool) (raised : Bool)
    → Moves IsKept shown moved 0 (seen, (no_nib, None)) (λ n. either (n == 1 - bool_byte raised) (bool_byte raised) n) (Sets (step 0 (1 - bool_byte raised) (bool_byte raised) raised) (seen, (no_nib, None)))
sets_moves seen raised cs values kept pre away =
    let P : List Cell → Type 0 = λ c. (0 < length c) × ((cell c 0).1 ≡ true)
    × Goes IsKept shown moved 0 (seen, (no_nib, None)) (λ n. either (n == 1 - bool_byte raised) (bool_byte raised) n) (Sets (step 0 (1 - bool_byte raised) (bool_byte raised) raised) (seen, (no_nib, None))) c values in
    let word : either (word_of values == 1 - bool_byte raised) (bool_byte raised) (word_of values) ≡ word_of (values ++ raised ∷ []) =
    becomes (is_raised values) raised ∙ ap (λ (b : Bool). if b then 1 else 0) (sym (set_last values raised)) in
    let seen_too : values ++ raised ∷ [] ≡ seen ++ pre.0 ++ raised ∷ [] = ap (λ (s : List Bool). s ++ raised ∷ []) (sym pre.1) in
    subst P (sym kept)
    (omega arith, refl, (keeps, raised ∷ [], None, tt, ap (λ (k : ℕ). (k, true) ∷ (0, true) ∷ []) word, inl (refl, refl), (pre.0, seen_too)))

pub looks_moves : (seen : List Bool) (asked : Bool) → Moves IsKept shown moved 0 (seen, (no_nib, None)) (λ n. n) (Looks (step 0 0 0 asked) (seen, (no_nib, None)))
looks_moves seen asked cs values kept pre away =
    let P : List Cell → Type 0 = λ c. (0 < length c) × ((cell c 0).1 ≡ true) × Goes IsKept shown moved 0 (seen, (no_nib, None)) (λ n. n) (Looks (step 0 0 0 asked) (seen, (no_nib, None))) c values in
    let word : word_of values ≡ word_of (values ++ is_raised values ∷ []) = ap (λ (b : Bool). if b then 1 else 0) (sym (set_last values (is_raised values))) in
    let seen_too : values ++ is_raised values ∷ [] ≡ seen ++ pre.0 ++ is_raised (seen ++ pre.0) ∷ [] = ap (λ (s : List Bool). s ++ is_raised s ∷ []) (sym pre.1) in
    subst P (sym kept)
    (omega arith, refl, (keeps, is_raised values ∷ [], None, tt, ap (λ (k : ℕ). (k, true) ∷ (0, true) ∷ []) word, inl (refl, refl), (pre.0, seen_too, ap word_of (sym pre.1))))
