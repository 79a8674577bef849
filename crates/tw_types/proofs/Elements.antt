-- The elements of lists, and a list with one of them changed.
use Rattle.std.proofs.Common.{◌≡◌, ◌≤◌, ◌<◌, ◌⊎◌, inl, inr, ℕ, zero, suc, List, [], ◌∷◌, ◌++◌, map, length, refl, sym, ap, subst, set, arith}
use Rattle.std.specs.Prelude.{Some, None, slice_get}
use Rattle.std.specs.List.{AllByRecursion, Contains}

pub no_items : {A : Type 0} (es : List A) → length es ≡ 0 → es ≡ []
no_items [] e = refl
no_items (x ∷ es) e = absurd (omega arith)

module _ {X : Type 0} where
  pub get_set_same : (xs : List X) (k : ℕ) (x : X) → k < length xs → slice_get (set xs k x) k ≡ Some x
  get_set_same [] k x h = absurd (omega arith)
  get_set_same (y ∷ xs) zero x h = refl
  get_set_same (y ∷ xs) (suc k) x h = get_set_same xs k x (omega arith)

  pub get_set_other : (xs : List X) (k j : ℕ) (x : X) → (j ≡ k → ⊥) → slice_get (set xs k x) j ≡ slice_get xs j
  get_set_other [] k j x h = refl
  get_set_other (y ∷ xs) zero zero x h = absurd (h refl)
  get_set_other (y ∷ xs) zero (suc j) x h = refl
  get_set_other (y ∷ xs) (suc k) zero x h = refl
  get_set_other (y ∷ xs) (suc k) (suc j) x h = get_set_other xs k j x (λ e. h (ap suc e))

  -- if there is no element at k, the list ends before it
  pub none_past : (xs : List X) (k : ℕ) → slice_get xs k ≡ None → length xs ≤ k
  none_past [] k e = omega arith
  none_past (x ∷ xs) zero e = cc
  none_past (x ∷ xs) (suc k) e = let rest : length xs ≤ k = none_past xs k e in omega arith

  -- ---- membership

  pub contains_none : (y : X) → Contains [] y → ⊥
  contains_none y c = let low = c.1 in omega arith

  pub contains_here : (x : X) (xs : List X) → Contains (x ∷ xs) x
  contains_here x xs = (0, omega arith, refl)

  pub contains_later : (x : X) (xs : List X) (y : X) → Contains xs y → Contains (x ∷ xs) y
  contains_later x xs y c = let low = c.1 in (suc c.0, omega arith, c.2)

  pub contains_cases : (x : X) (xs : List X) (y : X) → Contains (x ∷ xs) y → (x ≡ y) ⊎ Contains xs y
  contains_cases x xs y (zero, low, is) = inl is
  contains_cases x xs y (suc k, low, is) = inr (k, omega arith, is)

  pub first_there : (x : X) (xs : List X) → slice_get xs 0 ≡ Some x → Contains xs x
  first_there x [] e = cc
  first_there x (y ∷ xs) e = let one : y ≡ x = cc in subst (λ z. Contains (z ∷ xs) x) (sym one) (contains_here x xs)

  pub all_at : (P : X → Type 0) (xs : List X) (y : X) → AllByRecursion P xs → Contains xs y → P y
  all_at P [] y all c = absurd (contains_none y c)
  all_at P (x ∷ xs) y all c = elim (contains_cases x xs y c) [ inl e ↦ subst P e all.0 | inr rest ↦ all_at P xs y all.1 rest ]

  -- an appended item comes last
  pub appended_cases : (xs : List X) (x y : X) → Contains (xs ++ x ∷ []) y → Contains xs y ⊎ (x ≡ y)
  appended_cases [] x y c = elim (contains_cases x [] y c) [ inl e ↦ inr e | inr rest ↦ absurd (contains_none y rest) ]
  appended_cases (z ∷ xs) x y c = elim (contains_cases z (xs ++ x ∷ []) y c) [
    | inl e ↦ inl (subst (λ w. Contains (z ∷ xs) w) e (contains_here z xs))
    | inr rest ↦ elim (appended_cases xs x y rest) [ inl there ↦ inl (contains_later z xs y there) | inr e ↦ inr e ]
  ]

  pub appended_last : (xs : List X) (x : X) → Contains (xs ++ x ∷ []) x
  appended_last [] x = contains_here x []
  appended_last (y ∷ xs) x = contains_later y (xs ++ x ∷ []) x (appended_last xs x)

  pub appended_old : (xs : List X) (x y : X) → Contains xs y → Contains (xs ++ x ∷ []) y
  appended_old [] x y c = absurd (contains_none y c)
  appended_old (z ∷ xs) x y c = elim (contains_cases z xs y c) [
    | inl e ↦ subst (λ w. Contains (z ∷ xs ++ x ∷ []) w) e (contains_here z (xs ++ x ∷ []))
    | inr rest ↦ contains_later z (xs ++ x ∷ []) y (appended_old xs x y rest)
  ]

module _ {X Y : Type 0} where
  pub all_mapped : (P : Y → Type 0) (f : X → Y) (xs : List X) → ((x : X) → Contains xs x → P (f x)) → AllByRecursion P (map f xs)
  all_mapped P f [] h = tt
  all_mapped P f (x ∷ xs) h = (h x (contains_here x xs), all_mapped P f xs (λ y c. h y (contains_later x xs y c)))

  pub mapped_has : (f : X → Y) (xs : List X) (x : X) → Contains xs x → Contains (map f xs) (f x)
  mapped_has f [] x c = absurd (contains_none x c)
  mapped_has f (y ∷ xs) x c = elim (contains_cases y xs x c) [
    | inl e ↦ subst (λ z. Contains (f y ∷ map f xs) (f z)) e (contains_here (f y) (map f xs))
    | inr rest ↦ contains_later (f y) (map f xs) (f x) (mapped_has f xs x rest)
  ]

  -- each element is f of one of the list's
  pub mapped_from : (f : X → Y) (xs : List X) (y : Y) → Contains (map f xs) y → (x : X) × Contains xs x × (f x ≡ y)
  mapped_from f [] y c = absurd (contains_none y c)
  mapped_from f (x ∷ xs) y c = elim (contains_cases (f x) (map f xs) y c) [
    | inl e ↦ (x, contains_here x xs, e)
    | inr rest ↦ let from = mapped_from f xs y rest in (from.0, contains_later x xs from.0 from.1, from.2)
  ]
