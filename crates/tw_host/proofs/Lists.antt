-- Lists of lists, lists by seats, and the rest of a list.
use Rattle.tw_host.proofs.Names.{Actor, Event, List, None, Option, Some, [], actor_of, ap, append_assoc, arith, drop, drop_all, drop_more, events_of, false, get_or, get_or-map, get_or_from_slice_get, inl, inr, length, length-append, length-map, map, map-append, map-range_with_len_more, option_to_list, range_with_len, refl, same_actor, slice_get, slice_get_cases, slice_index_or, sym, true, ℕ, ◌++◌, ◌+◌, ◌<◌, ◌↔◌, ◌∙◌, ◌∷◌, ◌≡◌, ◌≤◌, ◌⊎◌}
use Rattle.tw_pool.specs.History.{EventsView}

pub map_map : {X Y Z : Type 0} (f : X → Y) (g : Y → Z) (xs : List X) → map g (map f xs) ≡ map (λ x. g (f x)) xs
map_map f g [] = refl
map_map f g (x ∷ xs) = ap (λ ys. g (f x) ∷ ys) (map_map f g xs)

-- one item more of a list by places
pub one_more : {X Y : Type 0} (f : X → Y) (g : ℕ → Y) (xs : List X) (x : X) (k : ℕ) → map f xs ≡ map g (range_with_len 0 k) → f x ≡ g k → map f (xs ++ x ∷ []) ≡ map g (range_with_len 0 (k + 1))
one_more f g xs x k is at =
    map-append f xs (x ∷ []) ∙ (ap (λ ys. ys ++ f x ∷ []) is ∙ (ap (λ y. map g (range_with_len 0 k) ++ y ∷ []) at ∙ sym (map-range_with_len_more g 0 k k (omega arith))))

pub at_same : (vs : List EventsView) (before : List (List Event)) (k : ℕ) (v : EventsView) → k < length before → map (λ (w : EventsView). w.items) vs ≡ before → v ≡ slice_index_or vs k v
    → v.items ≡ slice_index_or before k []
at_same vs before k v low same at =
    let f = λ (w : EventsView). w.items in
    let short : k < length vs = omega (arith, ap length same, length-map vs f) in
    ap f at ∙ sym (get_or-map f vs k v [] short) ∙ ap (λ (xs : List (List Event)). get_or xs k []) same

-- ---- the rest of a list from a place on

pub rest_more : {X : Type 0} (xs : List X) (k : ℕ) (x : X) → k < length xs → slice_get xs k ≡ Some x → drop k xs ≡ x ∷ drop (k + 1) xs
rest_more xs k x low at = drop_more xs k x low ∙ ap (λ y. y ∷ drop (k + 1) xs) (get_or_from_slice_get xs k x x at)

pub moved : {X : Type 0} (before xs : List X) (k : ℕ) (x : X) → k < length xs → slice_get xs k ≡ Some x → (before ++ x ∷ []) ++ drop (k + 1) xs ≡ before ++ drop k xs
moved before xs k x low at = append_assoc before (x ∷ []) (drop (k + 1) xs) ∙ ap (λ ys. before ++ ys) (sym (rest_more xs k x low at))

module _ (actor : Actor) (history : List Event) (k : ℕ) (event : Event) (low : k < length history) (at : slice_get history k ≡ Some event) where
  pub own_next : same_actor (actor_of event) actor ≡ true → events_of actor (drop k history) ≡ event ∷ events_of actor (drop (k + 1) history)
  own_next is = rw (rest_more history k event low at, is) refl

  pub other_next : same_actor (actor_of event) actor ≡ false → events_of actor (drop k history) ≡ events_of actor (drop (k + 1) history)
  other_next is = rw (rest_more history k event low at, is) refl

-- an item that is there is appended to a list
pub moved_there : {X : Type 0} (before xs : List X) (k : ℕ) → k < length xs → (before ++ option_to_list (slice_get xs k)) ++ drop (k + 1) xs ≡ before ++ drop k xs
moved_there {X} before xs k low = by (slice_get_cases xs k).1
  where
    by : ((x : X) × (k < length xs) × (slice_get xs k ≡ Some x) × (get_or xs k x ≡ x)) ⊎ ((length xs ≤ k) × (slice_get xs k ≡ None)) → (before ++ option_to_list (slice_get xs k)) ++ drop (k + 1) xs ≡ before ++ drop k xs
    by (inl c) = ap (λ (o : Option X). (before ++ option_to_list o) ++ drop (k + 1) xs) c.2 ∙ moved before xs k c.0 c.1 c.2
    by (inr c) = absurd (omega (arith, low, c.0))

-- one more item is appended, if there is one
pub seen_there : {X : Type 0} (before xs : List X) (k : ℕ) → k < length xs → length (before ++ option_to_list (slice_get xs k)) ≡ length before + 1
seen_there {X} before xs k low = by (slice_get_cases xs k).1
  where
    by : ((x : X) × (k < length xs) × (slice_get xs k ≡ Some x) × (get_or xs k x ≡ x)) ⊎ ((length xs ≤ k) × (slice_get xs k ≡ None)) → length (before ++ option_to_list (slice_get xs k)) ≡ length before + 1
    by (inl c) = ap (λ (o : Option X). length (before ++ option_to_list o)) c.2 ∙ length-append before (c.0 ∷ [])
    by (inr c) = absurd (omega (arith, low, c.0))

-- the first item of a list's rest
pub first_of_rest : (xs : List Event) (k : ℕ) (e : Event) (rest : List Event) → drop k xs ≡ e ∷ rest → slice_get xs k ≡ Some e
first_of_rest xs k e rest is = by (slice_get_cases xs k).1
  where
    by : ((x : Event) × (k < length xs) × (slice_get xs k ≡ Some x) × (get_or xs k x ≡ x)) ⊎ ((length xs ≤ k) × (slice_get xs k ≡ None)) → slice_get xs k ≡ Some e
    by (inl c) = c.2 ∙ ap (λ (ys : List Event). Some (get_or ys 0 e)) (sym (rest_more xs k c.0 c.1 c.2) ∙ is)
    by (inr c) = let none = ap length (sym (drop_all k xs c.0) ∙ is) in absurd (omega (arith, none))

-- a list is the rest just where another is all, with one item off both or with none
pub both_less : (before all : List Event) (e : Event) (xs rest ys next : List Event) → xs ≡ e ∷ rest → ys ≡ e ∷ next → (xs ≡ ys) ↔ (before ≡ all) → (rest ≡ next) ↔ (before ≡ all)
both_less before all e xs rest ys next is at iff = (λ same. iff.0 (is ∙ (ap (λ es. e ∷ es) same ∙ sym at)), λ same. ap (drop 1) (sym is ∙ (iff.1 same ∙ at)))

pub same_both : (before all xs rest ys next : List Event) → xs ≡ rest → ys ≡ next → (xs ≡ ys) ↔ (before ≡ all) → (rest ≡ next) ↔ (before ≡ all)
same_both before all xs rest ys next is at iff = (λ same. iff.0 (is ∙ (same ∙ sym at)), λ same. sym is ∙ (iff.1 same ∙ at))
