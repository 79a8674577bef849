-- Two lists with the same elements, which rise by a number and have no duplicates, are equal.
use Rattle.tw_rules.proofs.Names.{All-permutation, AllByRecursion, IsNonDecreasingBy, IsPermutation, IsPermutation-map, List, [], ap, arith, length, map, refl, slice_index_or, suc, sum_by, sum_by-IsPermutation, sym, ℕ, ◌-◌, ◌<◌, ◌∙◌, ◌∷◌, ◌≡◌, ◌≤◌}
use Rattle.std.proofs.lemmas.List.Elements.{All-from_recursion, recursion_from_All}
use Rattle.std.proofs.lemmas.List.Sums.{sum_by-cons}

-- ---- numbers

abbrev Rise : List ℕ → Type 0
Rise [] = Unit {0}
Rise (a ∷ ns) = AllByRecursion (λ b. a ≤ b) ns × Rise ns

abbrev pub RiseStrictly : List ℕ → Type 0
RiseStrictly [] = Unit {0}
RiseStrictly (a ∷ ns) = AllByRecursion (λ b. a < b) ns × RiseStrictly ns

at_most : (a : ℕ) (bs : List ℕ) → AllByRecursion (λ b. a < b) bs → AllByRecursion (λ b. a ≤ b) bs
at_most a [] h = tt
at_most a (b ∷ bs) h = (omega (arith, h.0), at_most a bs h.1)

rise : (ns : List ℕ) → RiseStrictly ns → Rise ns
rise [] h = tt
rise (a ∷ ns) h = (at_most a ns h.0, rise ns h.1)

none_below : (b : ℕ) (bs : List ℕ) → AllByRecursion (λ x. b ≤ x) bs → sum_by (λ x. b - x) bs ≡ 0
none_below b [] h = refl
none_below b (x ∷ bs) h = omega (arith, h.0, none_below b bs h.1, sum_by-cons (λ x. b - x) x bs)

abbrev AreSame : List ℕ → List ℕ → Type 0
AreSame ns bs = (f : ℕ → ℕ) → sum_by f bs ≡ sum_by f ns

-- the least of one list isn't above that of the other
not_above : (a b : ℕ) (ns bs : List ℕ) → AllByRecursion (λ x. b ≤ x) bs → sum_by (λ x. b - x) (b ∷ bs) ≡ sum_by (λ x. b - x) (a ∷ ns) → b ≤ a
not_above a b ns bs low same = omega (arith, none_below b bs low, same, sum_by-cons (λ x. b - x) b bs, sum_by-cons (λ x. b - x) a ns)

same_rest : (a b : ℕ) (ns bs : List ℕ) → b ≡ a → AreSame (a ∷ ns) (b ∷ bs) → AreSame ns bs
same_rest a b ns bs is same f =
    let at : f b ≡ f a = ap f is in
    omega (arith, same f, at, sum_by-cons f b bs, sum_by-cons f a ns)

same_numbers : (ns bs : List ℕ) → Rise ns → Rise bs → AreSame ns bs → bs ≡ ns
same_numbers [] [] up ups same = refl
same_numbers [] (b ∷ bs) up ups same = absurd (omega (arith, same (λ _. 1), sum_by-cons (λ _. 1) b bs))
same_numbers (a ∷ ns) [] up ups same = absurd (omega (arith, same (λ _. 1), sum_by-cons (λ _. 1) a ns))
same_numbers (a ∷ ns) (b ∷ bs) up ups same =
    let is : b ≡ a = omega (arith, not_above a b ns bs ups.0 (same (λ x. b - x)), not_above b a bs ns up.0 (sym (same (λ x. a - x)))) in
    ap (λ (x : ℕ). x ∷ bs) is ∙ ap (λ (xs : List ℕ). a ∷ xs) (same_numbers ns bs up.1 ups.1 (same_rest a b ns bs is same))

-- ---- items with numbers

module _ {X : Type 0} (number : X → ℕ) where
  low : (m : ℕ) (ys : List X) → ((k : ℕ) (d : X) → k < length ys → m ≤ number (slice_index_or ys k d)) → AllByRecursion (λ b. m ≤ b) (map number ys)
  low m [] h = tt
  low m (y ∷ ys) h = (h 0 y (omega arith), low m ys (λ k d lt. h (suc k) d (omega (arith, lt))))

  rise_by : (ys : List X) → IsNonDecreasingBy number ys → Rise (map number ys)
  rise_by [] h = tt
  rise_by (y ∷ ys) h = (low (number y) ys (λ k d lt. h 0 (suc k) d (omega arith) (omega (arith, lt))), rise_by ys (λ i j d le lt. h (suc i) (suc j) d (omega (arith, le)) (omega (arith, lt))))

  -- it is that one, if it has its number
  abbrev Agrees : X → X → Type 0
  Agrees y z = number z ≡ number y → y ≡ z

  alone : (x : X) (zs : List X) → AllByRecursion (λ b. number x < b) (map number zs) → AllByRecursion (Agrees x) zs
  alone x [] h = tt
  alone x (z ∷ zs) h = (λ same. absurd (omega (arith, same, h.0)), alone x zs h.1)

  joined : (x : X) (xs ys : List X) → AllByRecursion (λ b. number x < b) (map number ys) → AllByRecursion (λ y. AllByRecursion (Agrees y) xs) ys → AllByRecursion (λ y. AllByRecursion (Agrees y) (x ∷ xs)) ys
  joined x xs [] h own = tt
  joined x xs (y ∷ ys) h own = ((λ same. absurd (omega (arith, same, h.0)), own.0), joined x xs ys h.1 own.1)

  all_agree : (xs : List X) → RiseStrictly (map number xs) → AllByRecursion (λ y. AllByRecursion (Agrees y) xs) xs
  all_agree [] h = tt
  all_agree (x ∷ xs) h = ((λ _. refl, alone x xs h.0), joined x xs xs h.0 (all_agree xs h.1))

  after_all : (x : X) (xs ys : List X) → AllByRecursion (λ y. AllByRecursion (Agrees y) (x ∷ xs)) ys → AllByRecursion (λ y. AllByRecursion (Agrees y) xs) ys
  after_all x xs [] h = tt
  after_all x xs (y ∷ ys) h = (h.0.1, after_all x xs ys h.1)

  same_by : (xs ys : List X) → map number ys ≡ map number xs → AllByRecursion (λ y. AllByRecursion (Agrees y) xs) ys → ys ≡ xs
  same_by [] [] same h = refl
  same_by [] (y ∷ ys) same h = cc
  same_by (x ∷ xs) [] same h = cc
  same_by (x ∷ xs) (y ∷ ys) same h =
      let head : number x ≡ number y = cc in
      let rest : map number ys ≡ map number xs = cc in
      ap (λ (z : X). z ∷ ys) (h.0.0 head) ∙ ap (λ (zs : List X). x ∷ zs) (same_by xs ys rest (after_all x xs ys h.1))

  pub same_order : (xs ys : List X) → RiseStrictly (map number xs) → IsNonDecreasingBy number ys → IsPermutation xs ys → ys ≡ xs
  same_order xs ys up ups moved =
      same_by xs ys (same_numbers (map number xs) (map number ys) (rise (map number xs) up) (rise_by ys ups) (λ f. sum_by-IsPermutation f (map number xs) (map number ys) (IsPermutation-map number xs ys moved)))
      (recursion_from_All (λ y. AllByRecursion (Agrees y) xs) ys (All-permutation (λ y. AllByRecursion (Agrees y) xs) xs ys moved (All-from_recursion (λ y. AllByRecursion (Agrees y) xs) xs (all_agree xs up))))
