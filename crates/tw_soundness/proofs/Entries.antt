-- A sum that isn't zero has a part that isn't; and each value in a finite map is one of its entries.
use Rattle.std.proofs.Common.{◌≡◌, inl, inr, ℕ, ◌<◌, Bool, true, false, ◌||◌, cond, T, List, [], ◌∷◌, map, Some, refl, sym, ap, subst, ◌∙◌, arith}
use Rattle.tw_soundness.proofs.MachineNames.{Equal-is, FinMap, IsAntisymmetric, IsEntry, IsTotalOrder, Less, Ordering, below_all, cases_eq, empty_of_len, entries, find, first, get, get-entries, get_entry, is_eq, len, less, list_any, same_Some, second, tied_itself, total-empty}
use Rattle.tw_types.specs.Totals.{sum_of, total}

some_of : {K X : Type 0} (f : X → ℕ) (es : List (K × X)) → 0 < sum_of f es → (e : K × X) × IsEntry e es × (0 < f e.1)
some_of f [] h = absurd (omega arith)
some_of f (e ∷ es) h = elim (cases_eq (f e.1) 0) [
  | inl none ↦ let rest = some_of f es (omega arith) in (rest.0, inr rest.1, rest.2)
  | inr some ↦ (e, inl refl, omega arith)
]

-- an entry with a part of it
pub some_part : {K X : Type 0} (R : K → K → Ordering) (o : IsTotalOrder R) (f : X → ℕ) (m : FinMap R X) → 0 < total f m → (k : K) × (x : X) × (get m k ≡ Some x) × (0 < f x)
unfolding total
some_part R o f m h = let e = some_of f (entries m) h in (e.0.0, e.0.1, get_entry R o m e.0 e.1, e.2)

-- a sum over an empty map is zero
pub none_of : {K X : Type 0} (R : K → K → Ordering) (f : X → ℕ) (m : FinMap R X) → len m ≡ 0 → total f m ≡ 0
none_of R f m h = ap (total f) (empty_of_len m h) ∙ total-empty R f

-- ---- entries

entry_found : {K X : Type 0} (R : K → K → Ordering) → IsAntisymmetric R → (k : K) (x : X) (es : List (K × X)) → find R k es ≡ Some x → IsEntry (k, x) es
entry_found R same k x [] h = cc
entry_found {K = K} {X = X} R same k x (e ∷ es) h = by (is_eq (R k e.0)) refl h (λ h'. entry_found R same k x es h')
  where
    by : (b : Bool) → is_eq (R k e.0) ≡ b → cond b (Some e.1) (find R k es) ≡ Some x → (find R k es ≡ Some x → IsEntry (k, x) es) → IsEntry (k, x) (e ∷ es)
    by true tie h later =
        let key : k ≡ e.0 = same k e.0 ((Equal-is (R k e.0)).0 tie) in
        let value : e.1 ≡ x = same_Some e.1 x h in
        inl (ap (λ (q : K). (q, x)) key ∙ ap (λ (y : X). (e.0, y)) (sym value))
    by false other h later = inr (later h)

pub entry_of : {K X : Type 0} (R : K → K → Ordering) → IsAntisymmetric R → (m : FinMap R X) (k : K) (x : X) → get m k ≡ Some x → IsEntry (k, x) (entries m)
entry_of R same m k x h = entry_found R same k x (entries m) (sym (get-entries m k) ∙ h)

-- a key below all keys of a list is the key of no entry
pub not_below : {K X : Type 0} (R : K → K → Ordering) (o : IsTotalOrder R) (k : K) (e : K × X) (es : List (K × X)) → T (below_all R k es) → IsEntry e es → e.0 ≡ k → ⊥
not_below R o k e [] h i is = absurd i
not_below {K = K} {X = X} R o k e (x ∷ es) h (inl same) is =
    let under : R k x.0 ≡ Less = less _ (first _ _ h) in
    let key : x.0 ≡ k = ap (λ (z : K × X). z.0) (sym same) ∙ is in
    let tie : R k k ≡ Less = subst (λ (q : K). R k q ≡ Less) key under in
    let apart : true ≡ false = sym (ap is_eq (tied_itself o k)) ∙ ap is_eq tie in
    cc
not_below R o k e (x ∷ es) h (inr i) is = not_below R o k e es (second _ _ h) i is

-- if no value passes a test, none of the entries does
pub none_passes : {K X : Type 0} (test : X → Bool) (es : List (K × X)) (e : K × X) → list_any test (map (λ e. e.1) es) ≡ false → IsEntry e es → test e.1 ≡ false
none_passes test [] e h i = absurd i
none_passes {K = K} {X = X} test (x ∷ es) e h i = by (test x.1) refl h i (λ h' i'. none_passes test es e h' i')
  where
    by : (b : Bool) → test x.1 ≡ b → (b || list_any test (map (λ e. e.1) es)) ≡ false → IsEntry e (x ∷ es) → (list_any test (map (λ e. e.1) es) ≡ false → IsEntry e es → test e.1 ≡ false) → test e.1 ≡ false
    by true is h i later = cc
    by false is h (inl same) later = ap (λ (z : K × X). test z.1) same ∙ is
    by false is h (inr i) later = later h i
