-- A heap of numbers with the least one first.
use Rattle.tw_rules.proofs.Names.{Bool, Bor, Contains, Contains-permutation, Equal, Greater, IfNone, IfSome, IsHeap, IsLeast, IsPermutation, IsPermutation-map, IsPermutation-sym, IsUpperBound, Less, List, None, Ordering, Some, [], all_at, ap, arith, cond, contains_cases, contains_here, contains_none, false, inl, inr, is_lt, length, length_permutation, map, mapped_from, mapped_has, nat_cmp, nat_eq, nat_lt, nat_tests, option_copied, refl, subst, sym, true, ℕ, ◌<◌, ◌∷◌, ◌≡◌, ◌≤◌}
use Rattle.std.specs.declared.cmp.Reverse.{Reverse}
use Rattle.std.specs.declared.option.Option.{Option}
use Rattle.std.specs.Slice.{IsItemAt}

abbrev Item : Type 0
Item = Reverse ℕ

abbrev number_of : Item → ℕ
number_of r = r.0

-- the least number is first
abbrev order : Item → Item → Ordering
order x y = nat_cmp y.0 x.0

not_under : (a b : ℕ) → is_lt (nat_cmp a b) ≡ false → b ≤ a
not_under a b h = by (nat_lt a b) (nat_eq a b) refl refl h
  where
    by : (l e : Bool) → nat_lt a b ≡ l → nat_eq a b ≡ e → is_lt (cond l Less (cond e Equal Greater)) ≡ false → b ≤ a
    by true e is same h = cc
    by false e is same h = grind (arith, nat_tests)

least_of : (items : List Item) (x : Item) → Contains items x → IsUpperBound order x items → IsLeast (map number_of items) x.0
least_of items x there upper = record {
  there = mapped_has number_of items x there;
  below = λ n c. let from = mapped_from number_of items n c in subst (λ k. x.0 ≤ k) from.2 (not_under from.0.0 x.0 (all_at (λ (y : Item). is_lt (nat_cmp y.0 x.0) ≡ false) items from.0 upper from.1));
}

-- the first item of a heap
pub peeked : (items : List Item) (o : Option (Bor Item)) (y : Item) → option_copied o ≡ Some y → IsItemAt items 0 o → IfSome o (λ x. IsHeap order items → IsUpperBound order x.now items)
    → IsHeap order items → IsLeast (map number_of items) y.0
peeked items None y e item upper heap = cc
peeked [] (Some b) y e item upper heap = let some = item.0 in absurd cc
peeked (z ∷ items) (Some b) y e item upper heap =
    let first : b.now ≡ z = item.1 in
    let same : b.now ≡ y = cc in
    subst (λ x. IsLeast (map number_of (z ∷ items)) x.0) same (least_of (z ∷ items) b.now (subst (Contains (z ∷ items)) (sym first) (contains_here z items)) (upper heap))

pub least_same : (numbers : List ℕ) (a b : ℕ) → IsLeast numbers a → IsLeast numbers b → a ≡ b
least_same numbers a b p q = let x : a ≤ b = p.below b q.there in let y : b ≤ a = q.below a p.there in omega arith

-- the least item has left
pub popped : (items rest : List Item) (o : Option Item) (least size : ℕ) → IsLeast (map number_of items) least → size ≡ length items → IfNone o (size ≡ 0)
    → IfSome o (λ x. IsPermutation items (x ∷ rest)) → IfSome o (λ x. IsHeap order items → IsUpperBound order x rest) → IsHeap order items
    → IsPermutation (map number_of items) (least ∷ map number_of rest)
popped [] rest None least size is len none moved upper heap = absurd (contains_none least is.there)
popped (x ∷ items) rest None least size is len none moved upper heap = absurd (omega arith)
popped items rest (Some x) least size is len none moved upper heap =
    subst (λ n. IsPermutation (map number_of items) (n ∷ map number_of rest)) same (IsPermutation-map number_of _ _ moved)
  where
    in_items : Contains items x
    in_items = Contains-permutation _ _ x (IsPermutation-sym _ _ moved) (contains_here x rest)

    under : least ≤ x.0
    under = is.below x.0 (mapped_has number_of items x in_items)

    over : x.0 ≤ least
    over =
        let from = mapped_from number_of items least is.there in
        subst (λ k. x.0 ≤ k) from.2 (elim (contains_cases x rest from.0 (Contains-permutation _ _ from.0 moved from.1)) [
          | inl one ↦ subst (λ r. x.0 ≤ r.0) one (omega arith)
          | inr there ↦ not_under from.0.0 x.0 (all_at (λ (y : Item). is_lt (nat_cmp y.0 x.0) ≡ false) rest from.0 (upper heap) there)
        ])

    same : x.0 ≡ least
    same = omega (arith, under, over)

-- an item leaves only where there was one
pub emptied : (items rest : List Item) (o : Option Item) (P : Type 0) → map number_of items ≡ [] → IfSome o (λ x. IsPermutation items (x ∷ rest)) → IfNone o ((rest ≡ items) × P) → map number_of rest ≡ []
emptied [] rest None P e moved same = ap (map number_of) same.0
emptied [] rest (Some x) P e moved same = absurd (contains_none x (Contains-permutation _ _ x (IsPermutation-sym _ _ moved) (contains_here x rest)))
emptied (y ∷ items) rest o P e moved same = cc

pub fewer : (xs ys : List ℕ) (x : ℕ) → IsPermutation xs (x ∷ ys) → length ys < length xs
fewer xs ys x moved = let same : length (x ∷ ys) ≡ length xs = length_permutation xs (x ∷ ys) moved in omega arith
