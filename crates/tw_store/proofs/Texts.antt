-- The bytes of a datum's texts, up to a place.
use Rattle.tw_store.proofs.Names.{FinMap, List, None, Option, Some, Value, [], ap, arith, capped, count_in, entries_in, inl, inr, len-empty, len-entries, length, length-map, min, option_map, part, refl, slice_get, slice_get_cases, subscripts_of, sum_by, sum_by-cons, sum_by_more, sym, take, take_all, text_bytes, text_bytes_if, value_cmp, value_in, ℕ, ◌+◌, ◌-◌, ◌^◌, ◌∙◌, ◌∷◌, ◌≡◌, ◌≤◌}
use Rattle.std.specs.declared.cmp.Ordering.{Ordering}
use Rattle.std.specs.FinMap as map
use Rattle.tw_types.specs.Store.{Content, Unset, Set, Contains, Maps}
use Rattle.tw_types.specs.Totals.{sum_of, total}

-- ---- sums over a list, element by element

sum_next : {X : Type 0} (f : X → ℕ) (xs : List X) (i : ℕ) → sum_by f (take (i + 1) xs) ≡ sum_by f (take i xs) + part f (slice_get xs i)
sum_next f xs i = elim ((slice_get_cases xs i).1) as (λ _. sum_by f (take (i + 1) xs) ≡ sum_by f (take i xs) + part f (slice_get xs i)) [
  | inl at ↦ sum_by_more f xs i at.0 at.1 ∙ ap (λ x. sum_by f (take i xs) + f x) at.3 ∙ ap (λ o. sum_by f (take i xs) + part f o) (sym at.2)
  | inr past ↦
      let longer = ap (sum_by f) (take_all (i + 1) xs (omega (arith, past.0))) in
      let all = ap (sum_by f) (take_all i xs past.0) in
      let none = ap (part f) past.1 in
      omega (arith, longer, all, none)
]

sum_values : {K X : Type 0} (f : X → ℕ) (es : List (K × X)) → sum_of f es ≡ sum_by (λ e. f e.1) es
sum_values f [] = refl
sum_values f (e ∷ es) = ap (λ n. f e.1 + n) (sum_values f es) ∙ sym (sum_by-cons (λ e. f e.1) e es)

total_values : {K X : Type 0} {R : K → K → Ordering} (f : X → ℕ) (m : FinMap R X) → total f m ≡ sum_by (λ e. f e.1) (map.entries m)
unfolding total
total_values f m = sum_values f (map.entries m)

-- ---- the texts of a datum

abbrev pub value_bytes : Value × Value → ℕ
value_bytes e = text_bytes e.1

subscript_if : (o : Option Value) → part text_bytes o ≡ text_bytes_if o
subscript_if None = refl
subscript_if (Some v) = refl

value_if : (o : Option (Value × Value)) → part value_bytes o ≡ text_bytes_if (option_map (λ e. e.1) o)
value_if None = refl
value_if (Some e) = refl

-- counts the bytes of a scalar's value, and of so many subscripts and their values
abbrev pub bytes_before : Content → ℕ → ℕ
bytes_before content i = text_bytes_if (value_in content) + (sum_by text_bytes (take i (subscripts_of content)) + sum_by value_bytes (take i (map.entries (entries_in content))))

pub bytes_next : (content : Content) (i old subscript value both new : ℕ) → old ≡ capped (bytes_before content i) → subscript ≡ text_bytes_if (slice_get (subscripts_of content) i)
    → value ≡ text_bytes_if (option_map (λ e. e.1) (slice_get (map.entries (entries_in content)) i)) → both ≡ min (subscript + value) (2 ^ 64 - 1) → new ≡ min (old + both) (2 ^ 64 - 1)
    → new ≡ capped (bytes_before content (i + 1))
bytes_next content i old subscript value both new before first second sum made =
    let subscripts = sum_next text_bytes (subscripts_of content) i in
    let values = sum_next value_bytes (map.entries (entries_in content)) i in
    let one = subscript_if (slice_get (subscripts_of content) i) in
    let other = value_if (slice_get (map.entries (entries_in content)) i) in
    omega (arith, before, first, second, sum, made, subscripts, values, one, other)

few_subscripts : (content : Content) → length (subscripts_of content) ≤ count_in content
few_subscripts Unset = omega arith
few_subscripts (Set v) = omega arith
few_subscripts (Contains members) = omega (arith, length-map (map.entries members) (λ e. e.0), len-entries members)
few_subscripts (Maps values) = omega (arith, length-map (map.entries values) (λ e. e.0), len-entries values)

no_entries : length (map.entries (map.empty {X = Value} {R = value_cmp})) ≡ 0
no_entries = sym (len-entries (map.empty {X = Value} {R = value_cmp})) ∙ len-empty value_cmp Value

few_values : (content : Content) → length (map.entries (entries_in content)) ≤ count_in content
few_values Unset = omega (arith, no_entries)
few_values (Set v) = omega (arith, no_entries)
few_values (Contains members) = omega (arith, no_entries)
few_values (Maps values) = omega (arith, len-entries values)

pub bytes_all : (content : Content) (i bytes : ℕ) → count_in content ≤ i → bytes ≡ capped (bytes_before content i)
    → bytes ≡ capped (text_bytes_if (value_in content) + (sum_by text_bytes (subscripts_of content) + total text_bytes (entries_in content)))
bytes_all content i bytes all before =
    let short = few_subscripts content in
    let few = few_values content in
    let subscripts = ap (sum_by text_bytes) (take_all i (subscripts_of content) (omega (arith, short, all))) in
    let entries = ap (sum_by value_bytes) (take_all i (map.entries (entries_in content)) (omega (arith, few, all))) in
    let values = total_values text_bytes (entries_in content) in
    omega (arith, before, subscripts, entries, values)
