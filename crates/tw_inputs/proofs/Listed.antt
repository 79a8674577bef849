-- The items of an array as the values of a map.
use Rattle.std.proofs.Common.{◌≡◌, ◌+◌, ◌<◌, true, ℕ, ℤ, pos, zero, suc, List, [], ◌∷◌, ◌++◌, Option, Some, None, ap, arith, refl, sym, subst, map, length, take, get_or, option_map, ◌∙◌}
use Rattle.std.specs.List.{Contains}
use Rattle.std.specs.Prelude.{MatchOption}
use Rattle.std.proofs.lemmas.List.{length-map, length-take, map-append, map_more}
use Rattle.json.specs.Json.{Json, array}
use Rattle.json.specs.Json as json
use Rattle.json.specs.Value.{items_of, value_view}
use Rattle.json.specs.declared.value.Value.{Value}
use Rattle.tw_types.specs.DataType.{is_map_by}
use Rattle.tw_types.specs.Nesting.{NestedScalar}
use Rattle.tw_types.specs.declared.data_type.Scalar.TheVariants as scalar
use Rattle.tw_types.specs.declared.input.Input.{Input}
use Rattle.tw_inputs.specs.JsonInputs.{IsInput, IsListed, numbered}
use Rattle.tw_inputs.proofs.Seen.{no_none}

-- one item more
numbered_more : {V : Type 0} (value : Json → Option V) (n : ℕ) (js : List Json) (j : Json) → numbered value n (js ++ j ∷ []) ≡ numbered value n js ++ option_map (λ v. (pos (n + length js), v)) (value j) ∷ []
numbered_more {V} value n [] j =
    let same : n ≡ n + 0 = omega arith in
    ap (λ (k : ℕ). option_map (λ (v : V). (pos k, v)) (value j) ∷ []) same
numbered_more {V} value n (i ∷ js) j =
    let same : suc n + length js ≡ n + suc (length js) = omega arith in
    ap (λ (os : List (Option (ℤ × V))). option_map (λ (v : V). (pos n, v)) (value i) ∷ os)
    (numbered_more value (suc n) js j ∙ ap (λ (k : ℕ). numbered value (suc n) js ++ option_map (λ (v : V). (pos k, v)) (value j) ∷ []) same)

-- a value that is found is the value of its item, under the number of items before it
pub one_value_more : {A V : Type 0} (value : Json → Option V) (items : List (Value A)) (i : ℕ) (item : Value A) → i < length items → item ≡ get_or items i item → (values new : List (ℤ × V)) (n : ℤ) (v : V) → n ≡ pos i
    → Some v ≡ value (value_view item) → map Some values ≡ numbered value 0 (map value_view (take i items)) → new ≡ values ++ (n, v) ∷ [] → map Some new ≡ numbered value 0 (map value_view (take (i + 1) items))
one_value_more {A} {V} value items i item lt at values new n v is found h e =
    let j = value_view (get_or items i item) in
    let done = map (λ (w : Value A). value_view w) (take i items) in
    let count : i ≡ 0 + length done = omega (arith, lt, length-map (take i items) (λ (w : Value A). value_view w), length-take i items) in
    let last : Some (n, v) ≡ option_map (λ (w : V). (pos (0 + length done), w)) (value j) =
    ap (λ (z : ℤ). Some (z, v)) (is ∙ ap pos count)
    ∙ ap (option_map (λ (w : V). (pos (0 + length done), w))) (found ∙ ap (λ (w : Value A). value (value_view w)) at) in
    ap (map Some) e
    ∙ map-append Some values ((n, v) ∷ [])
    ∙ ap (λ (os : List (Option (ℤ × V))). os ++ Some (n, v) ∷ []) h
    ∙ ap (λ (o : Option (ℤ × V)). numbered value 0 done ++ o ∷ []) last
    ∙ sym (numbered_more value 0 done j)
    ∙ ap (numbered value 0) (sym (map_more (λ (w : Value A). value_view w) items i item lt))

-- an item that is no value
none_numbered : {A V : Type 0} (value : Json → Option V) (n : ℕ) (items : List (Value A)) (k : ℕ) (d : Value A) → k < length items → value (value_view (get_or items k d)) ≡ None → Contains (numbered value n (map value_view items)) None
none_numbered value n [] k d lt e = absurd (omega (arith, lt))
none_numbered value n (x ∷ xs) zero d lt e = (0, omega arith, ap (option_map (λ v. (pos n, v))) e)
none_numbered value n (x ∷ xs) (suc k) d lt e = let rest = none_numbered value (suc n) xs k d (omega (arith, lt)) e in (suc rest.0, omega (arith, rest.1), rest.2)

pub none_at : {A V : Type 0} (value : Json → Option V) (items : List (Value A)) (i : ℕ) (item : Value A) → i < length items → item ≡ get_or items i item → None ≡ value (value_view item) → Contains (numbered value 0 (map value_view items)) None
none_at {A} value items i item lt at none = none_numbered value 0 items i item lt (sym (none ∙ ap (λ (w : Value A). value (value_view w)) at))

-- so there are no values of all items
pub not_numbered : {V : Type 0} (value : Json → Option V) (js : List Json) (es : List (ℤ × V)) → Contains (numbered value 0 js) None → map Some es ≡ numbered value 0 js → ⊥
not_numbered {V} value js es none is = no_none es (subst (λ (os : List (Option (ℤ × V))). Contains os None) (sym is) none)

-- an array is of one list
items_one : (js ks : List Json) → items_of js ≡ items_of ks → js ≡ ks
items_one [] [] e = refl
items_one [] (k ∷ ks) e = absurd cc
items_one (j ∷ js) [] e = absurd cc
items_one (j ∷ js) (k ∷ ks) e =
    let both = parts e in
    ap (λ (l : Json). l ∷ js) both.0 ∙ ap (λ (ls : List Json). k ∷ ls) (items_one js ks both.1)
  where
    parts : json.item j (items_of js) ≡ json.item k (items_of ks) → (j ≡ k) × (items_of js ≡ items_of ks)
    parts h = (cc, cc)

-- the input that an array is for a map with int subscripts
pub list_read : (ty : NestedScalar) (js : List Json) (read : Option Input) → is_map_by scalar.Int ty ≡ true → MatchOption read ((given : Input) → IsListed ty.scalar js given → ⊥) (IsListed ty.scalar js)
    → MatchOption read ((given : Input) → IsInput ty (array (items_of js)) given → ⊥) (IsInput ty (array (items_of js)))
list_read ty js None by h = λ given is. h given (subst (λ (ks : List Json). IsListed ty.scalar ks given) (sym (items_one js is.0 is.1)) is.3)
list_read ty js (Some given) by h = (js, refl, by, h)
