-- The subscripts of a container are of the type that it says.
use Rattle.std.proofs.Common.{◌≡◌, ℕ, ℤ, pos, negsuc, zero, suc, inl, inr, true, false, Bool, ◌||◌, List, [], ◌∷◌, slice_get, Some, None, refl, sym, ap, ◌∙◌}
use Rattle.std.proofs.lemmas.Option.{same_Some}
use Rattle.std.specs.FinMap as map
use Rattle.std.specs.FinMap.{get-empty, insert}
use Rattle.std.specs.Map.{keys_of}
use Rattle.tw_types.specs.declared.data_type.MapKind.{MapKind}
use Rattle.tw_types.specs.declared.data_type.MapKind.TheVariants as kinds
use Rattle.tw_types.specs.declared.data_type.Scalar.{Scalar}
use Rattle.tw_types.specs.DataType.{has_subscripts_by, is_container_by, is_map_by, is_map_of, same_scalar}
use Rattle.tw_types.specs.Nesting.{NestedScalar}
use Rattle.tw_types.specs.Store.{Content, Unset, Set, Contains, Maps, Datum, Members, Values}
use Rattle.tw_types.specs.StoreCalls.{entries_in, members_in, subscript_after, subscripts_of}
use Rattle.tw_types.specs.TypedStore.{AreEntriesFor, AreSubscriptsFor, IsOfType}
use Rattle.tw_types.specs.Value.{scalar_of}
use Rattle.tw_types.specs.declared.value.Value.{Value}
use Rattle.std.proofs.lemmas.Bool.{and_parts}
use Rattle.tw_types.specs.ValueOrder.{Subscript, value_cmp}
use Rattle.tw_types.proofs.Parts.{put_or_before}
use Rattle.tw_types.proofs.SameTypes.{container_only, map_only, same_scalars}
use Rattle.tw_types.proofs.Totals.{IsEntry, get_entry}
use Rattle.tw_types.proofs.ValueOrder.{value_cmp_total, value_cmp-IsAntisymmetric}

-- an empty container has no subscripts
pub no_kinds : (ty : NestedScalar) → AreSubscriptsFor ty map.empty
no_kinds ty k m at = let z : None ≡ Some m = sym (get-empty value_cmp k) ∙ at in cc

pub one_more_kind : (ty : NestedScalar) (members : Members) (subscript : Subscript) (id : ℕ) → AreSubscriptsFor ty members → is_container_by (scalar_of subscript) ty ≡ true → AreSubscriptsFor ty (insert members subscript id)
one_more_kind ty members subscript id kinds kind k m at = elim (put_or_before value_cmp_total value_cmp-IsAntisymmetric members subscript id k m at) [
  | inl e ↦ ap (λ (j : Subscript). is_container_by (scalar_of j) ty) e.0 ∙ kind
  | inr old ↦ kinds k m old
]

pub members_kinds : (x : Datum) → IsOfType x.ty x.content → AreSubscriptsFor x.ty (members_in x.content)
members_kinds x of = by x.content of
  where
    by : (content : Content) → IsOfType x.ty content → AreSubscriptsFor x.ty (members_in content)
    by Unset h = no_kinds x.ty
    by (Set v) h = no_kinds x.ty
    by (Contains members) h = h.1
    by (Maps values) h = no_kinds x.ty

-- a container has subscripts of one type only
one_kind : (a b : Scalar) (ty : NestedScalar) → is_container_by a ty ≡ true → is_container_by b ty ≡ true → a ≡ b
one_kind a b ty h g = at ty.containers h g
  where
    at : (containers : List Scalar) → is_container_by a (record ty { containers = containers }) ≡ true → is_container_by b (record ty { containers = containers }) ≡ true → a ≡ b
    at [] h g = cc
    at (own ∷ inner) h g = same_scalars a own h ∙ sym (same_scalars b own g)

-- a subscript that is found is of the container's type
found_entry : {X : Type 0} (index : ℤ) (es : List (Subscript × X)) (k : Subscript) → subscript_after index (keys_of es) ≡ Some k → (m : X) × IsEntry (k, m) es
found_entry {X = X} (negsuc n) es k is = cc
found_entry {X = X} (pos n) es k is = at n es is
  where
    at : (n : ℕ) (es : List (Subscript × X)) → slice_get (keys_of es) n ≡ Some k → (m : X) × IsEntry (k, m) es
    at n [] is = cc
    at zero (e ∷ es) is = let key : e.0 ≡ k = same_Some e.0 k is in (e.1, inl (ap (λ (j : Subscript). (j, e.1)) (sym key)))
    at (suc n) (e ∷ es) is = let rest = at n es is in (rest.0, inr rest.1)

pub subscript_kind : (ty : NestedScalar) (members : Members) (by : Scalar) → AreSubscriptsFor ty members → is_container_by by ty ≡ true → (index : ℤ) (k : Subscript) → subscript_after index (map.keys members) ≡ Some k → scalar_of k ≡ by
subscript_kind ty members by kinds kind index k is =
    let e = found_entry index (map.entries members) k is in
    one_kind (scalar_of k) by ty (kinds k e.0 (get_entry value_cmp value_cmp_total members (k, e.0) e.1)) kind

-- ---- maps

pub no_entries : (ty : NestedScalar) → AreEntriesFor ty map.empty
no_entries ty k v at = let z : None ≡ Some v = sym (get-empty value_cmp k) ∙ at in cc

pub one_more_entry : (ty : NestedScalar) (values : Values) (subscript : Subscript) (value : Value) → AreEntriesFor ty values → is_map_of (scalar_of subscript) (scalar_of value) ty ≡ true → AreEntriesFor ty (insert values subscript value)
one_more_entry ty values subscript value kinds kind k v at = elim (put_or_before value_cmp_total value_cmp-IsAntisymmetric values subscript value k v at) [
  | inl e ↦ ap (λ (j : Subscript). is_map_of (scalar_of j) (scalar_of v) ty) e.0 ∙ (ap (λ (u : Value). is_map_of (scalar_of subscript) (scalar_of u) ty) (sym e.1) ∙ kind)
  | inr old ↦ kinds k v old
]

pub values_kinds : (x : Datum) → IsOfType x.ty x.content → AreEntriesFor x.ty (entries_in x.content)
values_kinds x of = by x.content of
  where
    by : (content : Content) → IsOfType x.ty content → AreEntriesFor x.ty (entries_in content)
    by Unset h = no_entries x.ty
    by (Set v) h = no_entries x.ty
    by (Contains members) h = no_entries x.ty
    by (Maps values) h = h.1

-- a map has subscripts of one type only
one_map_kind : (a b : Scalar) (ty : NestedScalar) → is_map_by a ty ≡ true → is_map_by b ty ≡ true → a ≡ b
one_map_kind a b ty h g = at ty.containers ty.map h g
  where
    at : (containers : List Scalar) (kind : MapKind) → is_map_by a (record ty { containers = containers; map = kind }) ≡ true → is_map_by b (record ty { containers = containers; map = kind }) ≡ true → a ≡ b
    at [] kinds.NoMap h g = cc
    at [] (kinds.Values own) h g = same_scalars a own h ∙ sym (same_scalars b own g)
    at [] (kinds.Sums own) h g = same_scalars a own h ∙ sym (same_scalars b own g)
    at (own ∷ inner) kind h g = cc

-- a subscript that is found in a container or a map is of its type
pub content_kind : (x : Datum) (by : Scalar) → IsOfType x.ty x.content → has_subscripts_by by x.ty ≡ true → (index : ℤ) (k : Subscript) → subscript_after index (subscripts_of x.content) ≡ Some k → scalar_of k ≡ by
content_kind x by of kind index k is = at x.content of is
  where
    none : (index : ℤ) → subscript_after index [] ≡ Some k → scalar_of k ≡ by
    none (pos n) e = cc
    none (negsuc n) e = cc

    at : (content : Content) → IsOfType x.ty content → subscript_after index (subscripts_of content) ≡ Some k → scalar_of k ≡ by
    at Unset h is = none index is
    at (Set v) h is = none index is
    at (Contains members) h is =
        let plain : is_map_by by x.ty ≡ false = rw (container_only x.ty h.0).1 refl in
        subscript_kind x.ty members by h.1 (rest (is_container_by by x.ty) (is_map_by by x.ty) plain kind) index k is
      where
        rest : (a b : Bool) → b ≡ false → (a || b) ≡ true → a ≡ true
        rest true b e g = refl
        rest false true e g = cc
        rest false false e g = cc
    at (Maps values) h is =
        let plain : is_container_by by x.ty ≡ false = (map_only x.ty h.0).1 by in
        let mine : is_map_by by x.ty ≡ true = rest (is_container_by by x.ty) (is_map_by by x.ty) plain kind in
        let e = found_entry index (map.entries values) k is in
        let typed = and_parts (is_map_by (scalar_of k) x.ty) (same_scalar (scalar_of e.0) x.ty.scalar) (h.1 k e.0 (get_entry value_cmp value_cmp_total values (k, e.0) e.1)) in
        one_map_kind (scalar_of k) by x.ty typed.0 mine
      where
        rest : (a b : Bool) → a ≡ false → (a || b) ≡ true → b ≡ true
        rest true b e g = cc
        rest false b e g = g
