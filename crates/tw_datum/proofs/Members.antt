-- The members of a container, if there are any, and iteration over them.
use Rattle.std.proofs.Common.{[], ◌≡◌, Bool, true, false, subst, OnErr, ℕ, zero, suc, ℤ, List, ◌∷◌, Some, None, IfSome, refl, sym, ap, ◌∙◌, map as each, length, slice_get, pos, negsuc, arith, ◌+◌, ◌≤◌, fold, drop, inl, inr, OnOk, IsSome, option_map}
use Rattle.std.specs.declared.option.Option.{Option}
use Rattle.std.specs.declared.result.Result.{Result}
use Rattle.std.specs.declared.result.Result.TheVariants.{Ok, Err}
use Rattle.tw_types.specs.ValueOrder.{Subscript, value_cmp}
use Rattle.tw_types.proofs.ValueOrder.{value_cmp_total, value_cmp-IsAntisymmetric}
use Rattle.std.specs.FinMap as map
use Rattle.std.specs.FinMap.{entries, len-entries, len-empty}
use Rattle.std.specs.Map.{keys_of}
use Rattle.std.proofs.lemmas.List.{length-map, drop_all}
use Rattle.tw_types.specs.DataType.{is_container, is_container_by, is_map, is_map_of, is_scalar}
use Rattle.tw_types.specs.Nesting.{NestedScalar}
use Rattle.tw_types.specs.Store.{Contains, Maps, Members, Values, empty_content}
use Rattle.tw_types.specs.StoreCalls.{members_in, subscript_after}
use Rattle.tw_types.specs.TypedStore.{AreEntriesFor, AreSubscriptsFor}
use Rattle.tw_types.specs.declared.value.Value.{Value}
use Rattle.tw_types.specs.Value.{scalar_of}
use Rattle.tw_types.proofs.SameTypes.{else_container}
use Rattle.tw_types.proofs.Subscripts.{no_entries as no_values, no_kinds, one_more_entry, one_more_kind}
use Rattle.tw_types.specs.declared.data_type.MapKind.{MapKind}
use Rattle.tw_types.specs.declared.data_type.MapKind.TheVariants as kinds
use Rattle.tw_types.specs.declared.data_type.Scalar.{Scalar}
use Rattle.tw_types.proofs.Totals.{IsEntry, get_entry}
use Rattle.tw_datum.specs.Kept.{FitsType, KeptMembers, KeptDatum, ids_of, IsAddition, IsMemberAdded, with_kept_member}
use Rattle.tw_types.proofs.Elements.{no_items}
use Rattle.tw_types.proofs.Mapped.{insert_mapped, get_mapped}

pub insert_ids : {M : Type 0} (id : M → ℕ) (m : KeptMembers M) (k : Subscript) (x : M) → ids_of id (map.insert m k x) ≡ map.insert (ids_of id m) k (id x)
insert_ids id = insert_mapped id value_cmp_total value_cmp-IsAntisymmetric

-- the content of a new container
pub container_empty : (ty : NestedScalar) → is_scalar ty ≡ false → is_map ty ≡ false → empty_content ty ≡ Contains map.empty
container_empty ty h g = rw (h, g) refl

pub map_empty : (ty : NestedScalar) → is_scalar ty ≡ false → is_map ty ≡ true → empty_content ty ≡ Maps map.empty
map_empty ty h g = rw (h, g) refl

-- a scalar is neither a container nor a map
pub scalar_only : (ty : NestedScalar) → is_scalar ty ≡ true → (is_container ty ≡ false) × (is_map ty ≡ false)
scalar_only ty h = at ty.containers ty.map h
  where
    at : (containers : List Scalar) (kind : MapKind) → is_scalar (record ty { containers = containers; map = kind }) ≡ true → (is_container (record ty { containers = containers; map = kind }) ≡ false) × (is_map (record ty { containers = containers; map = kind }) ≡ false)
    at [] kinds.NoMap h = (refl, refl)
    at [] (kinds.Values by) h = cc
    at [] (kinds.Sums by) h = cc
    at (own ∷ inner) kind h = cc

-- a container and a map are of one kind
pub not_container : (ty : NestedScalar) → is_map ty ≡ true → is_container ty ≡ false
not_container ty h = at ty.containers h
  where
    at : (containers : List Scalar) → is_map (record ty { containers = containers }) ≡ true → is_container (record ty { containers = containers }) ≡ false
    at [] h = refl
    at (own ∷ inner) h = cc

-- the content of a new datum is of its type
pub empty_fits : (ty : NestedScalar) → FitsType ty (empty_content ty)
empty_fits ty = by (is_scalar ty) (is_map ty) refl refl
  where
    by : (b c : Bool) → is_scalar ty ≡ b → is_map ty ≡ c → FitsType ty (empty_content ty)
    by true c e g = let only = scalar_only ty e in rw e ((sym only.0, sym only.1), (no_kinds ty, no_values ty))
    by false true e g = subst (FitsType ty) (sym (map_empty ty e g)) ((sym (not_container ty g), sym g), (no_kinds ty, no_values ty))
    by false false e g = subst (FitsType ty) (sym (container_empty ty e g)) ((sym (else_container ty e g), sym g), (no_kinds ty, no_values ty))

-- subscripts are still of the container's type, whether a member was added or the allocation failed
pub still_kinds : {M A E : Type 0} (id : M → ℕ) (r : Result A E) (ty : NestedScalar) (before after : KeptMembers M) (subscript : Subscript) (member : M) → AreSubscriptsFor ty (ids_of id before) → is_container_by (scalar_of subscript) ty ≡ true
    → OnOk r (after ≡ map.insert before subscript member) → OnErr r (after ≡ before) → AreSubscriptsFor ty (ids_of id after)
still_kinds id (Ok x) ty before after subscript member kinds kind added refused = subst (AreSubscriptsFor ty) (sym (ap (ids_of id) added ∙ insert_ids id before subscript member)) (one_more_kind ty (ids_of id before) subscript (id member) kinds kind)
still_kinds {M} id (Err why) ty before after subscript member kinds kind added refused = subst (λ (m : KeptMembers M). AreSubscriptsFor ty (ids_of id m)) (sym refused) kinds

-- like that, of a map's values
pub still_values : {A E : Type 0} (r : Result A E) (ty : NestedScalar) (before after : Values) (subscript : Subscript) (value : Value) → AreEntriesFor ty before → is_map_of (scalar_of subscript) (scalar_of value) ty ≡ true
    → OnOk r (after ≡ map.insert before subscript value) → OnErr r (after ≡ before) → AreEntriesFor ty after
still_values (Ok x) ty before after subscript value kinds kind added refused = subst (AreEntriesFor ty) (sym added) (one_more_entry ty before subscript value kinds kind)
still_values (Err why) ty before after subscript value kinds kind added refused = subst (AreEntriesFor ty) (sym refused) kinds

-- ---- where there are none

pub no_members : map.len (map.empty {X = ℕ} {R = value_cmp}) ≡ 0
no_members = len-empty value_cmp ℕ

pub no_entries : entries (map.empty {X = ℕ} {R = value_cmp}) ≡ []
no_entries = no_items _ (sym (len-entries (map.empty {X = ℕ} {R = value_cmp})) ∙ no_members)

pub no_values_there : entries (map.empty {X = Value} {R = value_cmp}) ≡ []
no_values_there = no_items _ (sym (len-entries (map.empty {X = Value} {R = value_cmp})) ∙ len-empty value_cmp Value)

pub none_after : (k : ℤ) → None ≡ subscript_after k (map.keys (map.empty {X = ℕ} {R = value_cmp}))
none_after k = at k ∙ ap (λ es. subscript_after k (keys_of es)) (sym no_entries)
  where
    at : (k : ℤ) → None ≡ subscript_after k []
    at (pos n) = refl
    at (negsuc n) = refl

-- ---- going through them

module _ {M : Type 0} where
  same_entry : (x y : Subscript × M) → Some x ≡ Some y → x ≡ y
  same_entry x y e = cc

  no_entry : (x : Subscript × M) → None ≡ Some x → ⊥
  no_entry x e = cc

  module _ (id : M → ℕ) {A : Type 0} (f : A → ℕ → A) where
    fold_from : (m : A) (es : List (Subscript × M)) (i : ℕ) (e : Subscript × M) → slice_get es i ≡ Some e → fold f m (drop i (each id (each (λ x. x.1) es))) ≡ fold f (f m (id e.1)) (drop (i + 1) (each id (each (λ x. x.1) es)))
    fold_from m [] i e h = absurd (no_entry e h)
    fold_from m (x ∷ es) zero e h = ap (λ (y : Subscript × M). fold f (f m (id y.1)) (each id (each (λ z. z.1) es))) (same_entry x e h)
    fold_from m (x ∷ es) (suc i) e h = let next : suc i + 1 ≡ suc (i + 1) = omega arith in rw next (fold_from m es i e h)

    pub fold_next : (m : A) (ms : KeptMembers M) (i : ℕ) (e : Subscript × M) → slice_get (entries ms) i ≡ Some e → fold f m (drop i (each id (map.values ms))) ≡ fold f (f m (id e.1)) (drop (i + 1) (each id (map.values ms)))
    fold_next m ms i e h = fold_from m (entries ms) i e h

    pub fold_end : (m : A) (ms : KeptMembers M) (i : ℕ) → length (entries ms) ≤ i → fold f m (drop i (each id (map.values ms))) ≡ m
    fold_end m ms i past =
        let all : length (each id (map.values ms)) ≤ i = omega (arith, past, length-map (map.values ms) id, length-map (entries ms) (λ (e : Subscript × M). e.1)) in
        ap (fold f m) (drop_all i (each id (map.values ms)) all)

  is_entry : (es : List (Subscript × M)) (i : ℕ) (e : Subscript × M) → slice_get es i ≡ Some e → IsEntry e es
  is_entry [] i e h = absurd (no_entry e h)
  is_entry (x ∷ es) zero e h = inl (sym (same_entry x e h))
  is_entry (x ∷ es) (suc i) e h = inr (is_entry es i e h)

  -- each entry is what the map has at its subscript
  pub nth_get : (ms : KeptMembers M) (i : ℕ) (e : Subscript × M) → slice_get (entries ms) i ≡ Some e → map.get ms e.0 ≡ Some e.1
  nth_get ms i e h = get_entry value_cmp value_cmp_total ms e (is_entry (entries ms) i e h)

  pub nth_there : (ms : KeptMembers M) (i : ℕ) (r : Option (Subscript × M)) → r ≡ slice_get (entries ms) i → IfSome r (λ e. map.get ms e.0 ≡ Some e.1)
  nth_there ms i None h = tt
  nth_there ms i (Some e) h = nth_get ms i e (sym h)

-- like that, if a member was added, was there, or the allocation failed
pub kinds_after : {M E : Type 0} (id : M → ℕ) (r : Result Bool E) (ty : NestedScalar) (before after : KeptMembers M) (subscript : Subscript) (member : M) → AreSubscriptsFor ty (ids_of id before) → is_container_by (scalar_of subscript) ty ≡ true
    → IsAddition r subscript member before after → AreSubscriptsFor ty (ids_of id after)
kinds_after id (Ok true) ty before after subscript member kinds kind h = subst (AreSubscriptsFor ty) (sym (ap (ids_of id) h.1 ∙ insert_ids id before subscript member)) (one_more_kind ty (ids_of id before) subscript (id member) kinds kind)
kinds_after {M} id (Ok false) ty before after subscript member kinds kind h = subst (λ (m : KeptMembers M). AreSubscriptsFor ty (ids_of id m)) (sym h.1) kinds
kinds_after {M} id (Err why) ty before after subscript member kinds kind h = subst (λ (m : KeptMembers M). AreSubscriptsFor ty (ids_of id m)) (sym h.1) kinds

still_some : {M : Type 0} (id : M → ℕ) (o : Option M) → IsSome o → IsSome (option_map id o)
still_some id None h = h
still_some id (Some x) h = refl

-- a datum d that is seen as its members say
module _ {M : Type 0} (id : M → ℕ) (seen : Members → KeptMembers M → KeptDatum M) (d : KeptDatum M) (before after : KeptMembers M) (k : Subscript) (member : M)
    (content : (ids : Members) (ms : KeptMembers M) → members_in (seen ids ms).datum.content ≡ ids) (is : seen (ids_of id before) before ≡ d) where
  got : map.get (members_in d.datum.content) k ≡ option_map id (map.get before k)
  got = sym (ap (λ (x : KeptDatum M). map.get (members_in x.datum.content) k) is) ∙ ap (λ m. map.get m k) (content (ids_of id before) before) ∙ get_mapped id before k

  pub member_added : {E : Type 0} (r : Result Bool E) → seen (map.insert (ids_of id before) k (id member)) (map.insert before k member) ≡ with_kept_member id k member d
      → IsAddition r k member before after → IsMemberAdded id r k member d (seen (ids_of id after) after)
  member_added (Ok true) put h = (got ∙ ap (option_map id) h.0, ap (λ m. seen (ids_of id m) m) h.1 ∙ ap (λ ids. seen ids (map.insert before k member)) (insert_ids id before k member) ∙ put)
  member_added (Ok false) put h = (subst IsSome (sym got) (still_some id (map.get before k) h.0), ap (λ m. seen (ids_of id m) m) h.1 ∙ is)
  member_added (Err why) put h = (got ∙ ap (option_map id) h.0, ap (λ m. seen (ids_of id m) m) h.1 ∙ is)
