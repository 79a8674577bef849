-- The members of an input container.
use Rattle.tw_machine.proofs.Names.{Contains, FitsType, List, NestedScalar, [], and_parts, ap, are_short, arith, get_or, is_container_by, is_short, length, members_by, no_entries, no_kinds, numbered, one_more_kind, scalar_of, suc, sym, true, zero, ℕ, ◌&&◌, ◌+◌, ◌<◌, ◌∙◌, ◌∷◌, ◌≡◌}
use Rattle.tw_types.specs.declared.data_type.Scalar.{Scalar}
use Rattle.tw_types.specs.declared.value.Value.{Value}
use Rattle.tw_types.specs.TypedStore.{AreSubscriptsFor}
use Rattle.tw_types.specs.ValueOrder.{Subscript}
use Rattle.tw_types.proofs.SameTypes.{by_container, container_only}

module _ {K V : Type 0} (subscript : K → Subscript) (value : V → Value) where
  -- the subscripts are all of the one type
  numbered_kinds : (by : Scalar) → ((x : K) → scalar_of (subscript x) ≡ by) → (ty : NestedScalar) → is_container_by by ty ≡ true → (id : ℕ) (members : List (K × V)) → AreSubscriptsFor ty (numbered id (members_by subscript value members))
  numbered_kinds by of ty fits id [] = no_kinds ty
  numbered_kinds by of ty fits id (e ∷ es) =
      one_more_kind ty (numbered (id + 1) (members_by subscript value es)) (subscript e.0) id (numbered_kinds by of ty fits (id + 1) es) (ap (λ (s : Scalar). is_container_by s ty) (of e.0) ∙ fits)

  pub numbered_fit : (by : Scalar) → ((x : K) → scalar_of (subscript x) ≡ by) → (ty : NestedScalar) → is_container_by by ty ≡ true → (id : ℕ) (members : List (K × V)) → FitsType ty (Contains (numbered id (members_by subscript value members)))
  numbered_fit by of ty fits id members =
      let container = by_container by ty fits in
      ((sym container, sym (container_only ty container).1), (numbered_kinds by of ty fits id members, no_entries ty))

  -- their texts aren't too long
  short_at : (members : List (K × V)) (index : ℕ) (d : K × V) → index < length members → are_short (members_by subscript value members) ≡ true → is_short (subscript (get_or members index d).0) ≡ true
  short_at [] index d low short = absurd (omega (arith, low))
  short_at (e ∷ es) zero d low short = (and_parts (is_short (subscript e.0)) (is_short (value e.1)) (and_parts (is_short (subscript e.0) && is_short (value e.1)) (are_short (members_by subscript value es)) short).0).0
  short_at (e ∷ es) (suc index) d low short = short_at es index d (omega (arith, low)) (and_parts (is_short (subscript e.0) && is_short (value e.1)) (are_short (members_by subscript value es)) short).1

  pub short_subscript : (members : List (K × V)) (index : ℕ) (e : K × V) → e ≡ get_or members index e → index < length members → are_short (members_by subscript value members) ≡ true → is_short (subscript e.0) ≡ true
  short_subscript members index e is low short = ap (λ (x : K × V). is_short (subscript x.0)) is ∙ short_at members index e low short
