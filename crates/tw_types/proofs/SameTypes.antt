-- Equal scalars and types, and the types of members.
use Rattle.std.proofs.Common.{◌≡◌, ◌&&◌, true, false, List, [], ◌∷◌, Some, refl, sym, ap, ◌∙◌}
use Rattle.std.proofs.lemmas.Bool.{and_parts}
use Rattle.std.specs.Cmp.Lexicographic.{pointwise}
use Rattle.tw_types.specs.Nesting.{NestedScalar}
use Rattle.tw_types.specs.declared.data_type.MapKind.{MapKind}
use Rattle.tw_types.specs.declared.data_type.MapKind.TheVariants as kind
use Rattle.tw_types.specs.declared.data_type.Scalar.{Scalar}
use Rattle.tw_types.specs.declared.data_type.Scalar.TheVariants as scalar
use Rattle.tw_types.specs.DataType.{element_of, is_container, is_container_by, is_element_of, is_map, is_scalar, same_kind, same_scalar, same_type}

pub same_scalars : (a b : Scalar) → same_scalar a b ≡ true → a ≡ b
same_scalars scalar.Int scalar.Int e = refl
same_scalars scalar.Text scalar.Text e = refl
same_scalars scalar.Int scalar.Text e = cc
same_scalars scalar.Text scalar.Int e = cc

pub scalar_itself : (a : Scalar) → same_scalar a a ≡ true
scalar_itself scalar.Int = refl
scalar_itself scalar.Text = refl

lists_same : (xs ys : List Scalar) → pointwise same_scalar xs ys ≡ true → xs ≡ ys
lists_same [] [] e = refl
lists_same [] (y ∷ ys) e = cc
lists_same (x ∷ xs) [] e = cc
lists_same (x ∷ xs) (y ∷ ys) e =
    let both = and_parts (same_scalar x y) (pointwise same_scalar xs ys) e in
    ap (λ (z : Scalar). z ∷ xs) (same_scalars x y both.0) ∙ ap (λ (zs : List Scalar). y ∷ zs) (lists_same xs ys both.1)

lists_itself : (xs : List Scalar) → pointwise same_scalar xs xs ≡ true
lists_itself [] = refl
lists_itself (x ∷ xs) = rw (scalar_itself x) (lists_itself xs)

kinds_same : (a b : MapKind) → same_kind a b ≡ true → a ≡ b
kinds_same kind.NoMap kind.NoMap e = refl
kinds_same kind.NoMap (kind.Values b) e = cc
kinds_same kind.NoMap (kind.Sums b) e = cc
kinds_same (kind.Values a) kind.NoMap e = cc
kinds_same (kind.Values a) (kind.Values b) e = ap kind.Values (same_scalars a b e)
kinds_same (kind.Values a) (kind.Sums b) e = cc
kinds_same (kind.Sums a) kind.NoMap e = cc
kinds_same (kind.Sums a) (kind.Values b) e = cc
kinds_same (kind.Sums a) (kind.Sums b) e = ap kind.Sums (same_scalars a b e)

kind_itself : (a : MapKind) → same_kind a a ≡ true
kind_itself kind.NoMap = refl
kind_itself (kind.Values by) = scalar_itself by
kind_itself (kind.Sums by) = scalar_itself by

pub same_types : (a b : NestedScalar) → same_type a b ≡ true → a ≡ b
same_types a b e =
    let both = and_parts (pointwise same_scalar a.containers b.containers) (same_scalar a.scalar b.scalar && same_kind a.map b.map) e in
    let inner = and_parts (same_scalar a.scalar b.scalar) (same_kind a.map b.map) both.1 in
    let d : a.containers ≡ b.containers = lists_same a.containers b.containers both.0 in
    let s : a.scalar ≡ b.scalar = same_scalars a.scalar b.scalar inner.0 in
    let m : a.map ≡ b.map = kinds_same a.map b.map inner.1 in
    ap (λ (n : List Scalar). record a { containers = n }) d ∙ (ap (λ (t : Scalar). record a { containers = b.containers; scalar = t }) s ∙ ap (λ (o : MapKind). record b { map = o }) m)

pub type_itself : (a : NestedScalar) → same_type a a ≡ true
type_itself a = rw (lists_itself a.containers) (rw (scalar_itself a.scalar) (kind_itself a.map))

pub element_is : (element ty : NestedScalar) → is_element_of element ty ≡ true → element_of ty ≡ Some element
element_is element ty h = by ty.containers h
  where
    by : (containers : List Scalar) → is_element_of element (record ty { containers = containers }) ≡ true → element_of (record ty { containers = containers }) ≡ Some element
    by [] h = cc
    by (own ∷ inner) h = sym (ap Some (same_types element (record ty { containers = inner }) h))

-- a type with subscripts is a container, and no map
pub by_deep : (by : Scalar) (ty : NestedScalar) → is_container_by by ty ≡ true → is_scalar ty ≡ false
by_deep by ty h = at ty.containers h
  where
    at : (containers : List Scalar) → is_container_by by (record ty { containers = containers }) ≡ true → is_scalar (record ty { containers = containers }) ≡ false
    at [] h = cc
    at (own ∷ inner) h = refl

pub by_container : (by : Scalar) (ty : NestedScalar) → is_container_by by ty ≡ true → is_container ty ≡ true
by_container by ty h = at ty.containers h
  where
    at : (containers : List Scalar) → is_container_by by (record ty { containers = containers }) ≡ true → is_container (record ty { containers = containers }) ≡ true
    at [] h = cc
    at (own ∷ inner) h = refl

-- a container is neither a scalar nor a map
pub container_only : (ty : NestedScalar) → is_container ty ≡ true → (is_scalar ty ≡ false) × (is_map ty ≡ false)
container_only ty h = at ty.containers h
  where
    at : (containers : List Scalar) → is_container (record ty { containers = containers }) ≡ true → (is_scalar (record ty { containers = containers }) ≡ false) × (is_map (record ty { containers = containers }) ≡ false)
    at [] h = cc
    at (own ∷ inner) h = (refl, refl)

-- a map is neither a scalar nor a container, whatever the subscripts
pub map_only : (ty : NestedScalar) → is_map ty ≡ true → (is_scalar ty ≡ false) × ((by : Scalar) → is_container_by by ty ≡ false)
map_only ty h = at ty.containers ty.map h
  where
    at : (containers : List Scalar) (map : MapKind) → is_map (record ty { containers = containers; map = map }) ≡ true → (is_scalar (record ty { containers = containers; map = map }) ≡ false) × ((by : Scalar) → is_container_by by (record ty { containers = containers; map = map }) ≡ false)
    at [] kind.NoMap h = cc
    at [] (kind.Values by) h = (refl, λ other. refl)
    at [] (kind.Sums by) h = (refl, λ other. refl)
    at (own ∷ inner) map h = cc

-- what is neither a scalar nor a map is a container
pub else_container : (ty : NestedScalar) → is_scalar ty ≡ false → is_map ty ≡ false → is_container ty ≡ true
else_container ty h g = at ty.containers ty.map h g
  where
    at : (containers : List Scalar) (map : MapKind) → is_scalar (record ty { containers = containers; map = map }) ≡ false → is_map (record ty { containers = containers; map = map }) ≡ false → is_container (record ty { containers = containers; map = map }) ≡ true
    at [] kind.NoMap h g = cc
    at [] (kind.Values by) h g = cc
    at [] (kind.Sums by) h g = cc
    at (own ∷ inner) map h g = refl
