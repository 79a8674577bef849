-- Inputs of main: containers within their limits, how many data an input makes, and parameters that take inputs in turn.
use Rattle.std.proofs.Common.{◌≡◌, ◌≤◌, ◌<◌, ◌+◌, ℕ, suc, Bool, true, false, ◌&&◌, List, [], ◌∷◌, drop, get_or, length, nat_le, refl, sym, ap, ◌∙◌, drop-cons, arith}
use Rattle.std.proofs.lemmas.Bool.{and_parts}
use Rattle.std.proofs.lemmas.Bool.Decides.{nat_tests}
use Rattle.tw_types.specs.Nesting.{NestedScalar}
use Rattle.tw_types.specs.declared.data_type.Scalar.{Scalar}
use Rattle.tw_types.specs.declared.param.Param.{Param}
use Rattle.tw_types.specs.declared.value.Value.{Value}
use Rattle.tw_types.specs.DataType.{container_of, has_sums, is_container_by, is_map, map_with, same_type, scalar_type}
use Rattle.tw_types.specs.Given.{Given, Single, Container, Entries, given_as}
use Rattle.tw_types.specs.Mode.{is_write}
use Rattle.tw_types.specs.Store.{Store, added}
use Rattle.tw_types.specs.ValueOrder.{Subscript}
use Rattle.tw_types.proofs.SameTypes.{same_types, scalar_itself}
use Rattle.tw_code.specs.machine.Inputs.{are_entries, are_inputs_of, are_members, input_params, is_given_for, rises}
use Rattle.tw_code.specs.machine.Members.{are_short, closed_container, with_members}
use Rattle.tw_code.specs.machine.Opening.{added_given, closed_scalar, numbered}

-- ---- the checks of a container

module _ (ty : NestedScalar) (by inside : Scalar) (es : List (Subscript × Value)) (fits : is_given_for ty (Container by inside es) ≡ true) where
  parts : (same_type ty (container_of by (scalar_type inside)) ≡ true) × (are_members es ≡ true)
  parts = and_parts (same_type ty (container_of by (scalar_type inside))) (are_members es) fits

  members : (nat_le (length es) 1000 ≡ true) × ((rises es && are_short es) ≡ true)
  members = and_parts (nat_le (length es) 1000) (rises es && are_short es) parts.1

  pub given_type : ty ≡ container_of by (scalar_type inside)
  given_type = same_types ty (container_of by (scalar_type inside)) parts.0

  pub given_kind : is_container_by by ty ≡ true
  given_kind = ap (is_container_by by) given_type ∙ scalar_itself by

  pub given_few : length es ≤ 1000
  given_few = grind (arith, nat_tests, members.0)

  pub given_rises : rises es ≡ true
  given_rises = (and_parts (rises es) (are_short es) members.1).0

  pub given_short : are_short es ≡ true
  given_short = (and_parts (rises es) (are_short es) members.1).1

-- ---- the checks of a map

module _ (ty : NestedScalar) (sums : Bool) (by inside : Scalar) (es : List (Subscript × Value)) (fits : is_given_for ty (Entries sums by inside es) ≡ true) where
  map_parts : (same_type ty (map_with sums by inside) ≡ true) × (are_entries es ≡ true)
  map_parts = and_parts (same_type ty (map_with sums by inside)) (are_entries es) fits

  pub entries_type : ty ≡ map_with sums by inside
  entries_type = same_types ty (map_with sums by inside) map_parts.0

  pub entries_short : are_short es ≡ true
  entries_short = (and_parts (rises es) (are_short es) (and_parts (nat_le (length es) 100000) (rises es && are_short es) map_parts.1).1).1

-- ---- what members are for a parameter's type

module _ (ty : NestedScalar) (by inside : Scalar) (es : List (Subscript × Value)) where
  pub as_map : is_map ty ≡ true → given_as ty (Container by inside es) ≡ Entries (has_sums ty.map) by inside es
  as_map e = rw e refl

  pub as_container : is_map ty ≡ false → given_as ty (Container by inside es) ≡ Container by inside es
  as_container e = rw e refl

-- ---- how many data an input makes

pub members_next : (es : List (Subscript × Value)) (s : Store) → (with_members s es).next ≡ s.next + length es
members_next [] s = omega arith
members_next (e ∷ es) s = omega (arith, members_next es (added s (closed_scalar e.1)))

-- one at least, and 1,001 at most
pub input_next : (ty : NestedScalar) (given : Given) (s : Store) → is_given_for ty given ≡ true → (s.next < (added_given s given).next) × ((added_given s given).next ≤ s.next + 1001)
input_next ty (Single x) s h = (omega arith, omega arith)
input_next ty (Container by inside es) s h =
    let count : length es ≤ 1000 = given_few ty by inside es h in
    let all = members_next es (added s (closed_container (container_of by (scalar_type inside)) (numbered (s.next + 1) es))) in
    (omega (arith, count, all), omega (arith, count, all))
input_next ty (Entries sums by inside es) s h = (omega arith, omega arith)

-- ---- parameters

-- the next parameter, and the others
pub next_param : (params : List Param) (k : ℕ) (p : Param) → k < length params → p ≡ get_or params k p → drop k params ≡ p ∷ drop (k + 1) params
next_param params k p h is =
    let more : k + 1 ≡ suc k = omega arith in
    drop-cons params k p h ∙ ap (λ q. q ∷ drop (suc k) params) (sym is) ∙ ap (λ (n : ℕ). p ∷ drop n params) (sym more)

pub skips : (p : Param) (others : List Param) → is_write p.mode ≡ true → input_params (p ∷ others) ≡ input_params others
skips p others write = rw write refl

pub takes : (p : Param) (others : List Param) → is_write p.mode ≡ false → input_params (p ∷ others) ≡ p ∷ input_params others
takes p others read = rw read refl

pub none_fit : (params : List Param) → are_inputs_of params [] ≡ true
none_fit [] = refl
none_fit (p ∷ params) = refl
