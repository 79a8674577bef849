-- One value register: its integer, and the values to which it may be set.
use Rattle.tw_pool_state.proofs.PartNames.{Cause, Contains, Content, Datum, FreedDatum, IsTextAt, Maps, MaySet, NestedScalar, Ok, Position, Result, Scalar, Set, Store as Data, Unset, Value, WrongRegister, get, int_at, int_in, is_of, is_scalar, may_retrieve, must_have_type, must_ok, must_then, not, of_type_at, option_and_then, same_Some, same_scalar, same_scalars, scalar_of, second_so, slice_get_within, suits, there_then, value_at, value_in, ℤ, ◌||◌}
use Rattle.tw_types.specs.declared.data_type.Scalar.TheVariants as scalar
use Rattle.tw_types.specs.declared.value.Value.TheVariants as value
use Rattle.tw_types.specs.TypedStore.{IsOfType, IsTypedStore}
use Rattle.std.proofs.Common.{◌≡◌, ◌<◌, ◌∙◌, ℕ, length, Bool, true, false, List, Option, Some, None, refl, sym, ap, option_map, slice_get}

-- ---- numbers

int_value : (x : Value) (n : ℤ) → int_in x ≡ Ok n → x ≡ value.Int n
int_value (value.Int k) n e = let same : k ≡ n = cc in ap value.Int same
int_value (value.Text text) n e = cc

pub int_is : (at : Position) (register : ℕ) (n : ℤ) → int_at at register ≡ Ok n → slice_get at.values register ≡ Some (value.Int n)
int_is at register n e =
    let v = there_then (slice_get at.values register) WrongRegister int_in n e in
    v.1 ∙ ap Some (int_value v.0 n v.2)

pub int_known : (at : Position) (register : ℕ) (n : ℤ) → slice_get at.values register ≡ Some (value.Int n) → int_at at register ≡ Ok n
int_known at register n e = rw e refl

pub ok_ints : (a b : ℤ) → ◌≡◌ {A = Result ℤ Cause} (Ok a) (Ok b) → a ≡ b
ok_ints a b e = cc

pub int_same : (at : Position) (register : ℕ) (k n : ℤ) → int_at at register ≡ Ok k → slice_get at.values register ≡ Some (value.Int n) → k ≡ n
int_same at register k n e there = ok_ints k n (sym e ∙ int_known at register n there)

-- ---- values of a type

ok_values : (a b : Value) → ◌≡◌ {A = Result Value Cause} (Ok a) (Ok b) → a ≡ b
ok_values a b e = cc

module _ (at : Position) (register : ℕ) (ty : Scalar) (x : Value) (e : of_type_at at register ty ≡ Ok x) where
  of_type_both : (slice_get at.values register ≡ Some x) × (scalar_of x ≡ ty)
  of_type_both =
      let v = there_then (slice_get at.values register) WrongRegister _ x e in
      let m = must_then (same_scalar (scalar_of v.0) ty) WrongRegister _ x v.2 in
      let same : v.0 ≡ x = ok_values v.0 x m.1 in
      (v.1 ∙ ap Some same, ap scalar_of (sym same) ∙ same_scalars (scalar_of v.0) ty m.0)

  pub of_type_is : slice_get at.values register ≡ Some x
  of_type_is = of_type_both.0

  pub of_type_kind : scalar_of x ≡ ty
  of_type_kind = of_type_both.1

  pub of_type_inside : register < length at.values
  of_type_inside = slice_get_within at.values register x of_type_is

  pub of_type_same : (y : Value) → slice_get at.values register ≡ Some y → x ≡ y
  of_type_same y there = same_Some x y (sym of_type_is ∙ there)

-- a register of a type may be given any value of it
pub may_set_kind : (at : Position) (register : ℕ) (x : Value) → must_have_type at register (scalar_of x) ≡ Ok tt → MaySet at.values register x
may_set_kind at register x e =
    let v = there_then (slice_get at.values register) WrongRegister _ tt e in
    let same = same_scalars (scalar_of v.0) (scalar_of x) (must_ok (same_scalar (scalar_of v.0) (scalar_of x)) WrongRegister v.2) in
    ap (option_map scalar_of) v.1 ∙ ap Some same

-- ---- the value of a datum

content_of_type : (ty : NestedScalar) (c : Content) (x : Value) → IsOfType ty c → value_in c ≡ Some x → scalar_of x ≡ ty.scalar
content_of_type ty Unset x fits e = cc
content_of_type ty (Set y) x fits e = ap scalar_of (sym (same_Some y x e)) ∙ fits.1
content_of_type ty (Contains members) x fits e = cc
content_of_type ty (Maps values) x fits e = cc

not_scalar : (a b : Bool) → a ≡ true → (not a || b) ≡ true → b ≡ true
not_scalar true b e h = h
not_scalar false b e h = cc

-- a register whose value suits a datum may be given the datum's
module _ (s : Data) (typed : IsTypedStore s) (id : ℕ) (new : Value) (allowed : may_retrieve (get s.live id) ≡ Ok tt) (has : value_at s id ≡ Some new) where
  pub value_fits : (values : List Value) (register : ℕ) (old : Value) → slice_get values register ≡ Some old → suits old (get s.live id) ≡ true → MaySet values register new
  value_fits values register old there suit =
      let live = there_then (get s.live id) FreedDatum _ tt allowed in
      let x = live.0 in
      let scalar = must_then (is_scalar x.ty) _ _ tt live.2 in
      let is_value : value_in x.content ≡ Some new = ap (option_and_then (λ (y : Datum). value_in y.content)) (sym live.1) ∙ has in
      let fits = content_of_type x.ty x.content new (typed.contents id x live.1) is_value in
      let of : is_of old x.ty ≡ true = not_scalar (is_scalar x.ty) (is_of old x.ty) scalar.0 (ap (suits old) (sym live.1) ∙ suit) in
      let same = same_scalars (scalar_of old) x.ty.scalar (second_so (is_scalar x.ty) (same_scalar (scalar_of old) x.ty.scalar) of) in
      ap (option_map scalar_of) there ∙ ap Some (same ∙ sym fits)

-- a register that may be given a text has one
pub text_there : (values : List Value) (register : ℕ) (text : List ℕ) → MaySet values register (value.Text text) → IsTextAt values register
text_there values register text may = by (slice_get values register) refl may
  where
    by : (o : Option Value) → slice_get values register ≡ o → option_map scalar_of o ≡ Some scalar.Text → IsTextAt values register
    by None at e = cc
    by (Some (value.Int n)) at e = cc
    by (Some (value.Text t)) at e = (t, at)
