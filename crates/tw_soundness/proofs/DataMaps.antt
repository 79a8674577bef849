-- Instructions on maps succeed if their checks hold, and their results fit.
use Rattle.std.proofs.Common.{◌≡◌, ℕ, ℤ, ◌+ℤ◌, ◌<◌, pos, Bool, true, false, not, ◌&&◌, ◌||◌, slice_get, Option, Some, None, refl, sym, ap, ◌∙◌, arith}
use Rattle.tw_soundness.proofs.MachineNames.{Completed, Contains, Content, Context, IsOfType, Maps, NestedScalar, Ok, Procedure, RightType, Scalar, Set, Skipped, Typing, Unset, Value, ValuesFit, WrongRegister, after_put, and_parts, at_next_instr, container_only, data_instr, datum_at, datum_of, entries_in, entry_at, get, held, if_absent, insert, int_at, int_of, is_closed_mode, is_map, is_map_by, is_map_of, is_plain_map, is_sums, is_write, map_by, map_only, may_add, may_put, may_read_entry, one_more_entry, option_and_then, option_flatten, option_map_or, passes, reads_closed_map, requires_data, requires_entry_of, right_at, same_scalar, same_scalars, scalar_itself, scalar_of, suits_entry, suits_subscript, sum_with, value_at, value_put, values_kinds, with_entry, with_result, with_store, writes_map, writes_sums}
use Rattle.tw_code.specs.accepting.Typing.{suits_subscripts}
use Rattle.std.specs.Int.{int_wrap, w64}
use Rattle.tw_types.specs.declared.data_type.Scalar.TheVariants as scalar
use Rattle.tw_types.specs.declared.value.Value.TheVariants as value
use Rattle.tw_code.specs.declared.instr.DataInstr.TheVariants as on_data
use Rattle.tw_soundness.proofs.Aging.{Aged}
use Rattle.tw_soundness.proofs.DataInsert.{same_settles}
use Rattle.tw_soundness.proofs.DataLeft.{Leaves}
use Rattle.tw_soundness.proofs.DataMade.{put_context}
use Rattle.tw_soundness.proofs.DataReads.{held_goes, open_container}
use Rattle.tw_soundness.proofs.Registers.{At, Fits, Settles, at_right}
use Rattle.tw_soundness.proofs.Steps.{Goes, at_some, goes, goes_must, goes_then}
use Rattle.tw_soundness.proofs.Values.{AllYes, declared_as, found_moves, int_there, passed, value_found, moves_by}

or_right : (a b : Bool) → b ≡ true → (a || b) ≡ true
or_right true b e = refl
or_right false b e = e

-- a map's subscripts and values are of its own types
map_fits : (ty : NestedScalar) (by : Scalar) → is_map ty ≡ true → map_by ty ≡ Some by → is_map_of by ty.scalar ty ≡ true
map_fits ty by h e =
    let one : option_map_or (same_scalar by) (map_by ty) false ≡ true = ap (λ (o : Option Scalar). option_map_or (same_scalar by) o false) e ∙ scalar_itself by in
    rw (h, one) (scalar_itself ty.scalar)

-- a register that suits a map's subscripts is of their type
named_by : (declared : Scalar) (ty : NestedScalar) → suits_subscripts declared ty ≡ true → map_by ty ≡ Some declared
unfolding suits_subscripts
named_by declared ty h = by (map_by ty) h
  where
    by : (o : Option Scalar) → option_map_or (same_scalar declared) o false ≡ true → o ≡ Some declared
    by None h = cc
    by (Some own) h = ap Some (sym (same_scalars declared own h))

-- the registers' values are of the map's types
module _ (p : Procedure) (typing : Typing) (c : Context) (r w : ℕ → ℕ) (fits : Fits typing c r w) (values : ValuesFit p.registers c.position.values) where
  module _ (d : ℕ) (q : RightType) (h : At typing c r w d q) (mapped : is_map q.ty ≡ true) where
    mapped_x : is_map h.x.ty ≡ true
    mapped_x = ap is_map h.ty ∙ mapped

    entry_fits : (at x : Value) (by : Scalar) → map_by q.ty ≡ Some by → scalar_of at ≡ by → scalar_of x ≡ q.ty.scalar → is_map_of (scalar_of at) (scalar_of x) h.x.ty ≡ true
    entry_fits at x by has a b =
        ap (is_map_of (scalar_of at) (scalar_of x)) h.ty
        ∙ (ap (λ (s : Scalar). is_map_of s (scalar_of x) q.ty) a ∙ (ap (λ (s : Scalar). is_map_of by s q.ty) b ∙ map_fits q.ty by mapped has))

    suits_it : (at x : Value) → is_map_of (scalar_of at) (scalar_of x) h.x.ty ≡ true → suits_entry at x (datum_at c d) ≡ true
    suits_it at x e =
        let here : datum_at c d ≡ Some h.x = ap (λ o. option_and_then (get c.store.live) (option_flatten o)) h.register ∙ h.live in
        ap (suits_entry at x) here ∙ or_right (not (is_map h.x.ty)) (is_map_of (scalar_of at) (scalar_of x) h.x.ty) e

    suits_at : (at x : Value) → is_map_of (scalar_of at) (scalar_of x) h.x.ty ≡ true → suits_subscript at (datum_at c d) ≡ true
    suits_at at x e =
        let here : datum_at c d ≡ Some h.x = ap (λ o. option_and_then (get c.store.live) (option_flatten o)) h.register ∙ h.live in
        ap (suits_subscript at) here ∙ or_right (not (is_map h.x.ty)) (is_map_by (scalar_of at) h.x.ty) (and_parts (is_map_by (scalar_of at) h.x.ty) (same_scalar (scalar_of x) h.x.ty.scalar) e).0

    -- one more value
    put_aged : (at x : Value) → is_map_of (scalar_of at) (scalar_of x) h.x.ty ≡ true → Aged h.x (with_entry at x h.x)
    put_aged at x e = by h.x.content (fits.store.contents h.id h.x h.live)
      where
        by : (content : Content) → IsOfType h.x.ty content → Aged (record h.x { content = content }) (with_entry at x (record h.x { content = content }))
        by Unset o = let z : true ≡ false = sym o ∙ (map_only h.x.ty mapped_x).0 in cc
        by (Set v) o = let z : true ≡ false = sym o.0 ∙ (map_only h.x.ty mapped_x).0 in cc
        by (Contains members) o = let z : true ≡ false = sym mapped_x ∙ (container_only h.x.ty o.0).1 in cc
        by (Maps entries) o = record { ty = refl; members = refl; closed = λ t. t; content = λ u. (u.0, one_more_entry h.x.ty entries at x u.1 e); writers = λ t. t }

    put_settles : (at x : Value) → is_write q.mode ≡ true → is_map_of (scalar_of at) (scalar_of x) h.x.ty ≡ true → Settles typing c r w (at_next_instr (with_store c (value_put c.store h.id at x)))
    put_settles at x mode e =
        let some = h.has_write mode in
        let more : 0 < h.x.writes = (let f = h.writes in omega arith) in
        let store_is : value_put c.store h.id at x ≡ record c.store { live = insert c.store.live h.id (with_entry at x h.x) } = rw h.live refl in
        put_context typing typing c (at_next_instr (with_store c (value_put c.store h.id at x))) r w h.id h.x (with_entry at x h.x) fits h.live (put_aged at x e) (λ f ne. (refl, refl)) (omega (arith, h.reads)) (omega (arith, h.writes)) (omega arith) store_is fits.rights

    may_put_it : (at x : Value) → is_write q.mode ≡ true → is_plain_map q.ty ≡ true → is_map_of (scalar_of at) (scalar_of x) h.x.ty ≡ true → may_put at x (datum_of c h.id) ≡ Ok tt
    may_put_it at x mode plain e =
        let plain_x : is_plain_map h.x.ty ≡ true = ap is_plain_map h.ty ∙ plain in
        let some = h.has_write mode in
        let more : 0 < h.x.writes = (let f = h.writes in omega arith) in
        let opened = open_container p typing c r w fits values h.x (map_only h.x.ty mapped_x).0 (fits.store.contents h.id h.x h.live) more in
        rw (h.live, plain_x, e, opened) refl

    may_add_it : (at : Value) → is_write q.mode ≡ true → is_sums q.ty ≡ true → is_map_of (scalar_of at) scalar.Int h.x.ty ≡ true → may_add at (datum_of c h.id) ≡ Ok tt
    may_add_it at mode sums e =
        let sums_x : is_sums h.x.ty ≡ true = ap is_sums h.ty ∙ sums in
        let some = h.has_write mode in
        let more : 0 < h.x.writes = (let f = h.writes in omega arith) in
        let opened = open_container p typing c r w fits values h.x (map_only h.x.ty mapped_x).0 (fits.store.contents h.id h.x h.live) more in
        rw (h.live, sums_x, e, opened) refl

  -- the types of an accepted instruction's value registers
  entry_types : (subscript register : ℕ) (test : RightType → Bool) (q : RightType) → test q ≡ true → AllYes (requires_entry_of p.registers subscript register test (Some q))
      → (by : Scalar) × (map_by q.ty ≡ Some by) × (slice_get p.registers subscript ≡ Some by) × (slice_get p.registers register ≡ Some q.ty.scalar)
  entry_types subscript register test q passing met =
      let first : passes (λ declared. suits_subscripts declared q.ty) (slice_get p.registers subscript) ≡ true =
      sym (ap (λ b. not b || passes (λ declared. suits_subscripts declared q.ty) (slice_get p.registers subscript)) passing) ∙ met.1.1.1.0 in
      let second : passes (λ declared. same_scalar declared q.ty.scalar) (slice_get p.registers register) ≡ true =
      sym (ap (λ b. not b || passes (λ declared. same_scalar declared q.ty.scalar) (slice_get p.registers register)) passing) ∙ met.1.1.1.1.0 in
      let by = passed (λ declared. suits_subscripts declared q.ty) (slice_get p.registers subscript) first in
      (by.0, named_by by.0 q.ty by.2, by.1, declared_as (slice_get p.registers register) q.ty.scalar second)

  -- ---- MINS

  insert_at : (d subscript from skip : ℕ) (q : RightType) (by : Scalar) → is_write q.mode ≡ true → is_map q.ty ≡ true → is_plain_map q.ty ≡ true → map_by q.ty ≡ Some by → slice_get p.registers subscript ≡ Some by → slice_get p.registers from ≡ Some q.ty.scalar
      → At typing c r w d q → Goes (data_instr (on_data.InsertValue d subscript from skip) c) (Leaves p.registers (on_data.InsertValue d subscript from skip) typing c r w)
  insert_at d subscript from skip q by mode mapped plain has declared typed h =
      let at = value_found p.registers c.position.values subscript by values declared in
      let x = value_found p.registers c.position.values from q.ty.scalar values typed in
      let e = entry_fits d q h mapped at.0 x.0 by has at.2 x.2 in
      goes (value_at c.position subscript) _ _ at.0 (at_some (slice_get c.position.values subscript) WrongRegister at.0 at.1)
      (goes (value_at c.position from) _ _ x.0 (at_some (slice_get c.position.values from) WrongRegister x.0 x.1)
      (goes_must (suits_entry at.0 x.0 (datum_at c d)) WrongRegister _ _ (suits_it d q h mapped at.0 x.0 e)
      (goes (held c.rights d) _ _ h.id (held_goes p typing c r w fits values d q h)
      (goes_then (may_put at.0 x.0 (datum_of c h.id)) _ _ (may_put_it d q h mapped at.0 x.0 mode plain e)
      (left at.0 x.0 e (entry_at c.store h.id at.0))))))
    where
      left : (at x : Value) → is_map_of (scalar_of at) (scalar_of x) h.x.ty ≡ true → (o : Option Value) → Leaves p.registers (on_data.InsertValue d subscript from skip) typing c r w (after_put c h.id at skip (if_absent o x))
      left at x e None = record { moves = moves_by Completed refl values; settles = put_settles d q h mapped at x mode e }
      left at x e (Some old) = record { moves = moves_by Skipped refl values; settles = same_settles typing c (after_put c h.id at skip None) r w fits refl refl }

  pub insert_value_leaves : (d subscript from skip : ℕ) → AllYes (requires_data p.registers (on_data.InsertValue d subscript from skip) typing)
      → Goes (data_instr (on_data.InsertValue d subscript from skip) c) (Leaves p.registers (on_data.InsertValue d subscript from skip) typing c r w)
  insert_value_leaves d subscript from skip met = by (right_at typing d) refl met
    where
      by : (o : Option RightType) → right_at typing d ≡ o → AllYes (requires_entry_of p.registers subscript from writes_map o) → Goes (data_instr (on_data.InsertValue d subscript from skip) c) (Leaves p.registers (on_data.InsertValue d subscript from skip) typing c r w)
      by None e m = let z : false ≡ true = m.0 in cc
      by (Some q) e m =
          let both = and_parts (is_write q.mode) (is_plain_map q.ty) m.0 in
          let mapped = (and_parts (is_map q.ty) _ both.1).0 in
          let t = entry_types subscript from writes_map q m.0 m in
          insert_at d subscript from skip q t.0 both.0 mapped both.1 t.1 t.2 t.3 (at_right d typing c r w q fits e)

  -- ---- MADD

  add_at : (d subscript from : ℕ) (q : RightType) (by : Scalar) → is_write q.mode ≡ true → is_map q.ty ≡ true → is_sums q.ty ≡ true → scalar.Int ≡ q.ty.scalar → map_by q.ty ≡ Some by → slice_get p.registers subscript ≡ Some by
      → slice_get p.registers from ≡ Some q.ty.scalar → At typing c r w d q → Goes (data_instr (on_data.AddValue d subscript from) c) (Leaves p.registers (on_data.AddValue d subscript from) typing c r w)
  add_at d subscript from q by mode mapped sums whole has declared typed h =
      let at = value_found p.registers c.position.values subscript by values declared in
      let n = int_there p.registers c.position values from (typed ∙ ap Some (sym whole)) in
      let e = entry_fits d q h mapped at.0 (value.Int (pos 0)) by has at.2 whole in
      goes (value_at c.position subscript) _ _ at.0 (at_some (slice_get c.position.values subscript) WrongRegister at.0 at.1)
      (goes (int_at c.position from) _ _ n.0 n.1
      (goes_must (suits_subscript at.0 (datum_at c d)) WrongRegister _ _ (suits_at d q h mapped at.0 (value.Int (pos 0)) e)
      (goes (held c.rights d) _ _ h.id (held_goes p typing c r w fits values d q h)
      (goes_then (may_add at.0 (datum_of c h.id)) _ _ (may_add_it d q h mapped at.0 mode sums e)
      (left at.0 n.0 e (entry_at c.store h.id at.0))))))
    where
      added : (at : Value) (n : ℤ) → is_map_of (scalar_of at) scalar.Int h.x.ty ≡ true → Leaves p.registers (on_data.AddValue d subscript from) typing c r w (at_next_instr (with_store c (value_put c.store h.id at (value.Int n))))
      added at n e = record { moves = moves_by Completed refl values; settles = put_settles d q h mapped at (value.Int n) mode e }

      left : (at : Value) (n : ℤ) → is_map_of (scalar_of at) scalar.Int h.x.ty ≡ true → (o : Option Value) → Leaves p.registers (on_data.AddValue d subscript from) typing c r w (at_next_instr (with_store c (value_put c.store h.id at (sum_with o n))))
      left at n e None = added at n e
      left at n e (Some old) = added at (int_wrap w64 (int_of old +ℤ n)) e

  pub add_value_leaves : (d subscript from : ℕ) → AllYes (requires_data p.registers (on_data.AddValue d subscript from) typing)
      → Goes (data_instr (on_data.AddValue d subscript from) c) (Leaves p.registers (on_data.AddValue d subscript from) typing c r w)
  add_value_leaves d subscript from met = by (right_at typing d) refl met
    where
      by : (o : Option RightType) → right_at typing d ≡ o → AllYes (requires_entry_of p.registers subscript from writes_sums o) → Goes (data_instr (on_data.AddValue d subscript from) c) (Leaves p.registers (on_data.AddValue d subscript from) typing c r w)
      by None e m = let z : false ≡ true = m.0 in cc
      by (Some q) e m =
          let both = and_parts (is_write q.mode) (is_sums q.ty && same_scalar scalar.Int q.ty.scalar) m.0 in
          let more = and_parts (is_sums q.ty) (same_scalar scalar.Int q.ty.scalar) both.1 in
          let mapped = (and_parts (is_map q.ty) _ more.0).0 in
          let t = entry_types subscript from writes_sums q m.0 m in
          add_at d subscript from q t.0 both.0 mapped more.0 (same_scalars scalar.Int q.ty.scalar more.1) t.1 t.2 t.3 (at_right d typing c r w q fits e)

  -- ---- MGET

  read_at : (to d subscript skip : ℕ) (q : RightType) (by : Scalar) → is_closed_mode q.mode ≡ true → is_map q.ty ≡ true → map_by q.ty ≡ Some by → slice_get p.registers subscript ≡ Some by → slice_get p.registers to ≡ Some q.ty.scalar
      → At typing c r w d q → Goes (data_instr (on_data.GetValue to d subscript skip) c) (Leaves p.registers (on_data.GetValue to d subscript skip) typing c r w)
  read_at to d subscript skip q by mode mapped has declared typed h =
      let at = value_found p.registers c.position.values subscript by values declared in
      let old = value_found p.registers c.position.values to q.ty.scalar values typed in
      let e = entry_fits d q h mapped at.0 old.0 by has at.2 old.2 in
      let shut = h.closed mode in
      let may : may_read_entry at.0 (scalar_of old.0) (datum_of c h.id) ≡ Ok tt = rw (h.live, e, shut) refl in
      let found : entry_at c.store h.id at.0 ≡ get (entries_in h.x.content) at.0 = rw h.live refl in
      goes (value_at c.position to) _ _ old.0 (at_some (slice_get c.position.values to) WrongRegister old.0 old.1)
      (goes (value_at c.position subscript) _ _ at.0 (at_some (slice_get c.position.values subscript) WrongRegister at.0 at.1)
      (goes_must (suits_entry at.0 old.0 (datum_at c d)) WrongRegister _ _ (suits_it d q h mapped at.0 old.0 e)
      (goes (held c.rights d) _ _ h.id (held_goes p typing c r w fits values d q h)
      (goes_then (may_read_entry at.0 (scalar_of old.0) (datum_of c h.id)) _ _ may
      (record {
        moves = found_moves p.registers c.position values (entry_at c.store h.id at.0) to skip q.ty.scalar typed (λ v is.
            let both = and_parts (is_map_by (scalar_of at.0) h.x.ty) (same_scalar (scalar_of v) h.x.ty.scalar) (values_kinds h.x (fits.store.contents h.id h.x h.live) at.0 v (sym found ∙ is)) in
            same_scalars (scalar_of v) h.x.ty.scalar both.1 ∙ ap (λ (u : NestedScalar). u.scalar) h.ty);
        settles = same_settles typing c (record c { position = with_result c.position to skip (entry_at c.store h.id at.0) }) r w fits refl refl;
      })))))

  pub get_value_leaves : (to d subscript skip : ℕ) → AllYes (requires_data p.registers (on_data.GetValue to d subscript skip) typing)
      → Goes (data_instr (on_data.GetValue to d subscript skip) c) (Leaves p.registers (on_data.GetValue to d subscript skip) typing c r w)
  get_value_leaves to d subscript skip met = by (right_at typing d) refl met
    where
      by : (o : Option RightType) → right_at typing d ≡ o → AllYes (requires_entry_of p.registers subscript to reads_closed_map o) → Goes (data_instr (on_data.GetValue to d subscript skip) c) (Leaves p.registers (on_data.GetValue to d subscript skip) typing c r w)
      by None e m = let z : false ≡ true = m.0 in cc
      by (Some q) e m =
          let both = and_parts (is_closed_mode q.mode) (is_map q.ty) m.0 in
          let t = entry_types subscript to reads_closed_map q m.0 m in
          read_at to d subscript skip q t.0 both.0 both.1 t.1 t.2 t.3 (at_right d typing c r w q fits e)
