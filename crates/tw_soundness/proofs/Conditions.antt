-- The checks of the store's calls hold, if an instruction on data succeeds.
use Rattle.std.proofs.Common.{◌≡◌, ℕ, ℤ, true, not, ◌==◌, slice_get, Some, is_none, refl}
use Rattle.tw_soundness.proofs.MachineNames.{Cause, Context, EmptyRegister, Err, NestedScalar, Ok, Result, Scalar, Subscript, Value, WrongRegister, data_instr, datum_at, datum_of, int_at, may_add, may_be_read, may_copy_write, may_drop_read, may_drop_write, may_insert, may_look, may_put, may_read_entry, may_read_members, may_read_subscripts_by, may_retrieve, may_store, must_be_empty, must_have_type, must_ok, must_then, of_type_at, ok_after, ok_first, right_at, scalar_of, suits, suits_entry, suits_subscript, there_then}
use Rattle.tw_code.specs.declared.instr.DataInstr.TheVariants as on_data
use Rattle.tw_types.specs.declared.data_type.Scalar.TheVariants as scalar
use Rattle.tw_soundness.proofs.Steps.{Goes}

-- a success has a result
pub goes_ok : {A : Type 0} (r : Result A Cause) (P : A → Type 0) → Goes r P → (x : A) × (r ≡ Ok x) × P x
goes_ok (Ok x) P h = (x, refl, h)
goes_ok (Err cause) P h = absurd h

module _ (c k : Context) where
  pub store_requires : (d from : ℕ) → data_instr (on_data.Store d from) c ≡ Ok k
      → (x : Value) × (id : ℕ) × (slice_get c.position.values from ≡ Some x) × (right_at c.rights d ≡ Some id) × (may_store x (datum_of c id) ≡ Ok tt)
  store_requires d from e =
      let v = there_then (slice_get c.position.values from) WrongRegister _ k e in
      let s = must_then (suits v.0 (datum_at c d)) WrongRegister _ k v.2 in
      let h = there_then (right_at c.rights d) EmptyRegister _ k s.1 in
      let m = ok_after (may_store v.0 (datum_of c h.0)) _ k h.2 in
      (v.0, h.0, v.1, h.1, m.0)

  pub get_requires : (to d : ℕ) → data_instr (on_data.Get to d) c ≡ Ok k
      → (id : ℕ) × (right_at c.rights d ≡ Some id) × (may_retrieve (datum_of c id) ≡ Ok tt)
  get_requires to d e =
      let v = there_then (slice_get c.position.values to) WrongRegister _ k e in
      let s = must_then (suits v.0 (datum_at c d)) WrongRegister _ k v.2 in
      let h = there_then (right_at c.rights d) EmptyRegister _ k s.1 in
      let m = ok_after (may_retrieve (datum_of c h.0)) _ k h.2 in
      (h.0, h.1, m.0)

  pub insert_requires : (by : Scalar) (container subscript member skip : ℕ) → data_instr (on_data.Insert by container subscript member skip) c ≡ Ok k
      → (at : Subscript) × (id inner : ℕ) × (of_type_at c.position subscript by ≡ Ok at) × (right_at c.rights container ≡ Some id) × (right_at c.rights member ≡ Some inner)
      × (may_insert by (datum_of c id) (datum_of c inner) ≡ Ok tt)
  insert_requires by container subscript member skip e =
      let v = ok_first (of_type_at c.position subscript by) _ k e in
      let h = there_then (right_at c.rights container) EmptyRegister _ k v.2 in
      let g = there_then (right_at c.rights member) EmptyRegister _ k h.2 in
      let m = ok_after (may_insert by (datum_of c h.0) (datum_of c g.0)) _ k g.2 in
      (v.0, h.0, g.0, v.1, h.1, g.1, m.0)

  -- a register that is filled is empty before
  empty_requires : (register : ℕ) → must_be_empty c.rights register ≡ Ok tt → is_none (right_at c.rights register) ≡ true
  empty_requires register e = must_ok (is_none (right_at c.rights register)) WrongRegister e

  pub look_requires : (by : Scalar) (member container subscript skip : ℕ) → data_instr (on_data.Look by member container subscript skip) c ≡ Ok k
      → (at : Subscript) × (id : ℕ) × (of_type_at c.position subscript by ≡ Ok at) × (is_none (right_at c.rights member) ≡ true) × (right_at c.rights container ≡ Some id) × (may_look c.store id at ≡ Ok tt)
  look_requires by member container subscript skip e =
      let v = ok_first (of_type_at c.position subscript by) _ k e in
      let free = ok_after (must_be_empty c.rights member) _ k v.2 in
      let h = there_then (right_at c.rights container) EmptyRegister _ k free.1 in
      let m = ok_after (may_look c.store h.0 v.0) _ k h.2 in
      (v.0, h.0, v.1, empty_requires member free.0, h.1, m.0)

  pub size_requires : (to container : ℕ) → data_instr (on_data.Size to container) c ≡ Ok k
      → (id : ℕ) × (right_at c.rights container ≡ Some id) × (may_read_members (datum_of c id) ≡ Ok tt)
  size_requires to container e =
      let v = ok_after (must_have_type c.position to scalar.Int) _ k e in
      let h = there_then (right_at c.rights container) EmptyRegister _ k v.1 in
      let m = ok_after (may_read_members (datum_of c h.0)) _ k h.2 in
      (h.0, h.1, m.0)

  pub subscript_requires : (by : Scalar) (to container index skip : ℕ) → data_instr (on_data.SubscriptAt by to container index skip) c ≡ Ok k
      → (count : ℤ) × (id : ℕ) × (int_at c.position index ≡ Ok count) × (right_at c.rights container ≡ Some id) × (may_read_subscripts_by by (datum_of c id) ≡ Ok tt)
  subscript_requires by to container index skip e =
      let v = ok_after (must_have_type c.position to by) _ k e in
      let n = ok_first (int_at c.position index) _ k v.1 in
      let h = there_then (right_at c.rights container) EmptyRegister _ k n.2 in
      let m = ok_after (may_read_subscripts_by by (datum_of c h.0)) _ k h.2 in
      (n.0, h.0, n.1, h.1, m.0)

  pub insert_value_requires : (d subscript from skip : ℕ) → data_instr (on_data.InsertValue d subscript from skip) c ≡ Ok k
      → (at : Subscript) × (x : Value) × (id : ℕ) × (slice_get c.position.values subscript ≡ Some at) × (slice_get c.position.values from ≡ Some x) × (right_at c.rights d ≡ Some id) × (may_put at x (datum_of c id) ≡ Ok tt)
  insert_value_requires d subscript from skip e =
      let v = there_then (slice_get c.position.values subscript) WrongRegister _ k e in
      let x = there_then (slice_get c.position.values from) WrongRegister _ k v.2 in
      let s = must_then (suits_entry v.0 x.0 (datum_at c d)) WrongRegister _ k x.2 in
      let h = there_then (right_at c.rights d) EmptyRegister _ k s.1 in
      let m = ok_after (may_put v.0 x.0 (datum_of c h.0)) _ k h.2 in
      (v.0, x.0, h.0, v.1, x.1, h.1, m.0)

  pub add_value_requires : (d subscript from : ℕ) → data_instr (on_data.AddValue d subscript from) c ≡ Ok k
      → (at : Subscript) × (n : ℤ) × (id : ℕ) × (slice_get c.position.values subscript ≡ Some at) × (int_at c.position from ≡ Ok n) × (right_at c.rights d ≡ Some id) × (may_add at (datum_of c id) ≡ Ok tt)
  add_value_requires d subscript from e =
      let v = there_then (slice_get c.position.values subscript) WrongRegister _ k e in
      let n = ok_first (int_at c.position from) _ k v.2 in
      let s = must_then (suits_subscript v.0 (datum_at c d)) WrongRegister _ k n.2 in
      let h = there_then (right_at c.rights d) EmptyRegister _ k s.1 in
      let m = ok_after (may_add v.0 (datum_of c h.0)) _ k h.2 in
      (v.0, n.0, h.0, v.1, n.1, h.1, m.0)

  pub get_value_requires : (to d subscript skip : ℕ) → data_instr (on_data.GetValue to d subscript skip) c ≡ Ok k
      → (old : Value) × (at : Subscript) × (id : ℕ) × (slice_get c.position.values to ≡ Some old) × (slice_get c.position.values subscript ≡ Some at) × (right_at c.rights d ≡ Some id)
      × (may_read_entry at (scalar_of old) (datum_of c id) ≡ Ok tt)
  get_value_requires to d subscript skip e =
      let o = there_then (slice_get c.position.values to) WrongRegister _ k e in
      let v = there_then (slice_get c.position.values subscript) WrongRegister _ k o.2 in
      let s = must_then (suits_entry v.0 o.0 (datum_at c d)) WrongRegister _ k v.2 in
      let h = there_then (right_at c.rights d) EmptyRegister _ k s.1 in
      let m = ok_after (may_read_entry v.0 (scalar_of o.0) (datum_of c h.0)) _ k h.2 in
      (o.0, v.0, h.0, o.1, v.1, h.1, m.0)

  pub copy_read_requires : (to from : ℕ) → data_instr (on_data.CopyRead to from) c ≡ Ok k
      → (id : ℕ) × (is_none (right_at c.rights to) ≡ true) × (right_at c.rights from ≡ Some id) × (may_be_read (datum_of c id) ≡ Ok tt)
  copy_read_requires to from e =
      let free = ok_after (must_be_empty c.rights to) _ k e in
      let h = there_then (right_at c.rights from) EmptyRegister _ k free.1 in
      let m = ok_after (may_be_read (datum_of c h.0)) _ k h.2 in
      (h.0, empty_requires to free.0, h.1, m.0)

  pub copy_write_requires : (to from : ℕ) → data_instr (on_data.CopyWrite to from) c ≡ Ok k
      → (id : ℕ) × (is_none (right_at c.rights to) ≡ true) × (right_at c.rights from ≡ Some id) × (may_copy_write (datum_of c id) ≡ Ok tt)
  copy_write_requires to from e =
      let free = ok_after (must_be_empty c.rights to) _ k e in
      let h = there_then (right_at c.rights from) EmptyRegister _ k free.1 in
      let m = ok_after (may_copy_write (datum_of c h.0)) _ k h.2 in
      (h.0, empty_requires to free.0, h.1, m.0)

  pub drop_read_requires : (register : ℕ) → data_instr (on_data.DropRead register) c ≡ Ok k
      → (id : ℕ) × (right_at c.rights register ≡ Some id) × (may_drop_read (datum_of c id) ≡ Ok tt)
  drop_read_requires register e =
      let h = there_then (right_at c.rights register) EmptyRegister _ k e in
      let m = ok_after (may_drop_read (datum_of c h.0)) _ k h.2 in
      (h.0, h.1, m.0)

  pub drop_write_requires : (register : ℕ) → data_instr (on_data.DropWrite register) c ≡ Ok k
      → (id : ℕ) × (right_at c.rights register ≡ Some id) × (may_drop_write (datum_of c id) ≡ Ok tt)
  drop_write_requires register e =
      let h = there_then (right_at c.rights register) EmptyRegister _ k e in
      let m = ok_after (may_drop_write (datum_of c h.0)) _ k h.2 in
      (h.0, h.1, m.0)

  pub new_requires : (write read : ℕ) (ty : NestedScalar) → data_instr (on_data.New write read ty) c ≡ Ok k
      → (is_none (right_at c.rights write) ≡ true) × (is_none (right_at c.rights read) ≡ true) × (not (write == read) ≡ true)
  new_requires write read ty e =
      let a = ok_after (must_be_empty c.rights write) _ k e in
      let b = ok_after (must_be_empty c.rights read) _ k a.1 in
      let d = must_then (not (write == read)) WrongRegister _ k b.1 in
      (empty_requires write a.0, empty_requires read b.0, d.0)
