-- Each instruction on data leaves no more unmarked write rights in the registers, except for a new one; and DUPW makes one more.
use Rattle.tw_copies.proofs.Names.{AllYes, Bool, Cause, Completed, Context, DataInstr, EmptyRegister, List, None, Ok, Option, Result, RightType, Scalar, Skipped, Some, Typing, UnsetDatum, Value, Way, WrongRegister, a_member_read, a_read, a_write, after_data, after_insert, after_look, after_put, and_from, ap, arith, data_flow, data_instr, datum_at, datum_of, element_of, eq-eqb, false, hits, hits_other, hits_same, if_absent, if◌then◌else◌, int_at, is_read, is_write, must_be_empty, must_have_type, must_then, ne_eqb, not, of_type_at, ok_after, ok_first, onward, option_and_then, or_left, or_right, passed, reads, refl, requires_data, right_at, slice_get, slice_set, subst, suits, suits_entry, suits_subscript, sym, there_then, true, with_result, write_by, writes, ℕ, ◌+◌, ◌<◌, ◌==◌, ◌||◌, ◌∙◌, ◌≡◌, ◌≤◌}
use Rattle.tw_types.specs.declared.data_type.Scalar.TheVariants as scalar
use Rattle.tw_types.specs.declared.param.Mode.{Mode}
use Rattle.tw_types.specs.declared.param.Mode.TheVariants.{Closed, Ref, Val, Write}
use Rattle.tw_types.specs.Nesting.{NestedScalar}
use Rattle.tw_types.specs.Value.{scalar_of}
use Rattle.tw_types.specs.StoreCalls as calls
use Rattle.tw_types.specs.StoreCalls.{entry_at, member_at, subscript_after, subscripts_at}
use Rattle.tw_types.specs.StoreChecks.{may_be_read, may_copy_write, may_drop_read, may_drop_write, may_add, may_insert, may_look, may_put, may_read_entry, may_read_members, may_read_subscripts_by, may_retrieve, may_store}
use Rattle.tw_code.specs.declared.instr.DataInstr.TheVariants as on_data
use Rattle.tw_copies.proofs.Marking.{Marked, marked_by}
use Rattle.tw_copies.proofs.Handing.{filled_at}
use Rattle.tw_copies.proofs.Spare.{one_at_most, one_spare, spare, spare_less, spare_marked, spare_set, unmarked}

same_ok : (y z : Context) → ◌≡◌ {A = Result Context Cause} (Ok y) (Ok z) → y ≡ z
same_ok y z e = cc

-- counts the write right that the instruction makes, if it is one on this datum; the store's next id is given
abbrev pub new_writes : DataInstr → ℕ → ℕ → ℕ
new_writes (on_data.New write read ty) next d = hits d next
new_writes i next d = 0

pub new_few : (i : DataInstr) (next d : ℕ) → new_writes i next d ≤ 1
new_few (on_data.New write read ty) next d = by (next == d)
  where
    by : (b : Bool) → (if b then 1 else 0) ≤ 1
    by true = omega arith
    by false = omega arith
new_few (on_data.Store datum from) next d = omega arith
new_few (on_data.Get to datum) next d = omega arith
new_few (on_data.Insert by container subscript member skip) next d = omega arith
new_few (on_data.Look by member container subscript skip) next d = omega arith
new_few (on_data.Size to container) next d = omega arith
new_few (on_data.SubscriptAt by to container index skip) next d = omega arith
new_few (on_data.InsertValue map subscript from skip) next d = omega arith
new_few (on_data.AddValue map subscript from) next d = omega arith
new_few (on_data.GetValue to map subscript skip) next d = omega arith
new_few (on_data.CopyRead to from) next d = omega arith
new_few (on_data.CopyWrite to from) next d = omega arith
new_few (on_data.DropRead right) next d = omega arith
new_few (on_data.DropWrite right) next d = omega arith

pub new_old : (i : DataInstr) (next d : ℕ) → d < next → new_writes i next d ≡ 0
new_old (on_data.New write read ty) next d less = hits_other d next (λ same. omega (arith, same))
new_old (on_data.Store datum from) next d less = refl
new_old (on_data.Get to datum) next d less = refl
new_old (on_data.Insert by container subscript member skip) next d less = refl
new_old (on_data.Look by member container subscript skip) next d less = refl
new_old (on_data.Size to container) next d less = refl
new_old (on_data.SubscriptAt by to container index skip) next d less = refl
new_old (on_data.InsertValue map subscript from skip) next d less = refl
new_old (on_data.AddValue map subscript from) next d less = refl
new_old (on_data.GetValue to map subscript skip) next d less = refl
new_old (on_data.CopyRead to from) next d less = refl
new_old (on_data.CopyWrite to from) next d less = refl
new_old (on_data.DropRead right) next d less = refl
new_old (on_data.DropWrite right) next d less = refl

-- the marks n are at least those after the instruction, if m are those before
pub record DataSpare (typing : Typing) (i : DataInstr) (c k : Context) : Type 0 where
  pub way : Way
  pub goes_on : onward way c.position.place (data_flow i) ≡ Some k.position.place
  pub less : (d : ℕ) (m n : Marked) → ((r : ℕ) → marked_by i m r ≡ true → n r ≡ true) → spare d n (after_data way i typing) k.rights ≤ spare d m typing c.rights + new_writes i c.store.next d
  pub fresh : (d : ℕ) → k.store.next ≤ d → new_writes i c.store.next d ≡ 0

-- after a DUPW
pub record CopySpare (typing : Typing) (to from : ℕ) (c k : Context) : Type 0 where
  pub id : ℕ
  pub held : right_at c.rights from ≡ Some id
  pub others : (d : ℕ) → (d ≡ id → ⊥) → spare d unmarked (slice_set typing to (right_at typing from)) k.rights ≤ spare d unmarked typing c.rights
  pub own : (n : Marked) → n to ≡ true → n from ≡ true → spare id n (slice_set typing to (right_at typing from)) k.rights + 1 ≤ spare id unmarked typing c.rights

not_write : (mode : Mode) → is_read mode ≡ true → is_write mode ≡ false
not_write Val e = cc
not_write Closed e = refl
not_write Ref e = refl
not_write Write e = cc

abbrev Covers : DataInstr → Marked → Marked → Type 0
Covers i m n = (r : ℕ) → marked_by i m r ≡ true → n r ≡ true

no_write : (d : ℕ) (o : Option RightType) (r : Option ℕ) → write_by d (a_member_read o) r ≡ 0
no_write d None r = refl
no_write d (Some q) r = by (element_of q.ty) r
  where
    by : (o : Option NestedScalar) (r : Option ℕ) → write_by d (option_and_then a_read o) r ≡ 0
    by None r = refl
    by (Some ty) None = refl
    by (Some ty) (Some id) = refl

module _ (registers : List Scalar) (typing : Typing) (c : Context) where
  -- a register is emptied, or gets a read right
  set_read : (d : ℕ) (m n : Marked) (k : ℕ) (t : Option RightType) (r : Option ℕ) → write_by d t r ≡ 0 → ((j : ℕ) → m j ≡ true → n j ≡ true) → spare d n (slice_set typing k t) (slice_set c.rights k r) ≤ spare d m typing c.rights + 0
  set_read d m n k t r nil h =
      let set = spare_set d m n typing c.rights k t r (λ j apart. h j) in
      let most = one_at_most d (n k) t r in
      omega (arith, set, most, nil)

  kept : (d : ℕ) (m n : Marked) → ((j : ℕ) → m j ≡ true → n j ≡ true) → spare d n typing c.rights ≤ spare d m typing c.rights + 0
  kept d m n h = let l = spare_less d m n typing c.rights h in omega (arith, l)

  drop_read : (register : ℕ) (k : Context) → data_instr (on_data.DropRead register) c ≡ Ok k → DataSpare typing (on_data.DropRead register) c k
  drop_read register k e =
      let h = there_then (right_at c.rights register) EmptyRegister _ k e in
      let may = ok_after (may_drop_read (datum_of c h.0)) _ k h.2 in
      subst (λ (z : Context). DataSpare typing (on_data.DropRead register) c z) (same_ok _ k may.1) (record { way = Completed; goes_on = refl; less = λ d m n covers. set_read d m n register None None refl covers; fresh = λ d less. refl })

  drop_write : (register : ℕ) (k : Context) → data_instr (on_data.DropWrite register) c ≡ Ok k → DataSpare typing (on_data.DropWrite register) c k
  drop_write register k e =
      let h = there_then (right_at c.rights register) EmptyRegister _ k e in
      let may = ok_after (may_drop_write (datum_of c h.0)) _ k h.2 in
      subst (λ (z : Context). DataSpare typing (on_data.DropWrite register) c z) (same_ok _ k may.1) (record { way = Completed; goes_on = refl; less = λ d m n covers. set_read d m n register None None refl covers; fresh = λ d less. refl })

  copy_read : (to from : ℕ) (k : Context) → AllYes (requires_data registers (on_data.CopyRead to from) typing) → data_instr (on_data.CopyRead to from) c ≡ Ok k → DataSpare typing (on_data.CopyRead to from) c k
  copy_read to from k asked e =
      let free = ok_after (must_be_empty c.rights to) _ k e in
      let h = there_then (right_at c.rights from) EmptyRegister _ k free.1 in
      let may = ok_after (may_be_read (datum_of c h.0)) _ k h.2 in
      let q = passed reads (right_at typing from) asked.1.0 in
      let nil : (d : ℕ) → write_by d (right_at typing from) (Some h.0) ≡ 0 = λ d. ap (λ o. write_by d o (Some h.0)) q.1 ∙ ap (λ b. if b then hits d h.0 else 0) (not_write q.0.mode q.2) in
      subst (λ (z : Context). DataSpare typing (on_data.CopyRead to from) c z) (same_ok _ k may.1)
      (record { way = Completed; goes_on = refl; less = λ d m n covers. set_read d m n to (right_at typing from) (Some h.0) (nil d) covers; fresh = λ d less. refl })

  copy_write : (to from : ℕ) (k : Context) → data_instr (on_data.CopyWrite to from) c ≡ Ok k → DataSpare typing (on_data.CopyWrite to from) c k
  copy_write to from k e =
      let free = ok_after (must_be_empty c.rights to) _ k e in
      let h = there_then (right_at c.rights from) EmptyRegister _ k free.1 in
      let may = ok_after (may_copy_write (datum_of c h.0)) _ k h.2 in
      subst (λ (z : Context). DataSpare typing (on_data.CopyWrite to from) c z) (same_ok _ k may.1) (record {
        way = Completed;
        goes_on = refl;
        less = λ d m n covers.
            let set = spare_set d m n typing c.rights to (right_at typing from) (Some h.0) (λ j apart marked. covers j (or_right (j == to) ((j == from) || m j) (or_right (j == from) (m j) marked))) in
            let marked : n to ≡ true = covers to (or_left (to == to) ((to == from) || m to) (eq-eqb to to refl)) in
            let nil : one_spare d (n to) (right_at typing from) (Some h.0) ≡ 0 = ap (λ b. one_spare d b (right_at typing from) (Some h.0)) marked in
            omega (arith, set, nil);
        fresh = λ d less. refl;
      })

  pub copy_spare : (to from : ℕ) (k : Context) → AllYes (requires_data registers (on_data.CopyWrite to from) typing) → data_instr (on_data.CopyWrite to from) c ≡ Ok k → CopySpare typing to from c k
  copy_spare to from k asked e =
      let free = ok_after (must_be_empty c.rights to) _ k e in
      let h = there_then (right_at c.rights from) EmptyRegister _ k free.1 in
      let may = ok_after (may_copy_write (datum_of c h.0)) _ k h.2 in
      let q = passed writes (right_at typing from) asked.1.0 in
      let counts : (d : ℕ) → write_by d (right_at typing from) (Some h.0) ≡ hits d h.0 = λ d. ap (λ o. write_by d o (Some h.0)) q.1 ∙ ap (λ b. if b then hits d h.0 else 0) q.2 in
      subst (λ (z : Context). CopySpare typing to from c z) (same_ok _ k may.1) (record {
        id = h.0;
        held = h.1;
        others = λ d apart.
            let set = spare_set d unmarked unmarked typing c.rights to (right_at typing from) (Some h.0) (λ j other marked. marked) in
            let nil = counts d in
            let none = hits_other d h.0 (λ same. apart (sym same)) in
            omega (arith, set, nil, none);
        own = λ n n_to n_from.
            let set = spare_set h.0 n n typing c.rights to (right_at typing from) (Some h.0) (λ j other marked. marked) in
            let none : one_spare h.0 (n to) (right_at typing from) (Some h.0) ≡ 0 = ap (λ b. one_spare h.0 b (right_at typing from) (Some h.0)) n_to in
            let all = spare_marked h.0 n typing c.rights from (Some q.0) (Some h.0) (filled_at typing from q.0 q.1) (filled_at c.rights from h.0 h.1) n_from in
            let count : write_by h.0 (Some q.0) (Some h.0) ≡ 1 = ap (λ b. if b then hits h.0 h.0 else 0) q.2 ∙ hits_same h.0 in
            omega (arith, set, none, all, count);
      })

  get : (to datum : ℕ) (k : Context) → data_instr (on_data.Get to datum) c ≡ Ok k → DataSpare typing (on_data.Get to datum) c k
  get to datum k e =
      let v = there_then (slice_get c.position.values to) WrongRegister _ k e in
      let fits = must_then (suits v.0 (datum_at c datum)) WrongRegister _ k v.2 in
      let h = there_then (right_at c.rights datum) EmptyRegister _ k fits.1 in
      let may = ok_after (may_retrieve (datum_of c h.0)) _ k h.2 in
      let y = there_then (calls.value_at c.store h.0) UnsetDatum _ k may.1 in
      subst (λ (z : Context). DataSpare typing (on_data.Get to datum) c z) (same_ok _ k y.2) (record { way = Completed; goes_on = refl; less = λ d m n covers. kept d m n covers; fresh = λ d less. refl })

  size : (to container : ℕ) (k : Context) → data_instr (on_data.Size to container) c ≡ Ok k → DataSpare typing (on_data.Size to container) c k
  size to container k e =
      let v = ok_after (must_have_type c.position to scalar.Int) _ k e in
      let h = there_then (right_at c.rights container) EmptyRegister _ k v.1 in
      let may = ok_after (may_read_members (datum_of c h.0)) _ k h.2 in
      subst (λ (z : Context). DataSpare typing (on_data.Size to container) c z) (same_ok _ k may.1) (record { way = Completed; goes_on = refl; less = λ d m n covers. kept d m n covers; fresh = λ d less. refl })

  subscript : (by : Scalar) (to container index skip : ℕ) (k : Context) → data_instr (on_data.SubscriptAt by to container index skip) c ≡ Ok k → DataSpare typing (on_data.SubscriptAt by to container index skip) c k
  subscript by to container index skip k e =
      let v = ok_after (must_have_type c.position to by) _ k e in
      let count = ok_first (int_at c.position index) _ k v.1 in
      let h = there_then (right_at c.rights container) EmptyRegister _ k count.2 in
      let may = ok_after (may_read_subscripts_by by (datum_of c h.0)) _ k h.2 in
      subst (λ (z : Context). DataSpare typing (on_data.SubscriptAt by to container index skip) c z) (same_ok _ k may.1) (either (subscript_after count.0 (subscripts_at c.store h.0)))
    where
      either : (found : Option Value) → DataSpare typing (on_data.SubscriptAt by to container index skip) c (record c { position = with_result c.position to skip found })
      either None = record { way = Skipped; goes_on = refl; less = λ d m n covers. kept d m n covers; fresh = λ d less. refl }
      either (Some y) = record { way = Completed; goes_on = refl; less = λ d m n covers. kept d m n covers; fresh = λ d less. refl }

  set : (datum from : ℕ) (k : Context) → data_instr (on_data.Store datum from) c ≡ Ok k → DataSpare typing (on_data.Store datum from) c k
  set datum from k e =
      let v = there_then (slice_get c.position.values from) WrongRegister _ k e in
      let fits = must_then (suits v.0 (datum_at c datum)) WrongRegister _ k v.2 in
      let h = there_then (right_at c.rights datum) EmptyRegister _ k fits.1 in
      let may = ok_after (may_store v.0 (datum_of c h.0)) _ k h.2 in
      subst (λ (z : Context). DataSpare typing (on_data.Store datum from) c z) (same_ok _ k may.1) (record { way = Completed; goes_on = refl; less = λ d m n covers. set_read d m n datum None None refl covers; fresh = λ d less. refl })

  insert : (by : Scalar) (container subscript member skip : ℕ) (k : Context) → data_instr (on_data.Insert by container subscript member skip) c ≡ Ok k → DataSpare typing (on_data.Insert by container subscript member skip) c k
  insert by container subscript member skip k e =
      let at = ok_first (of_type_at c.position subscript by) _ k e in
      let h = there_then (right_at c.rights container) EmptyRegister _ k at.2 in
      let inner = there_then (right_at c.rights member) EmptyRegister _ k h.2 in
      let may = ok_after (may_insert by (datum_of c h.0) (datum_of c inner.0)) _ k inner.2 in
      subst (λ (z : Context). DataSpare typing (on_data.Insert by container subscript member skip) c z) (same_ok _ k may.1) (either h.0 at.0 inner.0 (member_at c.store h.0 at.0))
    where
      either : (id : ℕ) (at : Value) (inner : ℕ) (found : Option ℕ) → DataSpare typing (on_data.Insert by container subscript member skip) c (after_insert c id at inner member skip found)
      either id at inner None = record { way = Completed; goes_on = refl; less = λ d m n covers. set_read d m n member None None refl covers; fresh = λ d less. refl }
      either id at inner (Some y) = record { way = Skipped; goes_on = refl; less = λ d m n covers. kept d m n covers; fresh = λ d less. refl }

  look : (by : Scalar) (member container subscript skip : ℕ) (k : Context) → data_instr (on_data.Look by member container subscript skip) c ≡ Ok k → DataSpare typing (on_data.Look by member container subscript skip) c k
  look by member container subscript skip k e =
      let at = ok_first (of_type_at c.position subscript by) _ k e in
      let free = ok_after (must_be_empty c.rights member) _ k at.2 in
      let h = there_then (right_at c.rights container) EmptyRegister _ k free.1 in
      let may = ok_after (may_look c.store h.0 at.0) _ k h.2 in
      subst (λ (z : Context). DataSpare typing (on_data.Look by member container subscript skip) c z) (same_ok _ k may.1) (either (member_at c.store h.0 at.0))
    where
      either : (found : Option ℕ) → DataSpare typing (on_data.Look by member container subscript skip) c (after_look c member skip found)
      either None = record { way = Skipped; goes_on = refl; less = λ d m n covers. kept d m n covers; fresh = λ d less. refl }
      either (Some y) = record { way = Completed; goes_on = refl; less = λ d m n covers. set_read d m n member (a_member_read (right_at typing container)) (Some y) (no_write d (right_at typing container) (Some y)) covers; fresh = λ d less. refl }

  insert_value : (map subscript from skip : ℕ) (k : Context) → data_instr (on_data.InsertValue map subscript from skip) c ≡ Ok k → DataSpare typing (on_data.InsertValue map subscript from skip) c k
  insert_value map subscript from skip k e =
      let at = there_then (slice_get c.position.values subscript) WrongRegister _ k e in
      let v = there_then (slice_get c.position.values from) WrongRegister _ k at.2 in
      let fits = must_then (suits_entry at.0 v.0 (datum_at c map)) WrongRegister _ k v.2 in
      let h = there_then (right_at c.rights map) EmptyRegister _ k fits.1 in
      let may = ok_after (may_put at.0 v.0 (datum_of c h.0)) _ k h.2 in
      subst (λ (z : Context). DataSpare typing (on_data.InsertValue map subscript from skip) c z) (same_ok _ k may.1) (either h.0 at.0 (if_absent (entry_at c.store h.0 at.0) v.0))
    where
      either : (id : ℕ) (at : Value) (put : Option Value) → DataSpare typing (on_data.InsertValue map subscript from skip) c (after_put c id at skip put)
      either id at None = record { way = Skipped; goes_on = refl; less = λ d m n covers. kept d m n covers; fresh = λ d less. refl }
      either id at (Some x) = record { way = Completed; goes_on = refl; less = λ d m n covers. kept d m n covers; fresh = λ d less. refl }

  add_value : (map subscript from : ℕ) (k : Context) → data_instr (on_data.AddValue map subscript from) c ≡ Ok k → DataSpare typing (on_data.AddValue map subscript from) c k
  add_value map subscript from k e =
      let at = there_then (slice_get c.position.values subscript) WrongRegister _ k e in
      let v = ok_first (int_at c.position from) _ k at.2 in
      let fits = must_then (suits_subscript at.0 (datum_at c map)) WrongRegister _ k v.2 in
      let h = there_then (right_at c.rights map) EmptyRegister _ k fits.1 in
      let may = ok_after (may_add at.0 (datum_of c h.0)) _ k h.2 in
      subst (λ (z : Context). DataSpare typing (on_data.AddValue map subscript from) c z) (same_ok _ k may.1) (record { way = Completed; goes_on = refl; less = λ d m n covers. kept d m n covers; fresh = λ d less. refl })

  get_value : (to map subscript skip : ℕ) (k : Context) → data_instr (on_data.GetValue to map subscript skip) c ≡ Ok k → DataSpare typing (on_data.GetValue to map subscript skip) c k
  get_value to map subscript skip k e =
      let v = there_then (slice_get c.position.values to) WrongRegister _ k e in
      let at = there_then (slice_get c.position.values subscript) WrongRegister _ k v.2 in
      let fits = must_then (suits_entry at.0 v.0 (datum_at c map)) WrongRegister _ k at.2 in
      let h = there_then (right_at c.rights map) EmptyRegister _ k fits.1 in
      let may = ok_after (may_read_entry at.0 (scalar_of v.0) (datum_of c h.0)) _ k h.2 in
      subst (λ (z : Context). DataSpare typing (on_data.GetValue to map subscript skip) c z) (same_ok _ k may.1) (either (entry_at c.store h.0 at.0))
    where
      either : (found : Option Value) → DataSpare typing (on_data.GetValue to map subscript skip) c (record c { position = with_result c.position to skip found })
      either None = record { way = Skipped; goes_on = refl; less = λ d m n covers. kept d m n covers; fresh = λ d less. refl }
      either (Some y) = record { way = Completed; goes_on = refl; less = λ d m n covers. kept d m n covers; fresh = λ d less. refl }

  new : (write read : ℕ) (ty : NestedScalar) (k : Context) → data_instr (on_data.New write read ty) c ≡ Ok k → DataSpare typing (on_data.New write read ty) c k
  new write read ty k e =
      let first = ok_after (must_be_empty c.rights write) _ k e in
      let second = ok_after (must_be_empty c.rights read) _ k first.1 in
      let apart = must_then (not (write == read)) WrongRegister _ k second.1 in
      subst (λ (z : Context). DataSpare typing (on_data.New write read ty) c z) (same_ok _ k apart.1) (record {
        way = Completed;
        goes_on = refl;
        less = λ d m n covers.
            let one = spare_set d m n typing c.rights write (a_write ty) (Some c.store.next) (λ j other marked. covers j (and_from (not (j == write)) (m j) (ap not (ne_eqb j write other)) marked)) in
            let two = spare_set d n n (slice_set typing write (a_write ty)) (slice_set c.rights write (Some c.store.next)) read (a_read ty) (Some c.store.next) (λ j other marked. marked) in
            let most = one_at_most d (n write) (a_write ty) (Some c.store.next) in
            let least = one_at_most d (n read) (a_read ty) (Some c.store.next) in
            omega (arith, one, two, most, least);
        fresh = λ d less. hits_other d c.store.next (λ same. omega (arith, same, less));
      })

  pub data_spare : (i : DataInstr) (k : Context) → AllYes (requires_data registers i typing) → data_instr i c ≡ Ok k → DataSpare typing i c k
  data_spare (on_data.New write read ty) k asked e = new write read ty k e
  data_spare (on_data.Store datum from) k asked e = set datum from k e
  data_spare (on_data.Get to datum) k asked e = get to datum k e
  data_spare (on_data.Insert by container subscript member skip) k asked e = insert by container subscript member skip k e
  data_spare (on_data.Look by member container subscript skip) k asked e = look by member container subscript skip k e
  data_spare (on_data.Size to container) k asked e = size to container k e
  data_spare (on_data.SubscriptAt by to container index skip) k asked e = subscript by to container index skip k e
  data_spare (on_data.InsertValue map subscript from skip) k asked e = insert_value map subscript from skip k e
  data_spare (on_data.AddValue map subscript from) k asked e = add_value map subscript from k e
  data_spare (on_data.GetValue to map subscript skip) k asked e = get_value to map subscript skip k e
  data_spare (on_data.CopyRead to from) k asked e = copy_read to from k asked e
  data_spare (on_data.CopyWrite to from) k asked e = copy_write to from k e
  data_spare (on_data.DropRead right) k asked e = drop_read right k e
  data_spare (on_data.DropWrite right) k asked e = drop_write right k e
