-- Instructions that read data, or insert a member, succeed if their checks hold, and their results fit.
use Rattle.std.proofs.Common.{◌≡◌, ℕ, ◌+◌, ◌<◌, pos, true, false, not, ◌||◌, length, is_none, slice_get, slice_set, Option, Some, None, refl, sym, ap, subst, ◌∙◌, arith}
use Rattle.tw_soundness.proofs.MachineNames.{Completed, Contains, Content, Context, Datum, EmptyRegister, FreedDatum, Holds, IsOfType, Maps, NestedScalar, Ok, Procedure, Ref, RightType, Scalar, Set, Skipped, Store, Subscript, Typing, Unset, UnsetDatum, Value, ValuesFit, WrongRegister, a_member_read, a_read, after_insert, after_look, and_parts, balanced_some, by_deep, changed, container_only, content_kind, data_instr, datum_at, datum_of, element_of, get, given, has_subscripts_by, held, hits, hits_other, hits_same, insert, inserted, int_at, is_closed, is_closed_mode, is_container_by, is_element_of, is_kept, is_read, is_scalar, is_write, map_only, may_insert, may_look, may_read_members, may_read_members_by, may_read_subscripts_by, may_retrieve, member_at, members_in, must, must_be_empty, must_have_type, ne_eqb, not-true, of_type_at, ok_or, one_read_more, option_and_then, option_flatten, over, passes, read_by, reads_closed_by, reads_closed_container, reads_closed_container_by, reads_closed_scalar, reads_member_of, requires_data, right_at, same_Some, same_scalar, scalar_itself, scalar_of, subscript_after, subscripts_at, subscripts_of, suits, value_at, value_in, with_member, with_result, write_by, writes_container_by}
use Rattle.tw_types.specs.declared.data_type.Scalar.TheVariants as scalar
use Rattle.tw_types.specs.declared.value.Value.TheVariants as value
use Rattle.tw_types.specs.StoreCalls as store
use Rattle.tw_code.specs.declared.instr.DataInstr.TheVariants as on_data
use Rattle.tw_soundness.proofs.DataInsert.{insert_settles, member_there, same_settles}
use Rattle.tw_soundness.proofs.DataLeft.{Leaves, read_no_write}
use Rattle.tw_soundness.proofs.DataMade.{put_context}
use Rattle.tw_soundness.proofs.Long.{empty_there, free_there}
use Rattle.tw_soundness.proofs.Registers.{At, Fits, Settles, Undisturbed, at_right, over-set, rights_set}
use Rattle.tw_soundness.proofs.Steps.{Goes, at_some, goes, goes_must, goes_then}
use Rattle.tw_soundness.proofs.Values.{AllYes, declared_as, found_moves, has_type, int_there, value_found, value_there, values_set, passed, moves_by}

-- a closed scalar has a value of its type
closed_value : (x : Datum) → is_scalar x.ty ≡ true → IsOfType x.ty x.content → is_closed x ≡ true → (v : Value) × (value_in x.content ≡ Some v) × (scalar_of v ≡ x.ty.scalar)
closed_value x scalar of closed = at x.content of closed
  where
    at : (content : Content) → IsOfType x.ty content → is_closed (record x { content = content }) ≡ true → (v : Value) × (value_in content ≡ Some v) × (scalar_of v ≡ x.ty.scalar)
    at Unset h c = cc
    at (Set v) h c = (v, refl, h.1)
    at (Contains members) h c = let z : true ≡ false = sym scalar ∙ (container_only x.ty h.0).0 in cc
    at (Maps values) h c = let z : true ≡ false = sym scalar ∙ (map_only x.ty h.0).0 in cc

-- LOOK gives a read right of the container's element type
member_read : (ty element : NestedScalar) → element_of ty ≡ Some element → option_and_then a_read (element_of ty) ≡ a_read element
member_read ty element e = ap (option_and_then a_read) e

module _ (p : Procedure) (typing : Typing) (c : Context) (r w : ℕ → ℕ) (fits : Fits typing c r w) (values : ValuesFit p.registers c.position.values) where
  pub held_goes : (d : ℕ) (q : RightType) (h : At typing c r w d q) → held c.rights d ≡ Ok h.id
  held_goes d q h = ap (λ o. ok_or (option_flatten o) EmptyRegister) h.register

  members_read : (d : ℕ) (q : RightType) → is_closed_mode q.mode ≡ true → is_scalar q.ty ≡ false → (h : At typing c r w d q) → may_read_members (datum_of c h.id) ≡ Ok tt
  members_read d q mode deep h =
      let deep_x : is_scalar h.x.ty ≡ false = ap is_scalar h.ty ∙ deep in
      let shut = h.closed mode in
      rw (h.live, deep_x, shut) refl

  members_read_by : (by : Scalar) (d : ℕ) (q : RightType) → is_closed_mode q.mode ≡ true → is_container_by by q.ty ≡ true → (h : At typing c r w d q) → may_read_members_by by (datum_of c h.id) ≡ Ok tt
  members_read_by by d q mode kind h =
      let kind_x : is_container_by by h.x.ty ≡ true = ap (is_container_by by) h.ty ∙ kind in
      let shut = h.closed mode in
      rw (h.live, kind_x, shut) refl

  subscripts_read_by : (by : Scalar) (d : ℕ) (q : RightType) → is_closed_mode q.mode ≡ true → has_subscripts_by by q.ty ≡ true → (h : At typing c r w d q) → may_read_subscripts_by by (datum_of c h.id) ≡ Ok tt
  subscripts_read_by by d q mode kind h =
      let kind_x : has_subscripts_by by h.x.ty ≡ true = ap (has_subscripts_by by) h.ty ∙ kind in
      let shut = h.closed mode in
      rw (h.live, kind_x, shut) refl

  -- a value register gets a value of its type, and the rest stays
  given_leaves : (to : ℕ) (ty : Scalar) (x : Value) → slice_get p.registers to ≡ Some ty → scalar_of x ≡ ty → (Settles typing c r w (given c to x)) × ValuesFit p.registers (given c to x).position.values
  given_leaves to ty x declared is = (same_settles typing c (given c to x) r w fits refl refl, values_set p.registers c.position.values to ty x values declared is)

  -- ---- GET

  get_at : (to d : ℕ) (q : RightType) → is_closed_mode q.mode ≡ true → is_scalar q.ty ≡ true → slice_get p.registers to ≡ Some q.ty.scalar → At typing c r w d q
      → Goes (data_instr (on_data.Get to d) c) (Leaves p.registers (on_data.Get to d) typing c r w)
  get_at to d q mode scalar declared h =
      let x_scalar : is_scalar h.x.ty ≡ true = ap is_scalar h.ty ∙ scalar in
      let old = value_found p.registers c.position.values to q.ty.scalar values declared in
      let of_x : scalar_of old.0 ≡ h.x.ty.scalar = old.2 ∙ ap (λ (u : NestedScalar). u.scalar) (sym h.ty) in
      let same : same_scalar (scalar_of old.0) h.x.ty.scalar ≡ true = ap (λ (u : Scalar). same_scalar u h.x.ty.scalar) of_x ∙ scalar_itself h.x.ty.scalar in
      let here : datum_at c d ≡ Some h.x = ap (λ o. option_and_then (get c.store.live) (option_flatten o)) h.register ∙ h.live in
      let fine : suits old.0 (datum_at c d) ≡ true = ap (suits old.0) here ∙ rw (x_scalar, same) refl in
      let v = closed_value h.x x_scalar (fits.store.contents h.id h.x h.live) (h.closed mode) in
      let of_v : scalar_of v.0 ≡ q.ty.scalar = v.2 ∙ ap (λ (u : NestedScalar). u.scalar) h.ty in
      let may : may_retrieve (datum_of c h.id) ≡ Ok tt = rw (h.live, x_scalar, v.1) refl in
      let there : store.value_at c.store h.id ≡ Some v.0 = rw h.live v.1 in
      let left = given_leaves to q.ty.scalar v.0 declared of_v in
      goes (value_at c.position to) _ _ old.0 (at_some (slice_get c.position.values to) WrongRegister old.0 old.1)
      (goes_must (suits old.0 (datum_at c d)) WrongRegister _ _ fine
      (goes (held c.rights d) _ _ h.id (held_goes d q h)
      (goes_then (may_retrieve (datum_of c h.id)) _ _ may
      (goes (ok_or (store.value_at c.store h.id) UnsetDatum) _ _ v.0 (at_some (store.value_at c.store h.id) UnsetDatum v.0 there)
      (record { moves = moves_by Completed refl left.1; settles = left.0 })))))

  pub get_leaves : (to d : ℕ) → AllYes (requires_data p.registers (on_data.Get to d) typing) → Goes (data_instr (on_data.Get to d) c) (Leaves p.registers (on_data.Get to d) typing c r w)
  get_leaves to d met = by (right_at typing d) refl met.0 met.1.1.0
    where
      by : (o : Option RightType) → right_at typing d ≡ o → passes reads_closed_scalar o ≡ true
          → (not (passes reads_closed_scalar o) || passes (λ q. passes (λ declared. same_scalar declared q.ty.scalar) (slice_get p.registers to)) o) ≡ true
          → Goes (data_instr (on_data.Get to d) c) (Leaves p.registers (on_data.Get to d) typing c r w)
      by None e first second = cc
      by (Some q) e first second =
          let both = and_parts (is_closed_mode q.mode) (is_scalar q.ty) first in
          let typed : passes (λ declared. same_scalar declared q.ty.scalar) (slice_get p.registers to) ≡ true =
          sym (ap (λ b. not b || passes (λ declared. same_scalar declared q.ty.scalar) (slice_get p.registers to)) first) ∙ second in
          get_at to d q both.0 both.1 (declared_as (slice_get p.registers to) q.ty.scalar typed) (at_right d typing c r w q fits e)

  -- ---- SIZE and AT

  size_at : (to d : ℕ) (q : RightType) → is_closed_mode q.mode ≡ true → is_scalar q.ty ≡ false → slice_get p.registers to ≡ Some scalar.Int → At typing c r w d q
      → Goes (data_instr (on_data.Size to d) c) (Leaves p.registers (on_data.Size to d) typing c r w)
  size_at to d q mode deep declared h =
      let left = given_leaves to scalar.Int (value.Int (pos (store.size_at c.store h.id))) declared refl in
      goes_then (must_have_type c.position to scalar.Int) _ _ (has_type p.registers c.position values to scalar.Int declared)
      (goes (held c.rights d) _ _ h.id (held_goes d q h)
      (goes_then (may_read_members (datum_of c h.id)) _ _ (members_read d q mode deep h)
      (record { moves = moves_by Completed refl left.1; settles = left.0 })))

  pub size_leaves : (to d : ℕ) → AllYes (requires_data p.registers (on_data.Size to d) typing) → Goes (data_instr (on_data.Size to d) c) (Leaves p.registers (on_data.Size to d) typing c r w)
  size_leaves to d met =
      let q = passed reads_closed_container (right_at typing d) met.0 in
      let both = and_parts (is_closed_mode q.0.mode) (not (is_scalar q.0.ty)) q.2 in
      size_at to d q.0 both.0 (not-true _ both.1) (declared_as (slice_get p.registers to) scalar.Int met.1.1.0) (at_right d typing c r w q.0 fits q.1)

  subscript_at : (by : Scalar) (to d index skip : ℕ) (q : RightType) → is_closed_mode q.mode ≡ true → has_subscripts_by by q.ty ≡ true → slice_get p.registers to ≡ Some by → slice_get p.registers index ≡ Some scalar.Int → At typing c r w d q
      → Goes (data_instr (on_data.SubscriptAt by to d index skip) c) (Leaves p.registers (on_data.SubscriptAt by to d index skip) typing c r w)
  subscript_at by to d index skip q mode kind declared indexed h =
      let count = int_there p.registers c.position values index indexed in
      let found : Option Subscript = subscript_after count.0 (subscripts_at c.store h.id) in
      let kind_x : has_subscripts_by by h.x.ty ≡ true = ap (has_subscripts_by by) h.ty ∙ kind in
      let subscripts_are : subscripts_at c.store h.id ≡ subscripts_of h.x.content = rw h.live refl in
      goes_then (must_have_type c.position to by) _ _ (has_type p.registers c.position values to by declared)
      (goes (int_at c.position index) _ _ count.0 count.1
      (goes (held c.rights d) _ _ h.id (held_goes d q h)
      (goes_then (may_read_subscripts_by by (datum_of c h.id)) _ _ (subscripts_read_by by d q mode kind h)
      (record {
        moves = found_moves p.registers c.position values found to skip by declared (λ k is.
            content_kind h.x by (fits.store.contents h.id h.x h.live) kind_x count.0 k (sym (ap (subscript_after count.0) subscripts_are) ∙ is));
        settles = same_settles typing c (record c { position = with_result c.position to skip found }) r w fits refl refl;
      }))))

  pub subscript_leaves : (by : Scalar) (to d index skip : ℕ) → AllYes (requires_data p.registers (on_data.SubscriptAt by to d index skip) typing)
      → Goes (data_instr (on_data.SubscriptAt by to d index skip) c) (Leaves p.registers (on_data.SubscriptAt by to d index skip) typing c r w)
  subscript_leaves by to d index skip met =
      let q = passed (reads_closed_by by) (right_at typing d) met.0 in
      let both = and_parts (is_closed_mode q.0.mode) (has_subscripts_by by q.0.ty) q.2 in
      subscript_at by to d index skip q.0 both.0 both.1 (declared_as (slice_get p.registers to) by met.1.1.0) (declared_as (slice_get p.registers index) scalar.Int met.1.1.1.1.0) (at_right d typing c r w q.0 fits q.1)

  -- ---- INSERT

  pub open_container : (x : Datum) → is_scalar x.ty ≡ false → IsOfType x.ty x.content → 0 < x.writes → is_closed x ≡ false
  open_container x deep of some = at x.content of
    where
      at : (content : Content) → IsOfType x.ty content → is_closed (record x { content = content }) ≡ false
      at Unset h = refl
      at (Set v) h = let z : true ≡ false = sym h.0 ∙ deep in cc
      at (Contains members) h = ne_eqb x.writes 0 (λ e. omega arith)
      at (Maps values) h = ne_eqb x.writes 0 (λ e. omega arith)

  insert_at : (by : Scalar) (container subscript member skip : ℕ) (q m : RightType) → is_write q.mode ≡ true → is_container_by by q.ty ≡ true → is_write m.mode ≡ false → is_element_of m.ty q.ty ≡ true → slice_get p.registers subscript ≡ Some by
      → At typing c r w container q → At typing c r w member m
      → Goes (data_instr (on_data.Insert by container subscript member skip) c) (Leaves p.registers (on_data.Insert by container subscript member skip) typing c r w)
  insert_at by container subscript member skip q m mode kind reads element declared h g =
      let deep = by_deep by q.ty kind in
      let deep_x : is_scalar h.x.ty ≡ false = ap is_scalar h.ty ∙ deep in
      let at = value_there p.registers c.position values subscript by declared in
      let kind_x : is_container_by by h.x.ty ≡ true = ap (is_container_by by) h.ty ∙ kind in
      let some = h.has_write mode in
      let more : 0 < h.x.writes = (let e = h.writes in omega arith) in
      let element_x : is_element_of g.x.ty h.x.ty ≡ true = ap (λ (t : NestedScalar). is_element_of t h.x.ty) g.ty ∙ ap (is_element_of m.ty) h.ty ∙ element in
      let opened = open_container h.x deep_x (fits.store.contents h.id h.x h.live) more in
      let may : may_insert by (datum_of c h.id) (datum_of c g.id) ≡ Ok tt = rw (h.live, g.live, kind_x, element_x, opened) refl in
      let found : member_at c.store h.id at.0 ≡ get (members_in h.x.content) at.0 = ap (option_and_then (λ (x : Datum). get (members_in x.content) at.0)) h.live in
      goes (of_type_at c.position subscript by) _ _ at.0 at.1
      (goes (held c.rights container) _ _ h.id (held_goes container q h)
      (goes (held c.rights member) _ _ g.id (held_goes member m g)
      (goes_then (may_insert by (datum_of c h.id) (datum_of c g.id)) _ _ may
      (left at.0 deep (ap (λ (u : Scalar). is_container_by u q.ty) at.2 ∙ kind) (member_at c.store h.id at.0) (sym found)))))
    where
      left : (at : Subscript) → is_scalar q.ty ≡ false → is_container_by (scalar_of at) q.ty ≡ true → (o : Option ℕ) → get (members_in h.x.content) at ≡ o → Leaves p.registers (on_data.Insert by container subscript member skip) typing c r w (after_insert c h.id at g.id member skip o)
      left at deep kind (Some other) e = record { moves = moves_by Skipped refl values; settles = same_settles typing c (after_insert c h.id at g.id member skip (Some other)) r w fits refl refl }
      left at deep kind None e =
          let done = insert_settles typing c r w fits container member q m h g mode deep reads element at kind e in
          let store_is : inserted c.store h.id at g.id ≡ record c.store { live = insert c.store.live h.id (with_member at g.id h.x) } = rw h.live refl in
          record {
            moves = moves_by Completed refl values;
            settles = record {
              fits = subst (λ (s : Store). Fits (slice_set typing member None) (record (after_insert c h.id at g.id member skip None) { store = s }) r w) (sym store_is)
                  (record { balanced = done.fits.balanced; writers = done.fits.writers; store = done.fits.store; rights = done.fits.rights });
              others = subst (λ (s : Store). Undisturbed c.store s) (sym store_is) done.others;
            };
          }

  pub insert_leaves : (by : Scalar) (container subscript member skip : ℕ) → AllYes (requires_data p.registers (on_data.Insert by container subscript member skip) typing)
      → Goes (data_instr (on_data.Insert by container subscript member skip) c) (Leaves p.registers (on_data.Insert by container subscript member skip) typing c r w)
  insert_leaves by container subscript member skip met =
      let q = passed (writes_container_by by) (right_at typing container) met.0 in
      let both = and_parts (is_write q.0.mode) (is_container_by by q.0.ty) q.2 in
      let member_met : passes (reads_member_of q.0) (right_at typing member) ≡ true = sym (ap (passes (λ right. passes (reads_member_of right) (right_at typing member))) q.1) ∙ met.1.0 in
      let m = passed (reads_member_of q.0) (right_at typing member) member_met in
      let two = and_parts (is_read m.0.mode) (is_element_of m.0.ty q.0.ty) m.2 in
      insert_at by container subscript member skip q.0 m.0 both.0 both.1 (read_no_write m.0.mode two.0) two.1 (declared_as (slice_get p.registers subscript) by met.1.1.1.0)
      (at_right container typing c r w q.0 fits q.1) (at_right member typing c r w m.0 fits m.1)

  -- ---- LOOK

  module _ (long : length typing ≡ 16) where
    -- the member that is found has one read more, which the register holds
    look_settles : (member d skip m : ℕ) (y : Datum) → get c.store.live m ≡ Some y → slice_get typing member ≡ Some None → slice_get c.rights member ≡ Some None
        → Settles (slice_set typing member (a_read y.ty)) c r w (after_look c member skip (Some m))
    look_settles member d skip m y there a b =
        let sum_r : (e : ℕ) → over (read_by e) (slice_set typing member (a_read y.ty)) (slice_set c.rights member (Some m)) + 0 ≡ over (read_by e) typing c.rights + hits e m = λ e. over-set (read_by e) typing c.rights member None (a_read y.ty) None (Some m) a b in
        let sum_w : (e : ℕ) → over (write_by e) (slice_set typing member (a_read y.ty)) (slice_set c.rights member (Some m)) + 0 ≡ over (write_by e) typing c.rights + 0 = λ e. over-set (write_by e) typing c.rights member None (a_read y.ty) None (Some m) a b in
        let one = hits_same m in
        let r_id = sum_r m in
        let w_id = sum_w m in
        let counts = balanced_some c.store.live (λ e. over (read_by e) typing c.rights + r e) (λ e. over (write_by e) typing c.rights + w e) m y fits.balanced there in
        let store_is : changed c.store m one_read_more ≡ record c.store { live = insert c.store.live m (one_read_more y) } = rw there refl in
        let holds : Holds c.store (record { mode = Ref; ty = y.ty }) m = record {
          given = fits.store.fresh m y there;
          ty = λ z at. ap (λ (v : Datum). v.ty) (sym (same_Some y z (sym there ∙ at)));
          closed = λ z at e. cc;
        } in
        put_context typing (slice_set typing member (a_read y.ty)) c (after_look c member skip (Some m)) r w m y (one_read_more y) fits there
        (record { ty = refl; members = refl; closed = λ t. t; content = λ t. t; writers = λ t. t })
        (λ e ne. let no_hit = hits_other e m (λ z. ne (sym z)) in (let s = sum_r e in omega arith, let s = sum_w e in omega arith))
        (omega (arith, counts.0)) (omega (arith, counts.1)) (omega arith) store_is
        (rights_set c.store typing c.rights member (a_read y.ty) (Some m) fits.rights holds)

    look_at : (by : Scalar) (member d subscript skip : ℕ) (q : RightType) → right_at typing d ≡ Some q → is_closed_mode q.mode ≡ true → is_container_by by q.ty ≡ true → slice_get p.registers subscript ≡ Some by
        → slice_get typing member ≡ Some None → slice_get c.rights member ≡ Some None → At typing c r w d q
        → Goes (data_instr (on_data.Look by member d subscript skip) c) (Leaves p.registers (on_data.Look by member d subscript skip) typing c r w)
    look_at by member d subscript skip q there_is mode kind declared a b h =
        let at = value_there p.registers c.position values subscript by declared in
        let found : member_at c.store h.id at.0 ≡ get (members_in h.x.content) at.0 = ap (option_and_then (λ (x : Datum). get (members_in x.content) at.0)) h.live in
        let read = members_read_by (scalar_of at.0) d q mode (ap (λ (u : Scalar). is_container_by u q.ty) at.2 ∙ kind) h in
        goes (of_type_at c.position subscript by) _ _ at.0 at.1
        (goes_then (must_be_empty c.rights member) _ _ (ap (λ o. must (is_none (option_flatten o)) WrongRegister) b)
        (goes (held c.rights d) _ _ h.id (held_goes d q h)
        (goes_then (may_look c.store h.id at.0) _ _ (may at.0 (member_at c.store h.id at.0) refl (sym found) read)
        (left at.0 (member_at c.store h.id at.0) (sym found)))))
      where
        may : (at : Subscript) (o : Option ℕ) → member_at c.store h.id at ≡ o → get (members_in h.x.content) at ≡ member_at c.store h.id at → may_read_members_by (scalar_of at) (datum_of c h.id) ≡ Ok tt → may_look c.store h.id at ≡ Ok tt
        may at None e found read = rw (read, e) refl
        may at (Some m) e found read =
            let y = member_there typing c r w fits h.id h.x at m h.live (found ∙ e) in
            rw (read, e) (ap (λ b. must b FreedDatum) (kept m y.0 y.1))
          where
            kept : (m : ℕ) (y : Datum) → get c.store.live m ≡ Some y → is_kept c.store.live (Some m) ≡ true
            kept m y e = rw e refl

        left : (at : Subscript) (o : Option ℕ) → get (members_in h.x.content) at ≡ o → Leaves p.registers (on_data.Look by member d subscript skip) typing c r w (after_look c member skip o)
        left at None e = record { moves = moves_by Skipped refl values; settles = same_settles typing c (after_look c member skip None) r w fits refl refl }
        left at (Some m) e =
            let y = member_there typing c r w fits h.id h.x at m h.live e in
            let read : a_member_read (right_at typing d) ≡ a_read y.0.ty = ap a_member_read there_is ∙ member_read q.ty y.0.ty (ap element_of (sym h.ty) ∙ y.2) in
            record {
              moves = moves_by Completed refl values;
              settles = subst (λ o. Settles (slice_set typing member o) c r w (after_look c member skip (Some m))) (sym read) (look_settles member d skip m y.0 y.1 a b);
            }

    pub look_leaves : (by : Scalar) (member d subscript skip : ℕ) → member < 16 → AllYes (requires_data p.registers (on_data.Look by member d subscript skip) typing)
        → Goes (data_instr (on_data.Look by member d subscript skip) c) (Leaves p.registers (on_data.Look by member d subscript skip) typing c r w)
    look_leaves by member d subscript skip l met =
        let q = passed (reads_closed_container_by by) (right_at typing d) met.1.0 in
        let both = and_parts (is_closed_mode q.0.mode) (is_container_by by q.0.ty) q.2 in
        let a = free_there typing member (omega arith) met.0 in
        look_at by member d subscript skip q.0 q.1 both.0 both.1 (declared_as (slice_get p.registers subscript) by met.1.1.1.0) a (empty_there c.store typing c.rights member fits.rights a) (at_right d typing c r w q.0 fits q.1)
