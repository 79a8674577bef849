-- STORE, DROPR and DROPW succeed if their checks hold, and their results fit the typing after them.
use Rattle.std.proofs.Common.{◌≡◌, ℕ, ◌+◌, ◌-◌, ◌<◌, ◌==◌, Bool, true, false, not, ◌&&◌, ◌||◌, List, slice_get, slice_set, Option, Some, None, refl, sym, ap, ◌∙◌, arith}
use Rattle.tw_soundness.proofs.MachineNames.{Closed, Completed, Contains, Maps, container_only, map_only, Content, Context, DataInstr, Datum, EmptyRegister, HasWriters, IsOfType, Mode, NestedScalar, Procedure, Ref, RightType, Scalar, Set, Typing, Unset, Val, Value, ValuesFit, Write, WrongRegister, after_data, and_parts, requires_data, data_flow, data_instr, datum_at, datum_of, eq-eqb, eqb-true, get, held, hits, hits_other, hits_same, is_closed, is_read, is_scalar, is_unset, is_write, may_drop_read, may_drop_write, may_store, members_of, ne_eqb, not-true, ok_or, one_write_less, option_and_then, option_flatten, over, passes, read_by, read_dropped, reads, right_at, same_scalar, scalar_itself, scalar_of, set_to, settled, store_after, subscribers_cleared, suits, write_by, writes, writes_scalar}
use Rattle.tw_code.specs.declared.instr.DataInstr.TheVariants as on_data
use Rattle.tw_soundness.proofs.Aging.{Aged}
use Rattle.tw_soundness.proofs.Values.{AllYes, passed, Moves, declared_as, value_found, moves_by}
use Rattle.tw_soundness.proofs.Registers.{Fits, Settles, At, at_right, aged_context, emptied, rights_set}
use Rattle.tw_soundness.proofs.Steps.{Goes, goes, goes_must, goes_then}

-- the effect of an instruction on data
pub record Leaves (registers : List Scalar) (i : DataInstr) (typing : Typing) (old : Context) (r w : ℕ → ℕ) (new : Context) : Type 0 where
  pub moves : Moves registers (data_flow i) old.position new.position
  pub settles : Settles (after_data moves.way i typing) old r w new

pub read_no_write : (mode : Mode) → is_read mode ≡ true → is_write mode ≡ false
read_no_write Val e = cc
read_no_write Closed e = refl
read_no_write Ref e = refl
read_no_write Write e = cc

-- ---- a read is dropped

module _ (p : Procedure) (typing : Typing) (c : Context) (r w : ℕ → ℕ) (fits : Fits typing c r w) (values : ValuesFit p.registers c.position.values) where
  drop_read_at : (d : ℕ) (q : RightType) → is_write q.mode ≡ false → At typing c r w d q → Goes (data_instr (on_data.DropRead d) c) (Leaves p.registers (on_data.DropRead d) typing c r w)
  drop_read_at d q mode h =
      let some = h.has_read mode in
      let more : 0 < h.x.reads = (let e = h.reads in omega arith) in
      let kept : (h.x.reads == 0) ≡ false = ne_eqb h.x.reads 0 (λ z. omega arith) in
      let sum_r : (e : ℕ) → over (read_by e) (slice_set typing d None) (slice_set c.rights d None) + hits e h.id ≡ over (read_by e) typing c.rights = λ e. rw mode at (emptied (read_by e) typing c.rights d q h.id refl h.typed h.register) in
      let sum_w : (e : ℕ) → over (write_by e) (slice_set typing d None) (slice_set c.rights d None) + 0 ≡ over (write_by e) typing c.rights = λ e. rw mode at (emptied (write_by e) typing c.rights d q h.id refl h.typed h.register) in
      let one = hits_same h.id in
      let r_id = sum_r h.id in
      let w_id = sum_w h.id in
      let live : (read_dropped c.store h.id).live ≡ settled c.store.live h.id (record h.x { reads = h.x.reads - 1 }) = rw (h.live, kept) refl in
      goes (held c.rights d) _ _ h.id (ap (λ o. ok_or (option_flatten o) EmptyRegister) h.register)
      (goes_then (may_drop_read (datum_of c h.id)) _ _ (rw (h.live, kept) refl)
      (record {
        moves = moves_by Completed refl values;
        settles = aged_context typing (slice_set typing d None) c _ r w h.id h.x (record h.x { reads = h.x.reads - 1 }) fits h.live
            (record { ty = refl; members = refl; closed = λ t. t; content = λ t. t; writers = λ t. t })
            (λ e ne. (let no_hit = hits_other e h.id (λ z. ne (sym z)) in let s = sum_r e in omega arith, let s = sum_w e in omega arith))
            (omega (arith, h.reads)) (omega (arith, h.writes)) live refl (rights_set c.store typing c.rights d None None fits.rights tt);
      }))

  pub drop_read_leaves : (d : ℕ) → AllYes (requires_data p.registers (on_data.DropRead d) typing) → Goes (data_instr (on_data.DropRead d) c) (Leaves p.registers (on_data.DropRead d) typing c r w)
  drop_read_leaves d met =
      let q = passed reads (right_at typing d) met.0 in
      drop_read_at d q.0 (read_no_write q.0.mode q.2) (at_right d typing c r w q.0 fits q.1)

  -- ---- a write is dropped, and the container may close or be freed

  notified_aged : (x y : Datum) → Aged x y → Aged x (subscribers_cleared y)
  notified_aged x y a = by (is_closed y) refl
    where
      by : (b : Bool) → is_closed y ≡ b → Aged x (subscribers_cleared y)
      by true e = rw e (record { ty = a.ty; members = a.members; closed = λ t. e; content = a.content; writers = a.writers })
      by false e = rw e a

  notified_counts : (y : Datum) → ((subscribers_cleared y).reads ≡ y.reads) × ((subscribers_cleared y).writes ≡ y.writes)
  notified_counts y = by (is_closed y) refl
    where
      by : (b : Bool) → is_closed y ≡ b → ((subscribers_cleared y).reads ≡ y.reads) × ((subscribers_cleared y).writes ≡ y.writes)
      by true e = rw e (refl, refl)
      by false e = rw e (refl, refl)

  less_aged : (x : Datum) → is_scalar x.ty ≡ false → IsOfType x.ty x.content → Aged x (one_write_less x)
  less_aged x deep of = at x.content of
    where
      at : (content : Content) → IsOfType x.ty content → Aged (record x { content = content }) (one_write_less (record x { content = content }))
      at Unset h = let z : true ≡ false = sym h ∙ deep in cc
      at (Set v) h = let z : true ≡ false = sym h.0 ∙ deep in cc
      at (Contains members) h = record { ty = refl; members = refl; closed = λ t. let z = eqb-true x.writes 0 t in eq-eqb (x.writes - 1) 0 (omega arith); content = λ t. t; writers = λ t. t }
      at (Maps values) h = record { ty = refl; members = refl; closed = λ t. let z = eqb-true x.writes 0 t in eq-eqb (x.writes - 1) 0 (omega arith); content = λ t. t; writers = λ t. t }

  drop_write_at : (d : ℕ) (q : RightType) → is_write q.mode ≡ true → is_scalar q.ty ≡ false → At typing c r w d q → Goes (data_instr (on_data.DropWrite d) c) (Leaves p.registers (on_data.DropWrite d) typing c r w)
  drop_write_at d q mode deep h =
      let some = h.has_write mode in
      let more : 0 < h.x.writes = (let e = h.writes in omega arith) in
      let kept : (h.x.writes == 0) ≡ false = ne_eqb h.x.writes 0 (λ z. omega arith) in
      let deep_x : is_scalar h.x.ty ≡ false = ap is_scalar h.ty ∙ deep in
      let sum_r : (e : ℕ) → over (read_by e) (slice_set typing d None) (slice_set c.rights d None) + 0 ≡ over (read_by e) typing c.rights = λ e. rw mode at (emptied (read_by e) typing c.rights d q h.id refl h.typed h.register) in
      let sum_w : (e : ℕ) → over (write_by e) (slice_set typing d None) (slice_set c.rights d None) + hits e h.id ≡ over (write_by e) typing c.rights = λ e. rw mode at (emptied (write_by e) typing c.rights d q h.id refl h.typed h.register) in
      let one = hits_same h.id in
      let r_id = sum_r h.id in
      let w_id = sum_w h.id in
      let t = notified_counts (one_write_less h.x) in
      let live : (store_after c.store h.id one_write_less).live ≡ settled c.store.live h.id (subscribers_cleared (one_write_less h.x)) = rw h.live refl in
      let next : (store_after c.store h.id one_write_less).next ≡ c.store.next = rw h.live refl in
      goes (held c.rights d) _ _ h.id (ap (λ o. ok_or (option_flatten o) EmptyRegister) h.register)
      (goes_then (may_drop_write (datum_of c h.id)) _ _ (rw (h.live, deep_x, kept) refl)
      (record {
        moves = moves_by Completed refl values;
        settles = aged_context typing (slice_set typing d None) c _ r w h.id h.x (subscribers_cleared (one_write_less h.x)) fits h.live
            (notified_aged h.x (one_write_less h.x) (less_aged h.x deep_x (fits.store.contents h.id h.x h.live)))
            (λ e ne. (let s = sum_r e in omega arith, let no_hit = hits_other e h.id (λ z. ne (sym z)) in let s = sum_w e in omega arith))
            (omega (arith, h.reads, t.0)) (omega (arith, h.writes, t.1)) live next (rights_set c.store typing c.rights d None None fits.rights tt);
      }))

  pub drop_write_leaves : (d : ℕ) → AllYes (requires_data p.registers (on_data.DropWrite d) typing) → Goes (data_instr (on_data.DropWrite d) c) (Leaves p.registers (on_data.DropWrite d) typing c r w)
  drop_write_leaves d met =
      let q = passed writes (right_at typing d) met.0 in
      drop_write_at d q.0 q.2 (container q.0 q.2 (right_at typing d) q.1 met.1.0) (at_right d typing c r w q.0 fits q.1)
    where
      container : (q : RightType) → is_write q.mode ≡ true → (o : Option RightType) → o ≡ Some q → not (passes writes_scalar o) ≡ true → is_scalar q.ty ≡ false
      container q mode o e t = sym (ap (λ b. b && is_scalar q.ty) mode) ∙ not-true _ (sym (ap (λ u. not (passes writes_scalar u)) e) ∙ t)

  -- ---- a scalar is set, which closes it

  still_unset : (ty : NestedScalar) (content : Content) (writes : ℕ) → IsOfType ty content → HasWriters content writes → is_scalar ty ≡ true → 0 < writes → (content ≡ Unset) × (writes ≡ 1)
  still_unset ty Unset writes s w scalar some = (refl, w)
  still_unset ty (Set x) writes s w scalar some = absurd (omega arith)
  still_unset ty (Contains members) writes s w scalar some = let z : true ≡ false = sym scalar ∙ (container_only ty s.0).0 in cc
  still_unset ty (Maps values) writes s w scalar some = let z : true ≡ false = sym scalar ∙ (map_only ty s.0).0 in cc

  store_at : (d from : ℕ) (q : RightType) (x : Value) → is_write q.mode ≡ true → is_scalar q.ty ≡ true → slice_get c.position.values from ≡ Some x → scalar_of x ≡ q.ty.scalar → At typing c r w d q
      → Goes (data_instr (on_data.Store d from) c) (Leaves p.registers (on_data.Store d from) typing c r w)
  store_at d from q x mode scalar at_from of_ty h =
      let some = h.has_write mode in
      let sum_r : (e : ℕ) → over (read_by e) (slice_set typing d None) (slice_set c.rights d None) + 0 ≡ over (read_by e) typing c.rights = λ e. rw mode at (emptied (read_by e) typing c.rights d q h.id refl h.typed h.register) in
      let sum_w : (e : ℕ) → over (write_by e) (slice_set typing d None) (slice_set c.rights d None) + hits e h.id ≡ over (write_by e) typing c.rights = λ e. rw mode at (emptied (write_by e) typing c.rights d q h.id refl h.typed h.register) in
      let one = hits_same h.id in
      let r_id = sum_r h.id in
      let w_id = sum_w h.id in
      let x_scalar : is_scalar h.x.ty ≡ true = ap is_scalar h.ty ∙ scalar in
      let unset = still_unset h.x.ty h.x.content h.x.writes (fits.store.contents h.id h.x h.live) (fits.writers h.id h.x h.live) x_scalar (omega (arith, h.writes)) in
      let of_x : scalar_of x ≡ h.x.ty.scalar = of_ty ∙ ap (λ (u : NestedScalar). u.scalar) (sym h.ty) in
      let same : same_scalar (scalar_of x) h.x.ty.scalar ≡ true = ap (λ (u : Scalar). same_scalar u h.x.ty.scalar) of_x ∙ scalar_itself h.x.ty.scalar in
      let kept : (h.x.writes == 0) ≡ false = ne_eqb h.x.writes 0 (λ z. omega (arith, unset.1)) in
      let is_un : is_unset h.x.content ≡ true = ap is_unset unset.0 in
      let t = notified_counts (set_to x h.x) in
      let live : (store_after c.store h.id (set_to x)).live ≡ settled c.store.live h.id (subscribers_cleared (set_to x h.x)) = rw h.live refl in
      let next : (store_after c.store h.id (set_to x)).next ≡ c.store.next = rw h.live refl in
      let here : datum_at c d ≡ Some h.x = ap (λ o. option_and_then (get c.store.live) (option_flatten o)) h.register ∙ h.live in
      let fine : suits x (datum_at c d) ≡ true = ap (suits x) here ∙ rw (x_scalar, same) refl in
      goes (ok_or (slice_get c.position.values from) WrongRegister) _ _ x (ap (λ o. ok_or o WrongRegister) at_from)
      (goes_must (suits x (datum_at c d)) WrongRegister _ _ fine
      (goes (held c.rights d) _ _ h.id (ap (λ o. ok_or (option_flatten o) EmptyRegister) h.register)
      (goes_then (may_store x (datum_of c h.id)) _ _ (rw (h.live, x_scalar, same, is_un, kept) refl)
      (record {
        moves = moves_by Completed refl values;
        settles = aged_context typing (slice_set typing d None) c _ r w h.id h.x (subscribers_cleared (set_to x h.x)) fits h.live
            (notified_aged h.x (set_to x h.x) (record { ty = refl; members = ap members_of (sym unset.0); closed = λ z. refl; content = λ z. (x_scalar, of_x); writers = λ z. omega (arith, unset.1) }))
            (λ e ne. (let s = sum_r e in omega arith, let no_hit = hits_other e h.id (λ z. ne (sym z)) in let s = sum_w e in omega arith))
            (omega (arith, h.reads, t.0)) (omega (arith, h.writes, t.1)) live next (rights_set c.store typing c.rights d None None fits.rights tt);
      }))))

  pub store_leaves : (d from : ℕ) → AllYes (requires_data p.registers (on_data.Store d from) typing) → Goes (data_instr (on_data.Store d from) c) (Leaves p.registers (on_data.Store d from) typing c r w)
  store_leaves d from met = by (right_at typing d) refl met.0 met.1.1.0
    where
      typed : (right : RightType) → writes_scalar right ≡ true → (not (writes_scalar right) || passes (λ declared. same_scalar declared right.ty.scalar) (slice_get p.registers from)) ≡ true → slice_get p.registers from ≡ Some right.ty.scalar
      typed right writes e = declared_as (slice_get p.registers from) right.ty.scalar (sym (ap (λ b. not b || passes (λ declared. same_scalar declared right.ty.scalar) (slice_get p.registers from)) writes) ∙ e)

      by : (o : Option RightType) → right_at typing d ≡ o → passes writes_scalar o ≡ true
          → (not (passes writes_scalar o) || passes (λ right. passes (λ declared. same_scalar declared right.ty.scalar) (slice_get p.registers from)) o) ≡ true
          → Goes (data_instr (on_data.Store d from) c) (Leaves p.registers (on_data.Store d from) typing c r w)
      by None e first second = cc
      by (Some right) e first second =
          let both = and_parts (is_write right.mode) (is_scalar right.ty) first in
          let found = value_found p.registers c.position.values from right.ty.scalar values (typed right first second) in
          store_at d from right found.0 both.0 both.1 found.1 found.2 (at_right d typing c r w right fits e)
