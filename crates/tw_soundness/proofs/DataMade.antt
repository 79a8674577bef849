-- DUPR and DUPW succeed if their checks hold, and their results fit the typing after them.
use Rattle.std.proofs.Common.{◌≡◌, ℕ, ◌+◌, ◌<◌, true, false, not, ◌&&◌, length, is_none, slice_get, slice_set, Option, Some, None, refl, sym, ap, subst, ◌∙◌, arith}
use Rattle.tw_soundness.proofs.MachineNames.{Completed, Contains, Maps, Content, Context, Datum, EmptyRegister, Holds, IsOfType, Ok, Procedure, RightType, RightsFit, Set, Store, Typing, Unset, ValuesFit, WrongRegister, requires_data, changed, count_of, data_instr, datum_of, eqb-true, get, held, hits, hits_other, hits_same, insert, inside, is_closed, is_free, is_scalar, is_write, may_be_read, may_copy_write, must, must_be_empty, not-true, ok_or, one_read_more, one_write_more, option_flatten, over, passes, put_balanced, read_by, reads, right_at, same_Some, subscripts_in, write_by, writes, writes_scalar}
use Rattle.tw_code.specs.declared.instr.DataInstr.TheVariants as on_data
use Rattle.tw_soundness.proofs.DataLeft.{Leaves, read_no_write}
use Rattle.tw_soundness.proofs.Aging.{Aged, later_put}
use Rattle.tw_soundness.proofs.Values.{AllYes, passed, moves_by}
use Rattle.tw_soundness.proofs.Long.{free_there, empty_there}
use Rattle.tw_soundness.proofs.Registers.{Fits, Settles, At, at_right, holds_undisturbed, later_undisturbed, later_store, rights_kept, over-set, rights_set}
use Rattle.tw_soundness.proofs.Steps.{Goes, goes, goes_then}

-- one datum x becomes y, which stays, and the registers change
pub put_context : (ts us : Typing) (k l : Context) (r w : ℕ → ℕ) (id : ℕ) (x y : Datum) → Fits ts k r w → get k.store.live id ≡ Some x → Aged x y
    → ((d : ℕ) → (d ≡ id → ⊥) → (over (read_by d) us l.rights ≡ over (read_by d) ts k.rights) × (over (write_by d) us l.rights ≡ over (write_by d) ts k.rights))
    → y.reads ≡ inside k.store.live id + (over (read_by id) us l.rights + r id) → y.writes ≡ over (write_by id) us l.rights + w id → 0 < y.reads + y.writes
    → l.store ≡ record k.store { live = insert k.store.live id y } → RightsFit k.store us l.rights → Settles us k r w l
put_context ts us k l r w id x y fits is aged other reads writes some store_is fit =
    let later = later_put k.store.live id x y is aged in
    let t : Store = record k.store { live = insert k.store.live id y } in
    let others = later_undisturbed k.store (record k.store { live = insert k.store.live id y }) later refl in
    let same : (d : ℕ) → subscripts_in d y ≡ subscripts_in d x = λ d. ap (count_of d) aged.members in
    let same_id = same id in
    let new : Fits us (record l { store = record k.store { live = insert k.store.live id y } }) r w = record {
      balanced = put_balanced k.store.live _ _ (λ d. over (read_by d) us l.rights + r d) (λ d. over (write_by d) us l.rights + w d) id x y is fits.balanced
          (λ d h. (let e = same d in let o = (other d h).0 in omega arith, let o = (other d h).1 in omega arith)) (omega arith) writes some;
      writers = λ d z at. let q = later.there d z at in q.2.writers (fits.writers d q.0 q.1);
      store = later_store k.store (record k.store { live = insert k.store.live id y }) later refl fits.store;
      rights = rights_kept k.store (record k.store { live = insert k.store.live id y }) us l.rights (holds_undisturbed k.store (record k.store { live = insert k.store.live id y }) others) fit;
    } in
    let done : Settles us k r w (record l { store = record k.store { live = insert k.store.live id y } }) = record { fits = new; others = others } in
    subst (λ (s : Store). Settles us k r w (record l { store = s })) (sym store_is) done

-- facts on the datum of a register with a right
pub at_holds : (ts : Typing) (k : Context) (r w : ℕ → ℕ) (d : ℕ) (q : RightType) → Fits ts k r w → (h : At ts k r w d q) → Holds k.store q h.id
at_holds ts k r w d q fits h = record {
  given = fits.store.fresh h.id h.x h.live;
  ty = λ y at. ap (λ (z : Datum). z.ty) (sym (same_Some h.x y (sym h.live ∙ at))) ∙ h.ty;
  closed = λ y at mode. subst (λ (z : Datum). is_closed z ≡ true) (same_Some h.x y (sym h.live ∙ at)) (h.closed mode);
}

module _ (p : Procedure) (typing : Typing) (c : Context) (r w : ℕ → ℕ) (fits : Fits typing c r w) (values : ValuesFit p.registers c.position.values) (long : length typing ≡ 16) where
  empty_register : (to : ℕ) → to < 16 → is_free typing to ≡ true → (slice_get typing to ≡ Some None) × (slice_get c.rights to ≡ Some None)
  empty_register to l free = let a = free_there typing to (omega arith) free in (a, empty_there c.store typing c.rights to fits.rights a)

  may_fill : (to : ℕ) → slice_get c.rights to ≡ Some None → must_be_empty c.rights to ≡ Ok tt
  may_fill to e = ap (λ o. must (is_none (option_flatten o)) WrongRegister) e

  -- a second read
  copy_read_at : (to from : ℕ) (q : RightType) → right_at typing from ≡ Some q → is_write q.mode ≡ false → slice_get typing to ≡ Some None → slice_get c.rights to ≡ Some None → At typing c r w from q
      → Goes (data_instr (on_data.CopyRead to from) c) (Leaves p.registers (on_data.CopyRead to from) typing c r w)
  copy_read_at to from q there_is mode a b h =
      let sum_r : (e : ℕ) → over (read_by e) (slice_set typing to (Some q)) (slice_set c.rights to (Some h.id)) + 0 ≡ over (read_by e) typing c.rights + hits e h.id = λ e. rw mode at (over-set (read_by e) typing c.rights to None (Some q) None (Some h.id) a b) in
      let sum_w : (e : ℕ) → over (write_by e) (slice_set typing to (Some q)) (slice_set c.rights to (Some h.id)) + 0 ≡ over (write_by e) typing c.rights + 0 = λ e. rw mode at (over-set (write_by e) typing c.rights to None (Some q) None (Some h.id) a b) in
      let one = hits_same h.id in
      let r_id = sum_r h.id in
      let w_id = sum_w h.id in
      let store_is : changed c.store h.id one_read_more ≡ record c.store { live = insert c.store.live h.id (one_read_more h.x) } = rw h.live refl in
      goes_then (must_be_empty c.rights to) _ _ (may_fill to b)
      (goes (held c.rights from) _ _ h.id (ap (λ o. ok_or (option_flatten o) EmptyRegister) h.register)
      (goes_then (may_be_read (datum_of c h.id)) _ _ (rw h.live refl)
      (record {
        moves = moves_by Completed refl values;
        settles = rw there_is (put_context typing (slice_set typing to (Some q)) c _ r w h.id h.x (one_read_more h.x) fits h.live
            (record { ty = refl; members = refl; closed = λ t. t; content = λ t. t; writers = λ t. t })
            (λ e ne. let no_hit = hits_other e h.id (λ z. ne (sym z)) in (let s = sum_r e in omega arith, let s = sum_w e in omega arith))
            (omega (arith, h.reads)) (omega (arith, h.writes)) (omega arith) store_is
            (rights_set c.store typing c.rights to (Some q) (Some h.id) fits.rights (at_holds typing c r w from q fits h)));
      })))

  pub copy_read_leaves : (to from : ℕ) → to < 16 → AllYes (requires_data p.registers (on_data.CopyRead to from) typing) → Goes (data_instr (on_data.CopyRead to from) c) (Leaves p.registers (on_data.CopyRead to from) typing c r w)
  copy_read_leaves to from l met =
      let q = passed reads (right_at typing from) met.1.0 in
      let e = empty_register to l met.0 in
      copy_read_at to from q.0 q.1 (read_no_write q.0.mode q.2) e.0 e.1 (at_right from typing c r w q.0 fits q.1)

  -- a second write on a container, which has one already, so that nothing reopens
  more_aged : (x : Datum) → is_scalar x.ty ≡ false → IsOfType x.ty x.content → 0 < x.writes → Aged x (one_write_more x)
  more_aged x deep of some = at x.content of
    where
      at : (content : Content) → IsOfType x.ty content → Aged (record x { content = content }) (one_write_more (record x { content = content }))
      at Unset h = let z : true ≡ false = sym h ∙ deep in cc
      at (Set v) h = let z : true ≡ false = sym h.0 ∙ deep in cc
      at (Contains members) h = record { ty = refl; members = refl; closed = λ t. let z = eqb-true x.writes 0 t in absurd (omega arith); content = λ t. t; writers = λ t. t }
      at (Maps values) h = record { ty = refl; members = refl; closed = λ t. let z = eqb-true x.writes 0 t in absurd (omega arith); content = λ t. t; writers = λ t. t }

  copy_write_at : (to from : ℕ) (q : RightType) → right_at typing from ≡ Some q → is_write q.mode ≡ true → is_scalar q.ty ≡ false → slice_get typing to ≡ Some None → slice_get c.rights to ≡ Some None → At typing c r w from q
      → Goes (data_instr (on_data.CopyWrite to from) c) (Leaves p.registers (on_data.CopyWrite to from) typing c r w)
  copy_write_at to from q there_is mode deep a b h =
      let deep_x : is_scalar h.x.ty ≡ false = ap is_scalar h.ty ∙ deep in
      let some = h.has_write mode in
      let more : 0 < h.x.writes = (let e = h.writes in omega arith) in
      let sum_r : (e : ℕ) → over (read_by e) (slice_set typing to (Some q)) (slice_set c.rights to (Some h.id)) + 0 ≡ over (read_by e) typing c.rights + 0 = λ e. rw mode at (over-set (read_by e) typing c.rights to None (Some q) None (Some h.id) a b) in
      let sum_w : (e : ℕ) → over (write_by e) (slice_set typing to (Some q)) (slice_set c.rights to (Some h.id)) + 0 ≡ over (write_by e) typing c.rights + hits e h.id = λ e. rw mode at (over-set (write_by e) typing c.rights to None (Some q) None (Some h.id) a b) in
      let one = hits_same h.id in
      let r_id = sum_r h.id in
      let w_id = sum_w h.id in
      let store_is : changed c.store h.id one_write_more ≡ record c.store { live = insert c.store.live h.id (one_write_more h.x) } = rw h.live refl in
      goes_then (must_be_empty c.rights to) _ _ (may_fill to b)
      (goes (held c.rights from) _ _ h.id (ap (λ o. ok_or (option_flatten o) EmptyRegister) h.register)
      (goes_then (may_copy_write (datum_of c h.id)) _ _ (rw (h.live, deep_x) refl)
      (record {
        moves = moves_by Completed refl values;
        settles = rw there_is (put_context typing (slice_set typing to (Some q)) c _ r w h.id h.x (one_write_more h.x) fits h.live
            (more_aged h.x deep_x (fits.store.contents h.id h.x h.live) more)
            (λ e ne. let no_hit = hits_other e h.id (λ z. ne (sym z)) in (let s = sum_r e in omega arith, let s = sum_w e in omega arith))
            (omega (arith, h.reads)) (omega (arith, h.writes)) (omega arith) store_is
            (rights_set c.store typing c.rights to (Some q) (Some h.id) fits.rights (at_holds typing c r w from q fits h)));
      })))

  pub copy_write_leaves : (to from : ℕ) → to < 16 → AllYes (requires_data p.registers (on_data.CopyWrite to from) typing) → Goes (data_instr (on_data.CopyWrite to from) c) (Leaves p.registers (on_data.CopyWrite to from) typing c r w)
  copy_write_leaves to from l met =
      let q = passed writes (right_at typing from) met.1.0 in
      let e = empty_register to l met.0 in
      copy_write_at to from q.0 q.1 q.2 (container q.0 q.2 (right_at typing from) q.1 met.1.1.0) e.0 e.1 (at_right from typing c r w q.0 fits q.1)
    where
      container : (q : RightType) → is_write q.mode ≡ true → (o : Option RightType) → o ≡ Some q → not (passes writes_scalar o) ≡ true → is_scalar q.ty ≡ false
      container q mode o e t = sym (ap (λ b. b && is_scalar q.ty) mode) ∙ not-true _ (sym (ap (λ u. not (passes writes_scalar u)) e) ∙ t)
