-- NEW succeeds if its checks hold: a new datum, with one write and one read.
use Rattle.std.proofs.Common.{◌≡◌, ◌≢◌, ℕ, ◌+◌, ◌<◌, ◌≤◌, ◌==◌, Bool, true, false, not, if◌then◌else◌, [], map, length, is_none, slice_get, slice_set, Option, Some, None, refl, sym, ap, subst, ◌∙◌, arith, inl, inr, nat_cmp}
use Rattle.tw_soundness.proofs.MachineNames.{Completed, Contains, Context, Datum, HasWriters, Holds, IsDataType, IsOfType, IsTypedStore, Maps, NestedScalar, Procedure, Ref, RightType, Store, Typing, Unset, ValuesFit, Write, WrongRegister, a_read, a_write, balanced_none, count_of, created, data_insert_other, data_insert_same, data_instr, else_container, empty_content, entries, eqb-false, get, hits, hits_other, hits_same, inside, is_closed_mode, is_map, is_scalar, len-empty, len-entries, members_of, must, must_be_empty, nat_cmp-IsAntisymmetric, nat_cmp_total, new_balanced, new_datum, no_entries, no_kinds, not-true, option_flatten, over, part, part-le-total, put_or_before, read_by, requires_data, same_Some, subscripts_in, value_cmp, write_by}
use Rattle.std.specs.FinMap as fin
use Rattle.tw_code.specs.declared.instr.DataInstr.TheVariants as on_data
use Rattle.tw_soundness.proofs.DataLeft.{Leaves}
use Rattle.tw_soundness.proofs.Values.{AllYes, moves_by}
use Rattle.tw_soundness.proofs.Long.{free_there, empty_there}
use Rattle.tw_types.proofs.Elements.{get_set_other, no_items}
use Rattle.tw_soundness.proofs.Registers.{Fits, Undisturbed, holds_undisturbed, rights_kept, over-set, rights_set}
use Rattle.tw_soundness.proofs.Steps.{Goes, goes_then}

pub no_members : (ty : NestedScalar) → members_of (empty_content ty) ≡ []
no_members ty = by (is_scalar ty) (is_map ty)
  where
    by : (b c : Bool) → members_of (if b then Unset else if c then Maps fin.empty else Contains fin.empty) ≡ []
    by true c = refl
    by false true = refl
    by false false = ap (map (λ e. e.1)) (no_items (entries (fin.empty {X = ℕ} {R = value_cmp})) (sym (len-entries (fin.empty {X = ℕ} {R = value_cmp})) ∙ len-empty value_cmp ℕ))

pub new_content : (ty : NestedScalar) → IsOfType ty (empty_content ty)
new_content ty = by (is_scalar ty) (is_map ty) refl refl
  where
    by : (b c : Bool) → is_scalar ty ≡ b → is_map ty ≡ c → IsOfType ty (if b then Unset else if c then Maps fin.empty else Contains fin.empty)
    by true c s m = s
    by false true s m = (m, no_entries ty)
    by false false s m = (else_container ty s m, no_kinds ty)

pub new_writers : (ty : NestedScalar) → HasWriters (empty_content ty) 1
new_writers ty = by (is_scalar ty) (is_map ty)
  where
    by : (b c : Bool) → HasWriters (if b then Unset else if c then Maps fin.empty else Contains fin.empty) 1
    by true c = refl
    by false true = tt
    by false false = tt

fresh_none : (s : Store) → IsTypedStore s → get s.live s.next ≡ None
fresh_none s typed = by (get s.live s.next) refl
  where
    by : (o : Option Datum) → get s.live s.next ≡ o → o ≡ None
    by None e = refl
    by (Some x) e = let l = typed.fresh s.next x e in absurd (omega arith)

module _ (s : Store) (ty : NestedScalar) (typed : IsTypedStore s) (shallow : IsDataType ty) (unheld : inside s.live s.next ≡ 0) where
  created_undisturbed : Undisturbed s (created s ty)
  created_undisturbed = record { next = omega arith; kept = λ d y given at. (y, sym (data_insert_other s.live s.next (new_datum ty) d (λ e. omega arith)) ∙ at, refl, λ c. c) }

  created_typed : IsTypedStore (created s ty)
  created_typed = record {
    contents = λ d z at. elim (put_or_before nat_cmp_total nat_cmp-IsAntisymmetric s.live s.next (new_datum ty) d z at) [
      | inl e ↦ subst (λ (x : Datum). IsOfType x.ty x.content) e.1 (new_content ty)
      | inr old ↦ typed.contents d z old
    ];
    nested = record {
      types = λ d z at. elim (put_or_before nat_cmp_total nat_cmp-IsAntisymmetric s.live s.next (new_datum ty) d z at) [
        | inl e ↦ subst (λ (x : Datum). IsDataType x.ty) e.1 shallow
        | inr old ↦ typed.nested.types d z old
      ];
      members = λ d m x y at_d at_m some. elim (put_or_before nat_cmp_total nat_cmp-IsAntisymmetric s.live s.next (new_datum ty) d x at_d) [
        | inl e ↦ let none : subscripts_in m x ≡ 0 = ap (subscripts_in m) (sym e.1) ∙ ap (count_of m) (no_members ty) in absurd (omega arith)
        | inr old ↦ elim (put_or_before nat_cmp_total nat_cmp-IsAntisymmetric s.live s.next (new_datum ty) m y at_m) [
          | inl e ↦
              let l : subscripts_in s.next x ≤ inside s.live s.next = subst (λ o. part (subscripts_in s.next) o ≤ inside s.live s.next) old (part-le-total nat_cmp nat_cmp_total nat_cmp-IsAntisymmetric (subscripts_in s.next) s.live d) in
              let more : 0 < subscripts_in s.next x = subst (λ n. 0 < subscripts_in n x) e.0 some in
              absurd (omega arith)
          | inr there ↦ typed.nested.members d m x y old there some
        ]
      ];
    };
    fresh = λ d z at. elim (put_or_before nat_cmp_total nat_cmp-IsAntisymmetric s.live s.next (new_datum ty) d z at) [
      | inl e ↦ let d_is = e.0 in omega arith
      | inr old ↦ let l = typed.fresh d z old in omega arith
    ];
  }

  new_held : (right : RightType) → right.ty ≡ ty → (is_closed_mode right.mode ≡ true → ⊥) → Holds (created s ty) right s.next
  new_held right same open_mode = record {
    given = omega arith;
    ty = λ x at. let x_is : new_datum ty ≡ x = same_Some (new_datum ty) x (sym (data_insert_same s.live s.next (new_datum ty)) ∙ at) in ap (λ (z : Datum). z.ty) (sym x_is) ∙ sym same;
    closed = λ x at c. absurd (open_mode c);
  }

module _ (p : Procedure) (typing : Typing) (c : Context) (r w : ℕ → ℕ) (fits : Fits typing c r w) (values : ValuesFit p.registers c.position.values) (long : length typing ≡ 16) where
  pub new_leaves : (write read : ℕ) (ty : NestedScalar) → write < 16 → read < 16 → IsDataType ty → AllYes (requires_data p.registers (on_data.New write read ty) typing) → Goes (data_instr (on_data.New write read ty) c) (Leaves p.registers (on_data.New write read ty) typing c r w)
  new_leaves write read ty l m shallow met =
      let id = c.store.next in
      let none = balanced_none c.store.live (λ d. over (read_by d) typing c.rights + r d) (λ d. over (write_by d) typing c.rights + w d) id fits.balanced (fresh_none c.store fits.store) in
      let wt = free_there typing write (omega arith) met.0 in
      let wr = empty_there c.store typing c.rights write fits.rights wt in
      let rt = free_there typing read (omega arith) met.1.0 in
      let rr = empty_there c.store typing c.rights read fits.rights rt in
      let differ : read ≢ write = λ e. eqb-false write read (not-true _ met.1.1.0) (sym e) in
      let rt₂ : slice_get (slice_set typing write (a_write ty)) read ≡ Some None = get_set_other typing write read (a_write ty) differ ∙ rt in
      let rr₂ : slice_get (slice_set c.rights write (Some id)) read ≡ Some None = get_set_other c.rights write read (Some id) differ ∙ rr in
      let unheld = none.0 in
      let others = created_undisturbed c.store ty fits.store shallow unheld in
      let sum_r : (e : ℕ) → over (read_by e) (slice_set (slice_set typing write (a_write ty)) read (a_read ty)) (slice_set (slice_set c.rights write (Some id)) read (Some id)) ≡ over (read_by e) typing c.rights + hits e id =
      λ e. let a : over (read_by e) (slice_set typing write (a_write ty)) (slice_set c.rights write (Some id)) + 0 ≡ over (read_by e) typing c.rights + 0 = over-set (read_by e) typing c.rights write None (a_write ty) None (Some id) wt wr in
      let b : over (read_by e) (slice_set (slice_set typing write (a_write ty)) read (a_read ty)) (slice_set (slice_set c.rights write (Some id)) read (Some id)) + 0 ≡ over (read_by e) (slice_set typing write (a_write ty)) (slice_set c.rights write (Some id)) + hits e id = over-set (read_by e) (slice_set typing write (a_write ty)) (slice_set c.rights write (Some id)) read None (a_read ty) None (Some id) rt₂ rr₂ in
      omega arith in
      let sum_w : (e : ℕ) → over (write_by e) (slice_set (slice_set typing write (a_write ty)) read (a_read ty)) (slice_set (slice_set c.rights write (Some id)) read (Some id)) ≡ over (write_by e) typing c.rights + hits e id =
      λ e. let a : over (write_by e) (slice_set typing write (a_write ty)) (slice_set c.rights write (Some id)) + 0 ≡ over (write_by e) typing c.rights + hits e id = over-set (write_by e) typing c.rights write None (a_write ty) None (Some id) wt wr in
      let b : over (write_by e) (slice_set (slice_set typing write (a_write ty)) read (a_read ty)) (slice_set (slice_set c.rights write (Some id)) read (Some id)) + 0 ≡ over (write_by e) (slice_set typing write (a_write ty)) (slice_set c.rights write (Some id)) + 0 = over-set (write_by e) (slice_set typing write (a_write ty)) (slice_set c.rights write (Some id)) read None (a_read ty) None (Some id) rt₂ rr₂ in
      omega arith in
      let one = hits_same id in
      let r_id = sum_r id in
      let w_id = sum_w id in
      goes_then (must_be_empty c.rights write) _ _ (ap (λ o. must (is_none (option_flatten o)) WrongRegister) wr)
      (goes_then (must_be_empty c.rights read) _ _ (ap (λ o. must (is_none (option_flatten o)) WrongRegister) rr)
      (goes_then (must (not (write == read)) WrongRegister) _ _ (ap (λ b. must b WrongRegister) met.1.1.0)
      (record {
        moves = moves_by Completed refl values;
        settles = record {
          others = others;
          fits = record {
            balanced = new_balanced c.store.live _ _ _ _ id (new_datum ty) (fresh_none c.store fits.store) fits.balanced (no_members ty)
                (λ d ne. let no_hit = hits_other d id (λ z. ne (sym z)) in (let s = sum_r d in omega arith, let s = sum_w d in omega arith)) (omega (arith, none.1)) (omega (arith, none.2)) (omega arith);
            writers = λ d z at. elim (put_or_before nat_cmp_total nat_cmp-IsAntisymmetric c.store.live id (new_datum ty) d z at) [
              | inl e ↦ subst (λ (x : Datum). HasWriters x.content x.writes) e.1 (new_writers ty)
              | inr old ↦ fits.writers d z old
            ];
            store = created_typed c.store ty fits.store shallow unheld;
            rights = rights_set (created c.store ty) (slice_set typing write (a_write ty)) (slice_set c.rights write (Some id)) read (a_read ty) (Some id)
                (rights_set (created c.store ty) typing c.rights write (a_write ty) (Some id) (rights_kept c.store (created c.store ty) typing c.rights (holds_undisturbed c.store (created c.store ty) others) fits.rights) (new_held c.store ty fits.store shallow unheld (record { mode = Write; ty = ty }) refl (λ q. cc)))
                (new_held c.store ty fits.store shallow unheld (record { mode = Ref; ty = ty }) refl (λ q. cc));
          };
        };
      })))
