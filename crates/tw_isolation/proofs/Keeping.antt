-- Stores whose other data keep their contents.
use Rattle.std.proofs.Common.{◌≡◌, ◌<◌, ◌-◌, ◌==◌, ◌⊎◌, inl, inr, ℕ, zero, suc, Bool, true, false, not, if◌then◌else◌, List, [], ◌∷◌, fold, Option, Some, None, refl, sym, ap, subst, ◌∙◌, arith}
use Rattle.std.specs.Prelude.{Ok}
use Rattle.std.specs.Option.{ok_or}
use Rattle.std.specs.Cmp.{nat_cmp_total}
use Rattle.std.specs.FinMap.{get, insert, remove, nat_cmp-IsAntisymmetric}
use Rattle.tw_types.specs.declared.cause.Cause.TheVariants.{EmptyRegister, UnsetDatum, WrongRegister}
use Rattle.tw_types.specs.declared.data_type.Scalar.TheVariants as scalar
use Rattle.tw_types.specs.Nesting.{NestedScalar}
use Rattle.tw_types.specs.Result.{must}
use Rattle.tw_types.specs.Store.{Content, Data, Datum, Store, drop_read_within, is_closed, is_unheld, members_of, new_datum, read_taken_by, settled_by, subscribers_cleared}
use Rattle.tw_types.specs.StoreCalls as store
use Rattle.tw_types.specs.StoreCalls.{changed, created, entry_at, inserted, member_at, one_read_more, one_write_less, one_write_more, read_copied, read_dropped, set_to, store_after, stored, value_put, with_entry, with_member, write_copied, write_dropped}
use Rattle.tw_types.specs.StoreChecks.{may_add, may_be_read, may_copy_write, may_drop_read, may_drop_write, may_insert, may_look, may_put, may_read_entry, may_read_members, may_read_subscripts_by, may_retrieve, may_store}
use Rattle.tw_types.specs.Value.{scalar_of}
use Rattle.tw_types.specs.ValueOrder.{Subscript}
use Rattle.tw_types.specs.declared.value.Value.{Value}
use Rattle.tw_types.proofs.Freeing.{data_remove_other, data_remove_same}
use Rattle.tw_types.proofs.Numbers.{same_or_apart}
use Rattle.tw_types.proofs.Parts.{put_or_before}
use Rattle.tw_types.proofs.Results.{WhereOk, ok_both, ok_then}
use Rattle.tw_code.specs.declared.instr.DataInstr.{DataInstr}
use Rattle.tw_code.specs.declared.instr.DataInstr.TheVariants as on_data
use Rattle.tw_code.specs.machine.Data.{Context, after_insert, after_look, after_put, data_instr, datum_at, datum_of, if_absent, suits, suits_entry, suits_subscript, sum_with}
use Rattle.tw_code.specs.machine.Position.{int_at, must_have_type, of_type_at, value_at}
use Rattle.tw_code.specs.machine.Rights.{Rights, held, must_be_empty, right_at}
use Rattle.tw_isolation.specs.Isolation.{changed_register}

-- ---- one change after the other

chain : (a b c : Content) (Q : Type 0) → (a ≡ b) ⊎ Q → (b ≡ c) ⊎ Q → (a ≡ c) ⊎ Q
chain a b c Q (inl first) (inl second) = inl (first ∙ second)
chain a b c Q (inl first) (inr q) = inr q
chain a b c Q (inr q) second = inr q

module _ (P : ℕ → Type 0) where
  -- the data that are left were there, with their types, and with their contents unless P holds of them
  abbrev pub Later : Data → Data → Type 0
  Later old new = (id : ℕ) (y : Datum) → get new id ≡ Some y → (x : Datum) × (get old id ≡ Some x) × (y.ty ≡ x.ty) × ((y.content ≡ x.content) ⊎ P id)

  pub same : (m : Data) → Later m m
  same m id y at = (y, at, refl, inl refl)

  next : (a b c : Data) → Later a b → Later b c → Later a c
  next a b c first second id z at =
      let y = second id z at in
      let x = first id y.0 y.1 in
      (x.0, x.1, y.2 ∙ x.2, chain z.content y.0.content x.0.content (P id) y.3 x.3)

  put : (m : Data) (id : ℕ) (x y : Datum) → get m id ≡ Some x → y.ty ≡ x.ty → (y.content ≡ x.content) ⊎ P id → Later m (insert m id y)
  put m id x y is ty content k z at = elim (put_or_before nat_cmp_total nat_cmp-IsAntisymmetric m id y k z at) [
    | inl here ↦
        let z_is : z ≡ y = sym here.1 in
        let content_is : (z.content ≡ x.content) ⊎ P id = chain z.content y.content x.content (P id) (inl (ap (λ (d : Datum). d.content) z_is)) content in
        (x, subst (λ n. get m n ≡ Some x) (sym here.0) is, ap (λ (d : Datum). d.ty) z_is ∙ ty, subst (λ n. (z.content ≡ x.content) ⊎ P n) (sym here.0) content_is)
    | inr before ↦ (z, before, refl, inl refl)
  ]

  removed : (m : Data) (id : ℕ) → Later m (remove m id)
  removed m id k y at = elim (same_or_apart k id) [
    | inl here ↦ let none : None ≡ Some y = sym (subst (λ n. get (remove m id) n ≡ None) (sym here) (data_remove_same m id)) ∙ at in absurd (cc)
    | inr other ↦ (y, sym (data_remove_other m id k other) ∙ at, refl, inl refl)
  ]

  -- ---- freeing

  all_dropped : (drop : Data → ℕ → Data) → ((m : Data) (id : ℕ) → Later m (drop m id)) → (ids : List ℕ) (m : Data) → Later m (fold drop m ids)
  all_dropped drop drops [] m = same m
  all_dropped drop drops (id ∷ ids) m = next m (drop m id) (fold drop (drop m id) ids) (drops m id) (all_dropped drop drops ids (drop m id))

  settles : (drop : Data → ℕ → Data) → ((m : Data) (id : ℕ) → Later m (drop m id)) → (m : Data) (id : ℕ) (x y : Datum) → get m id ≡ Some x → y.ty ≡ x.ty → (y.content ≡ x.content) ⊎ P id
      → Later m (settled_by drop m id y)
  settles drop drops m id x y is ty content = by (is_unheld y)
    where
      by : (b : Bool) → Later m (if b then fold drop (remove m id) (members_of y.content) else insert m id y)
      by true = next m (remove m id) (fold drop (remove m id) (members_of y.content)) (removed m id) (all_dropped drop drops (members_of y.content) (remove m id))
      by false = put m id x y is ty content

  taken : (drop : Data → ℕ → Data) → ((m : Data) (id : ℕ) → Later m (drop m id)) → (m : Data) (id : ℕ) (o : Option Datum) → get m id ≡ o → Later m (read_taken_by drop m id o)
  taken drop drops m id None at = same m
  taken drop drops m id (Some x) at = by (x.reads == 0)
    where
      by : (b : Bool) → Later m (if b then m else settled_by drop m id (record x { reads = x.reads - 1 }))
      by true = same m
      by false = settles drop drops m id x (record x { reads = x.reads - 1 }) at refl (inl refl)

  pub dropped : (depth : ℕ) (m : Data) (id : ℕ) → Later m (drop_read_within depth m id)
  dropped zero m id = taken (λ m _. m) (λ m id. same m) m id (get m id) refl
  dropped (suc depth) m id = taken (drop_read_within depth) (dropped depth) m id (get m id) refl

  -- ---- a datum changes

  abbrev KeepsType : (Datum → Datum) → Type 0
  KeepsType f = (x : Datum) → (f x).ty ≡ x.ty

  abbrev KeepsContent : ℕ → (Datum → Datum) → Type 0
  KeepsContent id f = (x : Datum) → ((f x).content ≡ x.content) ⊎ P id

  pub changed_later : (s : Store) (id : ℕ) (f : Datum → Datum) → KeepsType f → KeepsContent id f → Later s.live (changed s id f).live
  changed_later s id f ty content = by (get s.live id) refl
    where
      by : (o : Option Datum) → get s.live id ≡ o → Later s.live (changed s id f).live
      by None at = rw at (same s.live)
      by (Some x) at = rw at (put s.live id x (f x) at (ty x) (content x))

  cleared_ty : (x : Datum) → (subscribers_cleared x).ty ≡ x.ty
  cleared_ty x = by (is_closed x)
    where
      by : (b : Bool) → (if b then record x { subscribers = [] } else x).ty ≡ x.ty
      by true = refl
      by false = refl

  cleared_content : (x : Datum) → (subscribers_cleared x).content ≡ x.content
  cleared_content x = by (is_closed x)
    where
      by : (b : Bool) → (if b then record x { subscribers = [] } else x).content ≡ x.content
      by true = refl
      by false = refl

  pub after_later : (s : Store) (id : ℕ) (f : Datum → Datum) → KeepsType f → KeepsContent id f → Later s.live (store_after s id f).live
  after_later s id f ty content = by (get s.live id) refl
    where
      by : (o : Option Datum) → get s.live id ≡ o → Later s.live (store_after s id f).live
      by None at = rw at (same s.live)
      by (Some x) at = rw at (settles (drop_read_within 2) (dropped 2) s.live id x (subscribers_cleared (f x)) at (cleared_ty (f x) ∙ ty x)
          (chain (subscribers_cleared (f x)).content (f x).content x.content (P id) (inl (cleared_content (f x))) (content x)))

  -- the data of a store that were made before
  abbrev pub Lives : Store → Store → Type 0
  Lives s t = (id : ℕ) (y : Datum) → id < s.next → get t.live id ≡ Some y → (x : Datum) × (get s.live id ≡ Some x) × (y.ty ≡ x.ty) × ((y.content ≡ x.content) ⊎ P id)

  pub lives : (s t : Store) → Later s.live t.live → Lives s t
  lives s t later id y low at = later id y at

  created_lives : (s : Store) (ty : NestedScalar) → Lives s (created s ty)
  created_lives s ty id y low at = elim (put_or_before nat_cmp_total nat_cmp-IsAntisymmetric s.live s.next (new_datum ty) id y at) [
    | inl here ↦ let same : id ≡ s.next = here.0 in absurd (omega arith)
    | inr before ↦ (y, before, refl, inl refl)
  ]

-- ---- the instructions on data

found : (rights : Rights) (register id : ℕ) → held rights register ≡ Ok id → right_at rights register ≡ Some id
found rights register id is = by (right_at rights register) is
  where
    by : (o : Option ℕ) → ok_or o EmptyRegister ≡ Ok id → o ≡ Some id
    by None e = cc
    by (Some other) e = let same : other ≡ id = cc in ap (λ (n : ℕ). Some n) same

module _ (c : Context) (P : ℕ → Type 0) where
  -- P holds of the datum whose content the instruction changes
  abbrev IsOfChanged : DataInstr → Type 0
  IsOfChanged i = (register id : ℕ) → changed_register i ≡ Some register → right_at c.rights register ≡ Some id → P id

  insert_lives : (id : ℕ) → P id → (at : Subscript) (member register skip : ℕ) (there : Option ℕ) → Lives P c.store (after_insert c id at member register skip there).store
  insert_lives id mine at member register skip None = lives P c.store (inserted c.store id at member) (changed_later P c.store id (with_member at member) (λ x. refl) (λ x. inr mine))
  insert_lives id mine at member register skip (Some other) = lives P c.store c.store (same P c.store.live)

  look_lives : (register skip : ℕ) (there : Option ℕ) → Lives P c.store (after_look c register skip there).store
  look_lives register skip None = lives P c.store c.store (same P c.store.live)
  look_lives register skip (Some member) = lives P c.store (read_copied c.store member) (changed_later P c.store member one_read_more (λ x. refl) (λ x. inl refl))

  entry_lives : (id : ℕ) → P id → (at : Subscript) (skip : ℕ) (x : Option Value) → Lives P c.store (after_put c id at skip x).store
  entry_lives id mine at skip None = lives P c.store c.store (same P c.store.live)
  entry_lives id mine at skip (Some x) = lives P c.store (value_put c.store id at x) (changed_later P c.store id (with_entry at x) (λ x. refl) (λ x. inr mine))

  unchanged : Lives P c.store c.store
  unchanged = lives P c.store c.store (same P c.store.live)

  -- one line for each instruction
  pub data_lives : (i : DataInstr) → IsOfChanged i → WhereOk (data_instr i c) (λ e. Lives P c.store e.store)
  data_lives (on_data.New write read ty) of_changed =
      ok_then (must_be_empty c.rights write) (λ _. ok_then (must_be_empty c.rights read) (λ _. ok_then (must (not (write == read)) WrongRegister) (λ _. record { is = created_lives P c.store ty })))
  data_lives (on_data.Store datum from) of_changed =
      ok_both (value_at c.position from) (λ x _. ok_then (must (suits x (datum_at c datum)) WrongRegister) (λ _. ok_both (held c.rights datum) (λ id h. ok_then (may_store x (datum_of c id)) (λ _.
      record { is = lives P c.store (stored c.store id x) (after_later P c.store id (set_to x) (λ x. refl) (λ x. inr (of_changed datum id refl (found c.rights datum id h)))) }))))
  data_lives (on_data.Get to datum) of_changed =
      ok_both (value_at c.position to) (λ old _. ok_then (must (suits old (datum_at c datum)) WrongRegister) (λ _. ok_both (held c.rights datum) (λ id _. ok_then (may_retrieve (datum_of c id)) (λ _. ok_both (ok_or (store.value_at c.store id) UnsetDatum) (λ x _. record { is = unchanged })))))
  data_lives (on_data.Insert by container subscript member skip) of_changed =
      ok_both (of_type_at c.position subscript by) (λ at _. ok_both (held c.rights container) (λ id h. ok_both (held c.rights member) (λ inner _. ok_then (may_insert by (datum_of c id) (datum_of c inner)) (λ _.
      record { is = insert_lives id (of_changed container id refl (found c.rights container id h)) at inner member skip (member_at c.store id at) }))))
  data_lives (on_data.Look by member container subscript skip) of_changed =
      ok_both (of_type_at c.position subscript by) (λ at _. ok_then (must_be_empty c.rights member) (λ _. ok_both (held c.rights container) (λ id _. ok_then (may_look c.store id at) (λ _. record { is = look_lives member skip (member_at c.store id at) }))))
  data_lives (on_data.Size to container) of_changed =
      ok_then (must_have_type c.position to scalar.Int) (λ _. ok_both (held c.rights container) (λ id _. ok_then (may_read_members (datum_of c id)) (λ _. record { is = unchanged })))
  data_lives (on_data.SubscriptAt by to container index skip) of_changed =
      ok_then (must_have_type c.position to by) (λ _. ok_both (int_at c.position index) (λ count _. ok_both (held c.rights container) (λ id _. ok_then (may_read_subscripts_by by (datum_of c id)) (λ _. record { is = unchanged }))))
  data_lives (on_data.InsertValue register subscript from skip) of_changed =
      ok_both (value_at c.position subscript) (λ at _. ok_both (value_at c.position from) (λ x _. ok_then (must (suits_entry at x (datum_at c register)) WrongRegister) (λ _. ok_both (held c.rights register) (λ id h. ok_then (may_put at x (datum_of c id)) (λ _.
      record { is = entry_lives id (of_changed register id refl (found c.rights register id h)) at skip (if_absent (entry_at c.store id at) x) })))))
  data_lives (on_data.AddValue register subscript from) of_changed =
      ok_both (value_at c.position subscript) (λ at _. ok_both (int_at c.position from) (λ n _. ok_then (must (suits_subscript at (datum_at c register)) WrongRegister) (λ _. ok_both (held c.rights register) (λ id h. ok_then (may_add at (datum_of c id)) (λ _.
      record { is = lives P c.store (value_put c.store id at (sum_with (entry_at c.store id at) n)) (changed_later P c.store id (with_entry at (sum_with (entry_at c.store id at) n)) (λ x. refl) (λ x. inr (of_changed register id refl (found c.rights register id h)))) })))))
  data_lives (on_data.GetValue to register subscript skip) of_changed =
      ok_both (value_at c.position to) (λ old _. ok_both (value_at c.position subscript) (λ at _. ok_then (must (suits_entry at old (datum_at c register)) WrongRegister) (λ _. ok_both (held c.rights register) (λ id _. ok_then (may_read_entry at (scalar_of old) (datum_of c id)) (λ _. record { is = unchanged })))))
  data_lives (on_data.CopyRead to from) of_changed =
      ok_then (must_be_empty c.rights to) (λ _. ok_both (held c.rights from) (λ id _. ok_then (may_be_read (datum_of c id)) (λ _. record { is = lives P c.store (read_copied c.store id) (changed_later P c.store id one_read_more (λ x. refl) (λ x. inl refl)) })))
  data_lives (on_data.CopyWrite to from) of_changed =
      ok_then (must_be_empty c.rights to) (λ _. ok_both (held c.rights from) (λ id _. ok_then (may_copy_write (datum_of c id)) (λ _. record { is = lives P c.store (write_copied c.store id) (changed_later P c.store id one_write_more (λ x. refl) (λ x. inl refl)) })))
  data_lives (on_data.DropRead right) of_changed =
      ok_both (held c.rights right) (λ id _. ok_then (may_drop_read (datum_of c id)) (λ _. record { is = lives P c.store (read_dropped c.store id) (dropped P 3 c.store.live id) }))
  data_lives (on_data.DropWrite right) of_changed =
      ok_both (held c.rights right) (λ id _. ok_then (may_drop_write (datum_of c id)) (λ _. record { is = lives P c.store (write_dropped c.store id) (after_later P c.store id one_write_less (λ x. refl) (λ x. inl refl)) }))
