-- After an instruction on data exactly the waiting parameters are named.
use Rattle.std.proofs.Common.{◌≡◌, ℕ, ◌+◌, ◌<◌, ◌==◌, true, false, not, ◌&&◌, [], Option, Some, None, refl, sym, ap, subst, ◌∙◌, arith, inl, inr}
use Rattle.tw_soundness.proofs.MachineNames.{AlreadySet, AreNamed, Cause, Contains, Content, Context, Data, DataInstr, Datum, EmptyRegister, FreedDatum, IsOfType, IsTypedStore, Maps, Members, NoWriteCount, Ok, Rules, Scalar, Set, Store, Subscript, Unset, UnsetDatum, Value, Values, WhereOk, WrongRegister, WrongType, after_insert, after_look, after_put, and_parts, at_next_instr, by_deep, cases_eq, changed, data_insert_other, data_insert_same, data_instr, datum_at, datum_of, entry_at, get, held, if_absent, insert, int_at, is_closed, is_container_by, is_element_of, is_map, is_map_of, is_of, is_plain_map, is_scalar, is_sums, is_unset, map_only, may_add, may_be_read, may_copy_write, may_drop_read, may_drop_write, may_insert, may_look, may_put, may_read_entry, may_read_members, may_read_subscripts_by, may_retrieve, may_store, member_at, must, must_be_empty, must_have_type, must_ok, must_then, ne_eqb, new_datum, not-true, notices_after, notices_of, of_type_at, ok_both, ok_or, ok_then, ok_there, one_read_more, one_write_less, one_write_more, read_dropped, right_at, same_Some, scalar_of, set_to, settled, store_after, subscribers_cleared, suits, suits_entry, suits_subscript, sum_with, there_then, value_at, value_put, with_entry, with_member, with_notices, with_store}
use Rattle.tw_types.specs.StoreCalls as store
use Rattle.tw_types.specs.declared.data_type.Scalar.TheVariants as scalar
use Rattle.tw_code.specs.declared.instr.DataInstr.TheVariants as on_data
use Rattle.tw_code.proofs.Losing.{IsKept, put_kept, settled_kept, within_kept}
use Rattle.tw_soundness.proofs.Named.{Wanted, IsFrom, named_follows, named_notified}

-- ---- one datum

kept_from : (o : Option Datum) (y : Datum) → IsKept o y → IsFrom o y
kept_from None y h = absurd h
kept_from (Some x) y h = h

unset_is_open : (x : Datum) → is_unset x.content ≡ true → is_closed x ≡ false
unset_is_open x e = at x.content e
  where
    at : (content : Content) → is_unset content ≡ true → is_closed (record x { content = content }) ≡ false
    at Unset e = refl
    at (Set v) e = cc
    at (Contains members) e = cc
    at (Maps values) e = cc

-- a container or a map by its type is one by its content
container_content : (x : Datum) → is_scalar x.ty ≡ false → IsOfType x.ty x.content → (P : Datum → Type 0) → ((members : Members) → P (record x { content = Contains members })) → ((values : Values) → P (record x { content = Maps values })) → P x
container_content x deep of P f g = at x.content of
  where
    at : (content : Content) → IsOfType x.ty content → P (record x { content = content })
    at Unset h = let z : true ≡ false = sym h ∙ deep in cc
    at (Set v) h = let z : true ≡ false = sym h.0 ∙ deep in cc
    at (Contains members) h = f members
    at (Maps values) h = g values

-- ---- the contexts that instructions leave

-- a write that is copied is one that somebody has
abbrev pub HasWriter : Context → DataInstr → Type 0
HasWriter c (on_data.CopyWrite to from) = (id : ℕ) (x : Datum) → right_at c.rights from ≡ Some id → get c.store.live id ≡ Some x → 0 < x.writes
HasWriter c i = Unit {0}

module _ (rules : Rules) where
  -- if each datum that a parameter waits for is there, exactly the waiting parameters are named
  abbrev pub StaysNamed : Context → Type 0
  StaysNamed c = ((d : ℕ) → Wanted rules d → (y : Datum) × (get c.store.live d ≡ Some y)) → AreNamed c.store.live c.notices rules

  module _ (c : Context) (h : AreNamed c.store.live c.notices rules) (was : (d : ℕ) → Wanted rules d → (x : Datum) × (get c.store.live d ≡ Some x)) (typed : IsTypedStore c.store) where
    -- if each datum is a change of an earlier one, or is new
    pub stays_from : (k : Context) → k.notices ≡ c.notices → ((d : ℕ) (y : Datum) → get k.store.live d ≡ Some y → IsFrom (get c.store.live d) y) → StaysNamed k
    stays_from k same from stays =
        let f = named_follows c.store.live k.store.live c.notices rules h (record { from = from; was = was; stays = stays }) in
        subst (λ s. AreNamed k.store.live s rules) (sym same) f

    pub stays_same : (k : Context) → k.notices ≡ c.notices → k.store ≡ c.store → StaysNamed k
    stays_same k same live stays = subst (λ (m : Data). AreNamed m k.notices rules) (sym (ap (λ (s : Store). s.live) live)) (subst (λ s. AreNamed c.store.live s rules) (sym same) h)

    new_from : (z : Datum) → z.subscribers ≡ [] → (d : ℕ) (y : Datum) → get (insert c.store.live c.store.next z) d ≡ Some y → IsFrom (get c.store.live d) y
    new_from z silent d y e = elim (cases_eq d c.store.next) [
      | inl same ↦
          let y_is : z ≡ y = same_Some z y (sym (data_insert_same c.store.live c.store.next z) ∙ ap (get (insert c.store.live c.store.next z)) (sym same) ∙ e) in
          subst (λ o. IsFrom o y) (sym (ap (get c.store.live) same ∙ none)) (ap (λ (w : Datum). w.subscribers) (sym y_is) ∙ silent)
      | inr other ↦ subst (λ o. IsFrom o y) (sym (sym (data_insert_other c.store.live c.store.next z d other) ∙ e)) (refl, refl)
    ]
      where
        none : get c.store.live c.store.next ≡ None
        none = at (get c.store.live c.store.next) refl
          where
            at : (o : Option Datum) → get c.store.live c.store.next ≡ o → o ≡ None
            at None e = refl
            at (Some x) e = let l = typed.fresh c.store.next x e in absurd (omega arith)

    changed_from : (id : ℕ) (f : Datum → Datum) → ((x : Datum) → get c.store.live id ≡ Some x → ((f x).subscribers ≡ x.subscribers) × (is_closed (f x) ≡ is_closed x))
        → (d : ℕ) (y : Datum) → get (changed c.store id f).live d ≡ Some y → IsFrom (get c.store.live d) y
    changed_from id f alike d y = at (get c.store.live id) refl
      where
        at : (o : Option Datum) → get c.store.live id ≡ o → get (changed c.store id f).live d ≡ Some y → IsFrom (get c.store.live d) y
        at None e g = let there : get c.store.live d ≡ Some y = rw e at g in subst (λ u. IsFrom u y) (sym there) (refl, refl)
        at (Some x) e g =
            let there : get (insert c.store.live id (f x)) d ≡ Some y = rw e at g in
            kept_from (get c.store.live d) y (put_kept c.store.live id x (f x) d y e (alike x e) there)

    -- a datum that closes, or is freed
    left_stays : (id : ℕ) (f : Datum → Datum) (x : Datum) (k : Context) → get c.store.live id ≡ Some x → (f x).subscribers ≡ x.subscribers → (is_closed x ≡ true → is_closed (f x) ≡ true)
        → k.store ≡ store_after c.store id f → k.notices ≡ with_notices c.notices (notices_after c.store id f) → StaysNamed k
    left_stays id f x k is same closed store_is notices_are stays =
        let live_is : k.store.live ≡ settled c.store.live id (subscribers_cleared (f x)) = ap (λ (s : Store). s.live) store_is ∙ left_is in
        let notified_named = named_notified c.store.live c.notices rules id x (f x) h is same closed in
        let done = named_follows (insert c.store.live id (subscribers_cleared (f x))) (settled c.store.live id (subscribers_cleared (f x))) (with_notices c.notices (notices_of id (f x))) rules notified_named (record {
          from = λ d y e. kept_from (get (insert c.store.live id (subscribers_cleared (f x))) d) y (settled_kept c.store.live id (subscribers_cleared (f x)) d y e);
          was = λ d w. elim (cases_eq d id) [
            | inl e ↦ (subscribers_cleared (f x), ap (get (insert c.store.live id (subscribers_cleared (f x)))) e ∙ data_insert_same c.store.live id (subscribers_cleared (f x)))
            | inr e ↦ let old = was d w in (old.0, data_insert_other c.store.live id (subscribers_cleared (f x)) d e ∙ old.1)
          ];
          stays = λ d w. let now = stays d w in (now.0, ap (λ (m : Data). get m d) (sym live_is) ∙ now.1);
        }) in
        subst (λ (m : Data). AreNamed m k.notices rules) (sym live_is) (subst (λ s. AreNamed (settled c.store.live id (subscribers_cleared (f x))) s rules) (sym (notices_are ∙ heard_is)) done)
      where
        left_is : (store_after c.store id f).live ≡ settled c.store.live id (subscribers_cleared (f x))
        left_is = rw is refl

        heard_is : with_notices c.notices (notices_after c.store id f) ≡ with_notices c.notices (notices_of id (f x))
        heard_is = rw is refl

    dropped_from : (id d : ℕ) (y : Datum) → get (read_dropped c.store id).live d ≡ Some y → IsFrom (get c.store.live d) y
    dropped_from id d y e = kept_from (get c.store.live d) y (within_kept 3 c.store.live id d y e)

    inserted_stays : (id : ℕ) (subscript : Subscript) (member register skip : ℕ) (o : Option ℕ) → ((x : Datum) → get c.store.live id ≡ Some x → (is_closed (with_member subscript member x) ≡ is_closed x)) → StaysNamed (after_insert c id subscript member register skip o)
    inserted_stays id subscript member register skip None alike = stays_from (after_insert c id subscript member register skip None) refl (changed_from id (with_member subscript member) (λ x e. (refl, alike x e)))
    inserted_stays id subscript member register skip (Some other) alike = stays_same (after_insert c id subscript member register skip (Some other)) refl refl

    looked_stays : (register skip : ℕ) (o : Option ℕ) → StaysNamed (after_look c register skip o)
    looked_stays register skip None = stays_same (after_look c register skip None) refl refl
    looked_stays register skip (Some member) = stays_from (after_look c register skip (Some member)) refl (changed_from member one_read_more (λ x e. (refl, refl)))

    -- facts on a datum that follow from a check of the store
    store_open : (x : Value) (d : Datum) → may_store x (Some d) ≡ Ok tt → is_closed d ≡ false
    store_open x d e =
        let of = must_then (is_of x d.ty) WrongType _ tt e in
        let unset = must_then (is_unset d.content) AlreadySet _ tt of.1 in
        unset_is_open d unset.0

    drop_open : (d : Datum) → IsOfType d.ty d.content → may_drop_write (Some d) ≡ Ok tt → is_closed d ≡ false
    drop_open d of e =
        let container = must_then (not (is_scalar d.ty)) WrongType _ tt e in
        let some = must_ok (not (d.writes == 0)) NoWriteCount container.1 in
        container_content d (not-true _ container.0) of (λ w. not (w.writes == 0) ≡ true → is_closed w ≡ false) (λ members n. not-true _ n) (λ values n. not-true _ n) some

    copied_alike : (d : Datum) → 0 < d.writes → IsOfType d.ty d.content → may_copy_write (Some d) ≡ Ok tt → is_closed (one_write_more d) ≡ is_closed d
    copied_alike d some of e =
        let container = must_ok (not (is_scalar d.ty)) WrongType e in
        container_content d (not-true _ container) of (λ w. 0 < w.writes → is_closed (one_write_more w) ≡ is_closed w) (λ members n. ne_eqb (d.writes + 1) 0 (λ z. omega arith) ∙ sym (ne_eqb d.writes 0 (λ z. omega arith))) (λ values n. ne_eqb (d.writes + 1) 0 (λ z. omega arith) ∙ sym (ne_eqb d.writes 0 (λ z. omega arith))) some

    member_alike : (by : Scalar) (d e : Datum) (subscript : Subscript) (member : ℕ) → IsOfType d.ty d.content → may_insert by (Some d) (Some e) ≡ Ok tt → is_closed (with_member subscript member d) ≡ is_closed d
    member_alike by d e subscript member of m =
        let fits = must_then (is_container_by by d.ty && is_element_of e.ty d.ty) WrongType _ tt m in
        let deep = by_deep by d.ty (and_parts (is_container_by by d.ty) (is_element_of e.ty d.ty) fits.0).0 in
        container_content d deep of (λ w. is_closed (with_member subscript member w) ≡ is_closed w) (λ members. refl) (λ values. refl)

    map_alike : (at x : Value) (d : Datum) → IsOfType d.ty d.content → is_map d.ty ≡ true → is_closed (with_entry at x d) ≡ is_closed d
    map_alike at x d of mapped = container_content d (map_only d.ty mapped).0 of (λ w. is_closed (with_entry at x w) ≡ is_closed w) (λ members. refl) (λ values. refl)

    entry_alike : (at x y : Value) (d : Datum) → IsOfType d.ty d.content → may_put at y (Some d) ≡ Ok tt → is_closed (with_entry at x d) ≡ is_closed d
    entry_alike at x y d of m =
        let fits = must_then (is_plain_map d.ty && is_map_of (scalar_of at) (scalar_of y) d.ty) WrongType _ tt m in
        map_alike at x d of (and_parts (is_map d.ty) _ (and_parts (is_plain_map d.ty) _ fits.0).0).0

    sum_alike : (at x : Value) (d : Datum) → IsOfType d.ty d.content → may_add at (Some d) ≡ Ok tt → is_closed (with_entry at x d) ≡ is_closed d
    sum_alike at x d of m =
        let fits = must_then (is_sums d.ty && is_map_of (scalar_of at) scalar.Int d.ty) WrongType _ tt m in
        map_alike at x d of (and_parts (is_map d.ty) _ (and_parts (is_sums d.ty) _ fits.0).0).0

    put_stays : (id : ℕ) (at : Subscript) (skip : ℕ) (y : Value) (o : Option Value) → may_put at y (datum_of c id) ≡ Ok tt → StaysNamed (after_put c id at skip o)
    put_stays id at skip y None m = stays_same (after_put c id at skip None) refl refl
    put_stays id at skip y (Some x) m =
        let d = there_then (datum_of c id) FreedDatum _ tt m in
        stays_from (after_put c id at skip (Some x)) refl (changed_from id (with_entry at x) (λ z is.
        let z_is : d.0 ≡ z = same_Some d.0 z (sym d.1 ∙ is) in
        (refl, subst (λ (v : Datum). is_closed (with_entry at x v) ≡ is_closed v) z_is (entry_alike at x y d.0 (typed.contents id d.0 d.1) d.2))))

    went_put : (id : ℕ) (at : Subscript) (skip : ℕ) (y : Value) (o : Option Value) → may_put at y (datum_of c id) ≡ Ok tt → WhereOk {E = Cause} (Ok (after_put c id at skip o)) StaysNamed
    went_put id at skip y o m = record { is = put_stays id at skip y o m }

    went_added : (id : ℕ) (at : Subscript) (x : Value) → may_add at (datum_of c id) ≡ Ok tt → WhereOk {E = Cause} (Ok (at_next_instr (with_store c (value_put c.store id at x)))) StaysNamed
    went_added id at x m =
        let d = there_then (datum_of c id) FreedDatum _ tt m in
        record {
          is = stays_from (at_next_instr (with_store c (value_put c.store id at x))) refl (changed_from id (with_entry at x) (λ z is.
              let z_is : d.0 ≡ z = same_Some d.0 z (sym d.1 ∙ is) in
              (refl, subst (λ (v : Datum). is_closed (with_entry at x v) ≡ is_closed v) z_is (sum_alike at x d.0 (typed.contents id d.0 d.1) d.2))));
        }

    went_same : (k : Context) → k.notices ≡ c.notices → k.store ≡ c.store → WhereOk {E = Cause} (Ok k) StaysNamed
    went_same k a b = record { is = stays_same k a b }

    went_from : (k : Context) → k.notices ≡ c.notices → ((d : ℕ) (y : Datum) → get k.store.live d ≡ Some y → IsFrom (get c.store.live d) y) → WhereOk {E = Cause} (Ok k) StaysNamed
    went_from k a b = record { is = stays_from k a b }

    went_left : (id : ℕ) (f : Datum → Datum) (x : Datum) (k : Context) → get c.store.live id ≡ Some x → (f x).subscribers ≡ x.subscribers → (is_closed x ≡ true → is_closed (f x) ≡ true)
        → k.store ≡ store_after c.store id f → k.notices ≡ with_notices c.notices (notices_after c.store id f) → WhereOk {E = Cause} (Ok k) StaysNamed
    went_left id f x k a b d e g = record { is = left_stays id f x k a b d e g }

    went_inserted : (id : ℕ) (subscript : Subscript) (member register skip : ℕ) (o : Option ℕ) → ((x : Datum) → get c.store.live id ≡ Some x → (is_closed (with_member subscript member x) ≡ is_closed x)) → WhereOk {E = Cause} (Ok (after_insert c id subscript member register skip o)) StaysNamed
    went_inserted id subscript member register skip o a = record { is = inserted_stays id subscript member register skip o a }

    went_looked : (register skip : ℕ) (o : Option ℕ) → WhereOk {E = Cause} (Ok (after_look c register skip o)) StaysNamed
    went_looked register skip o = record { is = looked_stays register skip o }

    pub data_named : (i : DataInstr) → HasWriter c i → WhereOk (data_instr i c) StaysNamed
    data_named (on_data.New write read ty) w = ok_then (must_be_empty c.rights write) (λ _. ok_then (must_be_empty c.rights read) (λ _. ok_then (must (not (write == read)) WrongRegister) (λ _. went_from _ refl (new_from (new_datum ty) refl))))
    data_named (on_data.Store datum from) w =
        ok_both (value_at c.position from) (λ x _.
        ok_then (must (suits x (datum_at c datum)) WrongRegister) (λ _.
        ok_both (held c.rights datum) (λ id _.
        ok_then (may_store x (datum_of c id)) (λ m.
        let d = there_then (datum_of c id) FreedDatum _ tt m in
        went_left id (set_to x) d.0 _ d.1 refl (λ t. let o = store_open x d.0 d.2 in let z : true ≡ false = sym t ∙ o in cc) refl refl))))
    data_named (on_data.Get to datum) w =
        ok_both (value_at c.position to) (λ old _.
        ok_then (must (suits old (datum_at c datum)) WrongRegister) (λ _.
        ok_both (held c.rights datum) (λ id _.
        ok_then (may_retrieve (datum_of c id)) (λ m.
        ok_both (ok_or (store.value_at c.store id) UnsetDatum) (λ x _. went_same _ refl refl)))))
    data_named (on_data.Insert by container subscript member skip) w =
        ok_both (of_type_at c.position subscript by) (λ at _.
        ok_both (held c.rights container) (λ id _.
        ok_both (held c.rights member) (λ inner _.
        ok_then (may_insert by (datum_of c id) (datum_of c inner)) (λ m.
        let d = there_then (datum_of c id) FreedDatum _ tt m in
        let e = there_then (datum_of c inner) FreedDatum _ tt d.2 in
        went_inserted id at inner member skip (member_at c.store id at) (λ x is.
        let x_is : d.0 ≡ x = same_Some d.0 x (sym d.1 ∙ is) in
        subst (λ y. is_closed (with_member at inner y) ≡ is_closed y) x_is (member_alike by d.0 e.0 at inner (typed.contents id d.0 d.1) e.2))))))
    data_named (on_data.InsertValue register subscript from skip) w =
        ok_both (value_at c.position subscript) (λ at _.
        ok_both (value_at c.position from) (λ x _.
        ok_then (must (suits_entry at x (datum_at c register)) WrongRegister) (λ _.
        ok_both (held c.rights register) (λ id _.
        ok_then (may_put at x (datum_of c id)) (λ m. went_put id at skip x (if_absent (entry_at c.store id at) x) m)))))
    data_named (on_data.AddValue register subscript from) w =
        ok_both (value_at c.position subscript) (λ at _.
        ok_both (int_at c.position from) (λ n _.
        ok_then (must (suits_subscript at (datum_at c register)) WrongRegister) (λ _.
        ok_both (held c.rights register) (λ id _.
        ok_then (may_add at (datum_of c id)) (λ m. went_added id at (sum_with (entry_at c.store id at) n) m)))))
    data_named (on_data.GetValue to register subscript skip) w =
        ok_both (value_at c.position to) (λ old _.
        ok_both (value_at c.position subscript) (λ at _.
        ok_then (must (suits_entry at old (datum_at c register)) WrongRegister) (λ _.
        ok_both (held c.rights register) (λ id _.
        ok_then (may_read_entry at (scalar_of old) (datum_of c id)) (λ m. went_same _ refl refl)))))
    data_named (on_data.Look by member container subscript skip) w =
        ok_both (of_type_at c.position subscript by) (λ at _.
        ok_then (must_be_empty c.rights member) (λ _.
        ok_both (held c.rights container) (λ id _.
        ok_then (may_look c.store id at) (λ m. went_looked member skip (member_at c.store id at)))))
    data_named (on_data.Size to container) w =
        ok_then (must_have_type c.position to scalar.Int) (λ _. ok_both (held c.rights container) (λ id _. ok_then (may_read_members (datum_of c id)) (λ m. went_same _ refl refl)))
    data_named (on_data.SubscriptAt by to container index skip) w =
        ok_then (must_have_type c.position to by) (λ _. ok_both (int_at c.position index) (λ count _. ok_both (held c.rights container) (λ id _. ok_then (may_read_subscripts_by by (datum_of c id)) (λ m. went_same _ refl refl))))
    data_named (on_data.CopyRead to from) w =
        ok_then (must_be_empty c.rights to) (λ _. ok_both (held c.rights from) (λ id _. ok_then (may_be_read (datum_of c id)) (λ m. went_from _ refl (changed_from id one_read_more (λ x e. (refl, refl))))))
    data_named (on_data.CopyWrite to from) w =
        ok_then (must_be_empty c.rights to) (λ _. ok_there (right_at c.rights from) EmptyRegister (λ id at. ok_then (may_copy_write (datum_of c id)) (λ m.
        let d = there_then (datum_of c id) FreedDatum _ tt m in
        went_from _ refl (changed_from id one_write_more (λ x is.
        let x_is : d.0 ≡ x = same_Some d.0 x (sym d.1 ∙ is) in
        (refl, subst (λ y. is_closed (one_write_more y) ≡ is_closed y) x_is (copied_alike d.0 (w id d.0 at d.1) (typed.contents id d.0 d.1) d.2)))))))
    data_named (on_data.DropRead right) w =
        ok_both (held c.rights right) (λ id _. ok_then (may_drop_read (datum_of c id)) (λ m. went_from _ refl (dropped_from id)))
    data_named (on_data.DropWrite right) w =
        ok_both (held c.rights right) (λ id _. ok_then (may_drop_write (datum_of c id)) (λ m.
        let d = there_then (datum_of c id) FreedDatum _ tt m in
        went_left id one_write_less d.0 _ d.1 refl (λ t. let o = drop_open d.0 (typed.contents id d.0 d.1) d.2 in let z : true ≡ false = sym t ∙ o in cc) refl refl))
