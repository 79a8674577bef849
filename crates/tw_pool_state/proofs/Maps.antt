-- MINS, MADD and MGET: their requirements hold, and they are executed.
use Rattle.tw_pool_state.proofs.PartNames.{Bor, Completed, Context, Datum, EmptyRegister, FrameView, FreedDatum, IsDone, IsHere, IsNow, IsTextAt, IsValueAbsent, MayDo, MaySet, None, Notices, Ok, Option, Position, Right, Served, Skipped, Some, Subscript, TakesValue, Value, WrongRegister, WrongType, [], add_value_requires, after_put, and_parts, ap, at_goal, at_next_place, bare_file, bare_frame, data_instr, datum_at, entries_in, entry_at, false, first_so, get, get_value_requires, if_absent, inl, insert_value_requires, int_at, is_closed_mode, is_map, is_map_by, is_map_of, is_plain_map, is_some, is_sums, is_write, kind_at, length, may_add, may_put, may_read_entry, must_then, ok_after, ok_first, option_and_then, option_copied, option_map, reads_closed_map, refl, right_at, same_Some, same_scalar, same_scalars, scalar_of, sees, slice_get, slice_get_within, slice_index_or, suits_entry, suits_subscript, sum_with, sym, there_then, true, value_put, values_kinds, with_result, with_value, writes_map, writes_sums, ℕ, ℤ, ◌&&◌, ◌+◌, ◌<◌, ◌∙◌, ◌≡◌}
use Rattle.tw_types.specs.declared.data_type.Scalar.TheVariants as scalar
use Rattle.tw_types.specs.declared.value.Value.TheVariants as value
use Rattle.tw_rights.specs.declared.held.Held.TheVariants as held
use Rattle.tw_code.specs.declared.instr.DataInstr.TheVariants as on_data
use Rattle.tw_code.proofs.Computing.{sum_int}
use Rattle.tw_datum.proofs.Puts.{add_takes, put_takes}
use Rattle.tw_pool_state.proofs.Left.{moved_done, now_stays, same_ok}
use Rattle.tw_pool_state.proofs.Registers.{closed_reads, id_at, its_id, kind_passed, placed_at}
use Rattle.tw_pool_state.proofs.ValueRegisters.{int_is, int_same, text_there}

-- ---- a value that is looked up

pub there_copied : {A : Type 0} (r : Option (Bor A)) (o : Option A) → option_copied r ≡ o → is_some r ≡ true → (x : A) × (o ≡ Some x)
there_copied None o e some = cc
there_copied (Some x) o e some = (x.now, sym e)

pub none_copied : {A : Type 0} (r : Option (Bor A)) (o : Option A) → option_copied r ≡ o → is_some r ≡ false → o ≡ None
none_copied None o e none = sym e
none_copied (Some x) o e none = cc

-- ---- MINS

module _ (d subscript from skip : ℕ) (s : Served) (f : FrameView) (m : MayDo (on_data.InsertValue d subscript from skip) s f) where
  pub put_right : kind_at f.held d ≡ Some true
  put_right = kind_passed f.held m.typed.typing m.typed.kinds d true writes_map (λ t e. first_so (is_write t.mode) (is_plain_map t.ty) e) m.typed.asked.0

  asks : (at : Subscript) × (x : Value) × (id : ℕ) × (slice_get f.position.values subscript ≡ Some at) × (slice_get f.position.values from ≡ Some x) × (right_at (bare_file f.held) d ≡ Some id) × (may_put at x (get s.store.live id) ≡ Ok tt)
  asks = insert_value_requires (sees s m.ns f) m.left d subscript from skip m.goes

  pub put_inside : subscript < length f.position.values
  put_inside = slice_get_within f.position.values subscript asks.0 asks.3

  pub put_declared : from < length f.position.values
  put_declared = slice_get_within f.position.values from asks.1 asks.4

  module _ (right : Right) (at : slice_index_or f.held d None ≡ Some (held.Write right)) (n : Subscript) (n_is : slice_get f.position.values subscript ≡ Some n) where
    pub put_here : IsHere s right
    put_here = placed_at s.places f.held d (held.Write right) m.placed at

    its : (id : ℕ) → right_at (bare_file f.held) d ≡ Some id → id ≡ right.id
    its id there = its_id f.held d (held.Write right) id at there

    pub put_absent : entry_at s.store right.id n ≡ None → IsValueAbsent s.store (bare_frame f) d subscript
    put_absent none = (right.id, n, id_at f.held d (held.Write right) at, n_is, none)

    comes : (ns : Notices) (k : Context) → data_instr (on_data.InsertValue d subscript from skip) (sees s ns f) ≡ Ok k
        → (x : Value) × (slice_get f.position.values from ≡ Some x) × (k ≡ after_put (sees s ns f) right.id n skip (if_absent (entry_at s.store right.id n) x))
    comes ns k e =
        let v = there_then (slice_get f.position.values subscript) WrongRegister _ k e in
        let x = there_then (slice_get f.position.values from) WrongRegister _ k v.2 in
        let u = must_then (suits_entry v.0 x.0 (datum_at (sees s ns f) d)) WrongRegister _ k x.2 in
        let h = there_then (right_at (bare_file f.held) d) EmptyRegister _ k u.1 in
        let a = ok_after (may_put v.0 x.0 (get s.store.live h.0)) _ k h.2 in
        let is_n : v.0 ≡ n = same_Some v.0 n (sym v.1 ∙ n_is) in
        (x.0, x.1, sym (same_ok _ k a.1) ∙ (λ i. after_put (sees s ns f) (its h.0 h.1 i) (is_n i) skip (if_absent (entry_at s.store (its h.0 h.1 i) (is_n i)) x.0)))

    -- the subscript is taken
    pub put_refused : (old : Value) → entry_at s.store right.id n ≡ Some old → (g : FrameView) → g ≡ record f { position = at_goal f.position skip; spent = f.spent + 1 } → IsDone (on_data.InsertValue d subscript from skip) s s f g
    put_refused old some = moved_done (on_data.InsertValue d subscript from skip) s s f [] (inl (refl, refl)) (now_stays s s refl) (λ ns. refl) Skipped (at_goal f.position skip)
        (λ ns k e. let c = comes ns k e in c.2 ∙ ap (λ (o : Option Value). after_put (sees s ns f) right.id n skip (if_absent o c.0)) some) refl (λ typing. refl)

    module _ (value : Value) (value_is : slice_get f.position.values from ≡ Some value) where
      pub put_takes_it : TakesValue n value (get s.store.live right.id)
      put_takes_it =
          let is_n : asks.0 ≡ n = same_Some asks.0 n (sym asks.3 ∙ n_is) in
          let is_x : asks.1 ≡ value = same_Some asks.1 value (sym asks.4 ∙ value_is) in
          put_takes n value (get s.store.live right.id)
          (ap (λ (k : Subscript). may_put k value (get s.store.live right.id)) (sym is_n)
          ∙ (ap (λ (x : Value). may_put asks.0 x (get s.store.live right.id)) (sym is_x) ∙ (ap (λ (id : ℕ). may_put asks.0 asks.1 (get s.store.live id)) (sym (its asks.2 asks.5)) ∙ asks.6)))

      pub put_done : (new : Served) → entry_at s.store right.id n ≡ None → IsNow (value_put s.store right.id n value) s new → (g : FrameView) → g ≡ record f { position = at_next_place f.position; spent = f.spent + 1 }
          → IsDone (on_data.InsertValue d subscript from skip) s new f g
      put_done new none l = moved_done (on_data.InsertValue d subscript from skip) s new f [] (inl (refl, l.queues)) (now_stays s new l.places) (λ ns. refl) Completed (at_next_place f.position)
          (λ ns k e.
          let c = comes ns k e in
          let is_x : c.0 ≡ value = same_Some c.0 value (sym c.1 ∙ value_is) in
          c.2 ∙ ap (λ (o : Option Value). after_put (sees s ns f) right.id n skip (if_absent o c.0)) none
          ∙ (λ i. record { store = value_put s.store right.id n (is_x i); notices = ns; rights = bare_file f.held; position = at_next_place f.position })
          ∙ (λ i. record { store = sym l.store i; notices = ns; rights = bare_file f.held; position = at_next_place f.position }))
          refl (λ typing. refl)

-- ---- MADD

module _ (d subscript from : ℕ) (s : Served) (f : FrameView) (m : MayDo (on_data.AddValue d subscript from) s f) where
  pub add_right : kind_at f.held d ≡ Some true
  add_right = kind_passed f.held m.typed.typing m.typed.kinds d true writes_sums (λ t e. first_so (is_write t.mode) (is_sums t.ty && same_scalar scalar.Int t.ty.scalar) e) m.typed.asked.0

  sums : (at : Subscript) × (n : ℤ) × (id : ℕ) × (slice_get f.position.values subscript ≡ Some at) × (int_at f.position from ≡ Ok n) × (right_at (bare_file f.held) d ≡ Some id) × (may_add at (get s.store.live id) ≡ Ok tt)
  sums = add_value_requires (sees s m.ns f) m.left d subscript from m.goes

  pub add_inside : subscript < length f.position.values
  add_inside = slice_get_within f.position.values subscript sums.0 sums.3

  pub add_int : (n : ℤ) × (slice_get f.position.values from ≡ Some (value.Int n))
  add_int = (sums.1, int_is f.position from sums.1 sums.4)

  module _ (right : Right) (at : slice_index_or f.held d None ≡ Some (held.Write right)) (n : Subscript) (n_is : slice_get f.position.values subscript ≡ Some n) where
    pub add_here : IsHere s right
    add_here = placed_at s.places f.held d (held.Write right) m.placed at

    its_sums : (id : ℕ) → right_at (bare_file f.held) d ≡ Some id → id ≡ right.id
    its_sums id there = its_id f.held d (held.Write right) id at there

    module _ (count : ℤ) (count_is : slice_get f.position.values from ≡ Some (value.Int count)) where
      pub add_takes_it : TakesValue n (sum_with (entry_at s.store right.id n) count) (get s.store.live right.id)
      add_takes_it =
          let is_n : sums.0 ≡ n = same_Some sums.0 n (sym sums.3 ∙ n_is) in
          add_takes n (sum_with (entry_at s.store right.id n) count) (get s.store.live right.id) (sum_int (entry_at s.store right.id n) count)
          (ap (λ (k : Subscript). may_add k (get s.store.live right.id)) (sym is_n) ∙ (ap (λ (id : ℕ). may_add sums.0 (get s.store.live id)) (sym (its_sums sums.2 sums.5)) ∙ sums.6))

      pub add_done : (new : Served) → IsNow (value_put s.store right.id n (sum_with (entry_at s.store right.id n) count)) s new → (g : FrameView) → g ≡ record f { position = at_next_place f.position; spent = f.spent + 1 }
          → IsDone (on_data.AddValue d subscript from) s new f g
      add_done new l = moved_done (on_data.AddValue d subscript from) s new f [] (inl (refl, l.queues)) (now_stays s new l.places) (λ ns. refl) Completed (at_next_place f.position)
          (λ ns k e.
          let v = there_then (slice_get f.position.values subscript) WrongRegister _ k e in
          let x = ok_first (int_at f.position from) _ k v.2 in
          let u = must_then (suits_subscript v.0 (datum_at (sees s ns f) d)) WrongRegister _ k x.2 in
          let h = there_then (right_at (bare_file f.held) d) EmptyRegister _ k u.1 in
          let a = ok_after (may_add v.0 (get s.store.live h.0)) _ k h.2 in
          let is_n : v.0 ≡ n = same_Some v.0 n (sym v.1 ∙ n_is) in
          let is_count = int_same f.position from x.0 count x.1 count_is in
          sym (same_ok _ k a.1)
          ∙ (λ i. record { store = value_put s.store (its_sums h.0 h.1 i) (is_n i) (sum_with (entry_at s.store (its_sums h.0 h.1 i) (is_n i)) (is_count i)); notices = ns; rights = bare_file f.held; position = at_next_place f.position })
          ∙ (λ i. record { store = sym l.store i; notices = ns; rights = bare_file f.held; position = at_next_place f.position }))
          refl (λ typing. refl)

-- ---- MGET

module _ (to d subscript skip : ℕ) (s : Served) (f : FrameView) (m : MayDo (on_data.GetValue to d subscript skip) s f) where
  pub read_right : kind_at f.held d ≡ Some false
  read_right = kind_passed f.held m.typed.typing m.typed.kinds d false reads_closed_map (λ t e. closed_reads t.mode (first_so (is_closed_mode t.mode) (is_map t.ty) e)) m.typed.asked.0

  reads : (old : Value) × (at : Subscript) × (id : ℕ) × (slice_get f.position.values to ≡ Some old) × (slice_get f.position.values subscript ≡ Some at) × (right_at (bare_file f.held) d ≡ Some id) × (may_read_entry at (scalar_of old) (get s.store.live id) ≡ Ok tt)
  reads = get_value_requires (sees s m.ns f) m.left to d subscript skip m.goes

  pub read_inside : subscript < length f.position.values
  read_inside = slice_get_within f.position.values subscript reads.1 reads.4

  module _ (right : Right) (at : slice_index_or f.held d None ≡ Some (held.Read right)) (n : Subscript) (n_is : slice_get f.position.values subscript ≡ Some n) where
    pub read_here : IsHere s right
    read_here = placed_at s.places f.held d (held.Read right) m.placed at

    its_map : (id : ℕ) → right_at (bare_file f.held) d ≡ Some id → id ≡ right.id
    its_map id there = its_id f.held d (held.Read right) id at there

    is_map_there : may_read_entry n (scalar_of reads.0) (get s.store.live right.id) ≡ Ok tt
    is_map_there =
        let is_n : reads.1 ≡ n = same_Some reads.1 n (sym reads.4 ∙ n_is) in
        ap (λ (k : Subscript). may_read_entry k (scalar_of reads.0) (get s.store.live right.id)) (sym is_n)
        ∙ (ap (λ (id : ℕ). may_read_entry reads.1 (scalar_of reads.0) (get s.store.live id)) (sym (its_map reads.2 reads.5)) ∙ reads.6)

    -- a value that is found is of the register's type
    pub read_fits : (found : Value) → entry_at s.store right.id n ≡ Some found → MaySet f.position.values to found
    read_fits found is =
        let x = there_then (get s.store.live right.id) FreedDatum _ tt is_map_there in
        let of = must_then (is_map_of (scalar_of n) (scalar_of reads.0) x.0.ty) WrongType _ tt x.2 in
        let own = and_parts (is_map_by (scalar_of n) x.0.ty) (same_scalar (scalar_of reads.0) x.0.ty.scalar) of.0 in
        let there : get (entries_in x.0.content) n ≡ Some found = ap (option_and_then (λ (y : Datum). get (entries_in y.content) n)) (sym x.1) ∙ is in
        let its_kind = and_parts (is_map_by (scalar_of n) x.0.ty) (same_scalar (scalar_of found) x.0.ty.scalar) (values_kinds x.0 (m.store.contents right.id x.0 x.1) n found there) in
        ap (option_map scalar_of) reads.3 ∙ ap Some (same_scalars (scalar_of reads.0) x.0.ty.scalar own.1 ∙ sym (same_scalars (scalar_of found) x.0.ty.scalar its_kind.1))

    pub read_text : (found : Value) → entry_at s.store right.id n ≡ Some found → scalar_of found ≡ scalar.Text → IsTextAt f.position.values to
    read_text found is text = by found text (read_fits found is)
      where
        by : (v : Value) → scalar_of v ≡ scalar.Text → MaySet f.position.values to v → IsTextAt f.position.values to
        by (value.Int i) e may = cc
        by (value.Text t) e may = text_there f.position.values to t may

    -- where it continues
    abbrev found_at : Option Value → Position
    found_at o = with_result f.position to skip o

    goes : (ns : Notices) (k : Context) → data_instr (on_data.GetValue to d subscript skip) (sees s ns f) ≡ Ok k → k ≡ record { store = s.store; notices = ns; rights = bare_file f.held; position = found_at (entry_at s.store right.id n) }
    goes ns k e =
        let o = there_then (slice_get f.position.values to) WrongRegister _ k e in
        let v = there_then (slice_get f.position.values subscript) WrongRegister _ k o.2 in
        let u = must_then (suits_entry v.0 o.0 (datum_at (sees s ns f) d)) WrongRegister _ k v.2 in
        let h = there_then (right_at (bare_file f.held) d) EmptyRegister _ k u.1 in
        let a = ok_after (may_read_entry v.0 (scalar_of o.0) (get s.store.live h.0)) _ k h.2 in
        let is_n : v.0 ≡ n = same_Some v.0 n (sym v.1 ∙ n_is) in
        sym (same_ok _ k a.1) ∙ (λ i. record { store = s.store; notices = ns; rights = bare_file f.held; position = found_at (entry_at s.store (its_map h.0 h.1 i) (is_n i)) })

    pub read_some : (found : Value) → entry_at s.store right.id n ≡ Some found → (g : FrameView) → g ≡ record f { position = at_next_place (with_value f.position to found); spent = f.spent + 1 } → IsDone (on_data.GetValue to d subscript skip) s s f g
    read_some found is = moved_done (on_data.GetValue to d subscript skip) s s f [] (inl (refl, refl)) (now_stays s s refl) (λ ns. refl) Completed (at_next_place (with_value f.position to found))
        (λ ns k e. goes ns k e ∙ (λ i. record { store = s.store; notices = ns; rights = bare_file f.held; position = found_at (is i) })) refl (λ typing. refl)

    pub read_none : entry_at s.store right.id n ≡ None → (g : FrameView) → g ≡ record f { position = at_goal f.position skip; spent = f.spent + 1 } → IsDone (on_data.GetValue to d subscript skip) s s f g
    read_none none = moved_done (on_data.GetValue to d subscript skip) s s f [] (inl (refl, refl)) (now_stays s s refl) (λ ns. refl) Skipped (at_goal f.position skip)
        (λ ns k e. goes ns k e ∙ (λ i. record { store = s.store; notices = ns; rights = bare_file f.held; position = found_at (none i) })) refl (λ typing. refl)
