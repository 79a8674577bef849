-- DROPW and DROPR: their requirements hold, and they are executed.
use Rattle.tw_pool_state.proofs.PartNames.{Context, Datum, EmptyRegister, FrameView, FreedDatum, IsDone, IsHere, IsLeft, KeepsPlaces, MayDo, None, Notices, Ok, Right, Served, Some, [], ap, at_next_place, bare_file, data_instr, drop_read_requires, drop_write_requires, false, get, inl, kind_at, may_drop_read, may_drop_write, notices_after, notices_of_write_dropped, ok_after, one_write_less, read_dropped, read_no_write, reads, refl, right_at, sees, slice_index_or, slice_set, sym, there_then, true, with_notices, write_dropped, writes as writes_one, ℕ, ◌+◌, ◌∙◌, ◌≡◌}
use Rattle.tw_rights.specs.declared.held.Held.TheVariants as held
use Rattle.tw_code.specs.declared.instr.DataInstr.TheVariants as on_data
use Rattle.tw_pool_state.proofs.Left.{emptied_done, left_stays, left_notified, same_ok}
use Rattle.tw_pool_state.proofs.Registers.{its_id, kind_passed, placed_at}

-- ---- a write right

module _ (datum : ℕ) (s : Served) (f : FrameView) (m : MayDo (on_data.DropWrite datum) s f) where
  pub drop_write_right : kind_at f.held datum ≡ Some true
  drop_write_right = kind_passed f.held m.typed.typing m.typed.kinds datum true writes_one (λ t e. e) m.typed.asked.0

  drop_write_is : (id : ℕ) × (right_at (bare_file f.held) datum ≡ Some id) × (may_drop_write (get s.store.live id) ≡ Ok tt)
  drop_write_is = drop_write_requires (sees s m.ns f) m.left datum m.goes

  module _ (right : Right) (at : slice_index_or f.held datum None ≡ Some (held.Write right)) where
    pub drop_write_here : IsHere s right
    drop_write_here = placed_at s.places f.held datum (held.Write right) m.placed at

    pub drop_write_its : (id : ℕ) → right_at (bare_file f.held) datum ≡ Some id → id ≡ right.id
    drop_write_its id there = its_id f.held datum (held.Write right) id at there

    pub drop_write_allowed : may_drop_write (get s.store.live right.id) ≡ Ok tt
    drop_write_allowed = ap (λ id. may_drop_write (get s.store.live id)) (sym (drop_write_its drop_write_is.0 drop_write_is.1)) ∙ drop_write_is.2

    drop_write_live : (x : Datum) × (get s.store.live right.id ≡ Some x)
    drop_write_live = let h = there_then (get s.store.live right.id) FreedDatum _ tt drop_write_allowed in (h.0, h.1)

    drop_write_at : right_at (bare_file f.held) datum ≡ Some right.id
    drop_write_at = drop_write_is.1 ∙ ap Some (drop_write_its drop_write_is.0 drop_write_is.1)

    module _ (new : Served) (left : IsLeft s new right.id one_write_less) where
      drop_write_goes : (ns : Notices) (k : Context) → data_instr (on_data.DropWrite datum) (sees s ns f) ≡ Ok k
          → k ≡ record { store = new.store; notices = with_notices ns (notices_after s.store right.id one_write_less); rights = slice_set (bare_file f.held) datum None; position = at_next_place f.position }
      drop_write_goes ns k e =
          let h = there_then (right_at (bare_file f.held) datum) EmptyRegister _ k e in
          let a = ok_after (may_drop_write (get s.store.live h.0)) _ k h.2 in
          let is_id = drop_write_its h.0 h.1 in
          sym (same_ok _ k a.1)
          ∙ (λ i. record { store = write_dropped s.store (is_id i); notices = with_notices ns (notices_of_write_dropped s.store (is_id i)); rights = slice_set (bare_file f.held) datum None; position = at_next_place f.position })
          ∙ (λ i. record { store = sym left.store i; notices = with_notices ns (notices_after s.store right.id one_write_less); rights = slice_set (bare_file f.held) datum None; position = at_next_place f.position })

      pub write_dropped_done : (g : FrameView) → g ≡ record f { position = at_next_place f.position; held = slice_set f.held datum None; spent = f.spent + 1 } → IsDone (on_data.DropWrite datum) s new f g
      write_dropped_done = emptied_done (on_data.DropWrite datum) s new f (notices_after s.store right.id one_write_less) (left_notified s new right.id one_write_less left drop_write_live.0 drop_write_live.1 refl)
          (left_stays s new right.id one_write_less left) (λ ns. rw drop_write_at refl) datum drop_write_goes refl (λ typing. refl)

-- ---- a read right

module _ (datum : ℕ) (s : Served) (f : FrameView) (m : MayDo (on_data.DropRead datum) s f) where
  pub drop_read_right : kind_at f.held datum ≡ Some false
  drop_read_right = kind_passed f.held m.typed.typing m.typed.kinds datum false reads (λ t e. read_no_write t.mode e) m.typed.asked.0

  drop_read_is : (id : ℕ) × (right_at (bare_file f.held) datum ≡ Some id) × (may_drop_read (get s.store.live id) ≡ Ok tt)
  drop_read_is = drop_read_requires (sees s m.ns f) m.left datum m.goes

  module _ (right : Right) (at : slice_index_or f.held datum None ≡ Some (held.Read right)) where
    pub drop_read_here : IsHere s right
    drop_read_here = placed_at s.places f.held datum (held.Read right) m.placed at

    drop_read_its : (id : ℕ) → right_at (bare_file f.held) datum ≡ Some id → id ≡ right.id
    drop_read_its id there = its_id f.held datum (held.Read right) id at there

    pub drop_read_allowed : may_drop_read (get s.store.live right.id) ≡ Ok tt
    drop_read_allowed = ap (λ id. may_drop_read (get s.store.live id)) (sym (drop_read_its drop_read_is.0 drop_read_is.1)) ∙ drop_read_is.2

    module _ (new : Served) (store : new.store ≡ read_dropped s.store right.id) (keeps : KeepsPlaces s new) (quiet : new.queues ≡ s.queues) where
      drop_read_goes : (ns : Notices) (k : Context) → data_instr (on_data.DropRead datum) (sees s ns f) ≡ Ok k
          → k ≡ record { store = new.store; notices = with_notices ns []; rights = slice_set (bare_file f.held) datum None; position = at_next_place f.position }
      drop_read_goes ns k e =
          let h = there_then (right_at (bare_file f.held) datum) EmptyRegister _ k e in
          let a = ok_after (may_drop_read (get s.store.live h.0)) _ k h.2 in
          let is_id = drop_read_its h.0 h.1 in
          sym (same_ok _ k a.1)
          ∙ (λ i. record { store = read_dropped s.store (is_id i); notices = ns; rights = slice_set (bare_file f.held) datum None; position = at_next_place f.position })
          ∙ (λ i. record { store = sym store i; notices = ns; rights = slice_set (bare_file f.held) datum None; position = at_next_place f.position })

      pub read_dropped_done : (g : FrameView) → g ≡ record f { position = at_next_place f.position; held = slice_set f.held datum None; spent = f.spent + 1 } → IsDone (on_data.DropRead datum) s new f g
      read_dropped_done = emptied_done (on_data.DropRead datum) s new f [] (inl (refl, quiet)) (λ id place was now there. keeps.stays id now.0 now.1 ∙ there) (λ ns. refl) datum drop_read_goes refl (λ typing. refl)
