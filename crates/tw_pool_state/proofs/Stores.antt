-- STORE: its requirements hold, and it is executed.
use Rattle.tw_pool_state.proofs.PartNames.{Context, Datum, EmptyRegister, FrameView, FreedDatum, IsDone, IsHere, IsLeft, MayDo, None, Notices, Ok, Right, Served, Some, Value, WrongRegister, ap, at_next_place, bare_file, data_instr, datum_at, first_so, get, is_scalar, is_write, kind_at, length, may_store, must_then, notices_after, notices_of_stored, ok_after, refl, right_at, same_Some, sees, set_to, slice_get, slice_get_within, slice_index_or, slice_set, store_requires, stored, suits, sym, there_then, true, with_notices, writes_scalar, ℕ, ◌+◌, ◌<◌, ◌∙◌, ◌≡◌}
use Rattle.tw_rights.specs.declared.held.Held.TheVariants as held
use Rattle.tw_code.specs.declared.instr.DataInstr.TheVariants as on_data
use Rattle.tw_pool_state.proofs.Left.{emptied_done, left_stays, left_notified, same_ok}
use Rattle.tw_pool_state.proofs.Registers.{its_id, kind_passed, placed_at}

module _ (datum from : ℕ) (s : Served) (f : FrameView) (m : MayDo (on_data.Store datum from) s f) where
  pub store_right : kind_at f.held datum ≡ Some true
  store_right = kind_passed f.held m.typed.typing m.typed.kinds datum true writes_scalar (λ t e. first_so (is_write t.mode) (is_scalar t.ty) e) m.typed.asked.0

  asks : (x : Value) × (id : ℕ) × (slice_get f.position.values from ≡ Some x) × (right_at (bare_file f.held) datum ≡ Some id) × (may_store x (get s.store.live id) ≡ Ok tt)
  asks = store_requires (sees s m.ns f) m.left datum from m.goes

  pub store_declared : from < length f.position.values
  store_declared = slice_get_within f.position.values from asks.0 asks.2

  module _ (right : Right) (at : slice_index_or f.held datum None ≡ Some (held.Write right)) where
    pub store_here : IsHere s right
    store_here = placed_at s.places f.held datum (held.Write right) m.placed at

    its : (id : ℕ) → right_at (bare_file f.held) datum ≡ Some id → id ≡ right.id
    its id there = its_id f.held datum (held.Write right) id at there

    module _ (value : Value) (v_at : slice_get f.position.values from ≡ Some value) where
      pub store_allowed : may_store value (get s.store.live right.id) ≡ Ok tt
      store_allowed =
          let v : asks.0 ≡ value = same_Some asks.0 value (sym asks.2 ∙ v_at) in
          ap (λ x. may_store x (get s.store.live right.id)) (sym v) ∙ ap (λ id. may_store asks.0 (get s.store.live id)) (sym (its asks.1 asks.3)) ∙ asks.4

      live : (x : Datum) × (get s.store.live right.id ≡ Some x)
      live = let h = there_then (get s.store.live right.id) FreedDatum _ tt store_allowed in (h.0, h.1)

      store_at : right_at (bare_file f.held) datum ≡ Some right.id
      store_at = asks.3 ∙ ap Some (its asks.1 asks.3)

      module _ (new : Served) (left : IsLeft s new right.id (set_to value)) where
        goes : (ns : Notices) (k : Context) → data_instr (on_data.Store datum from) (sees s ns f) ≡ Ok k
            → k ≡ record { store = new.store; notices = with_notices ns (notices_after s.store right.id (set_to value)); rights = slice_set (bare_file f.held) datum None; position = at_next_place f.position }
        goes ns k e =
            let v = there_then (slice_get f.position.values from) WrongRegister _ k e in
            let u = must_then (suits v.0 (datum_at (sees s ns f) datum)) WrongRegister _ k v.2 in
            let h = there_then (right_at (bare_file f.held) datum) EmptyRegister _ k u.1 in
            let a = ok_after (may_store v.0 (get s.store.live h.0)) _ k h.2 in
            let is_v : v.0 ≡ value = same_Some v.0 value (sym v.1 ∙ v_at) in
            let is_id = its h.0 h.1 in
            sym (same_ok _ k a.1)
            ∙ (λ i. record { store = stored s.store (is_id i) (is_v i); notices = with_notices ns (notices_of_stored s.store (is_id i) (is_v i)); rights = slice_set (bare_file f.held) datum None; position = at_next_place f.position })
            ∙ (λ i. record { store = sym left.store i; notices = with_notices ns (notices_after s.store right.id (set_to value)); rights = slice_set (bare_file f.held) datum None; position = at_next_place f.position })

        pub stored_done : (g : FrameView) → g ≡ record f { position = at_next_place f.position; held = slice_set f.held datum None; spent = f.spent + 1 } → IsDone (on_data.Store datum from) s new f g
        stored_done = emptied_done (on_data.Store datum from) s new f (notices_after s.store right.id (set_to value)) (left_notified s new right.id (set_to value) left live.0 live.1 refl)
            (left_stays s new right.id (set_to value) left) (λ ns. rw (store_at, v_at) refl) datum goes refl (λ typing. refl)
