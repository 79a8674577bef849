-- GET: its requirements hold, and it is executed.
use Rattle.tw_pool_state.proofs.PartNames.{Completed, Context, EmptyRegister, FrameView, IsDone, IsHere, MayDo, MaySet, None, Notices, Ok, Right, Served, Some, UnsetDatum, Value, WrongRegister, [], ap, at_next_place, bare_file, data_instr, datum_at, false, first_so, get, get_requires, inl, is_closed_mode, is_scalar, kind_at, may_retrieve, must_then, ok_after, option_and_then, reads_closed_scalar, refl, right_at, same_Some, sees, slice_get, slice_index_or, suits, sym, there_then, value_at, with_notices, with_value, ℕ, ◌+◌, ◌∙◌, ◌≡◌}
use Rattle.tw_rights.specs.declared.held.Held.TheVariants as held
use Rattle.tw_code.specs.declared.instr.DataInstr.TheVariants as on_data
use Rattle.tw_pool_state.proofs.Left.{moved_done, now_stays, same_ok}
use Rattle.tw_pool_state.proofs.Registers.{closed_reads, its_id, kind_passed, placed_at}
use Rattle.tw_pool_state.proofs.ValueRegisters.{value_fits}

module _ (to datum : ℕ) (s : Served) (f : FrameView) (m : MayDo (on_data.Get to datum) s f) where
  pub get_right : kind_at f.held datum ≡ Some false
  get_right = kind_passed f.held m.typed.typing m.typed.kinds datum false reads_closed_scalar (λ t e. closed_reads t.mode (first_so (is_closed_mode t.mode) (is_scalar t.ty) e)) m.typed.asked.0

  asks : (id : ℕ) × (right_at (bare_file f.held) datum ≡ Some id) × (may_retrieve (get s.store.live id) ≡ Ok tt)
  asks = get_requires (sees s m.ns f) m.left to datum m.goes

  module _ (right : Right) (at : slice_index_or f.held datum None ≡ Some (held.Read right)) where
    pub get_here : IsHere s right
    get_here = placed_at s.places f.held datum (held.Read right) m.placed at

    its : (id : ℕ) → right_at (bare_file f.held) datum ≡ Some id → id ≡ right.id
    its id there = its_id f.held datum (held.Read right) id at there

    pub get_allowed : may_retrieve (get s.store.live right.id) ≡ Ok tt
    get_allowed = ap (λ id. may_retrieve (get s.store.live id)) (sym (its asks.0 asks.1)) ∙ asks.2

    module _ (value : Value) (has : value_at s.store right.id ≡ Some value) where
      pub get_fits : MaySet f.position.values to value
      get_fits =
          let v = there_then (slice_get f.position.values to) WrongRegister _ m.left m.goes in
          let u = must_then (suits v.0 (datum_at (sees s m.ns f) datum)) WrongRegister _ m.left v.2 in
          let there : datum_at (sees s m.ns f) datum ≡ get s.store.live right.id = ap (option_and_then (get s.store.live)) (asks.1 ∙ ap Some (its asks.0 asks.1)) in
          value_fits s.store m.store right.id value get_allowed has f.position.values to v.0 v.1 (ap (suits v.0) (sym there) ∙ u.0)

      goes : (ns : Notices) (k : Context) → data_instr (on_data.Get to datum) (sees s ns f) ≡ Ok k
          → k ≡ record { store = s.store; notices = with_notices ns []; rights = bare_file f.held; position = at_next_place (with_value f.position to value) }
      goes ns k e =
          let v = there_then (slice_get f.position.values to) WrongRegister _ k e in
          let u = must_then (suits v.0 (datum_at (sees s ns f) datum)) WrongRegister _ k v.2 in
          let h = there_then (right_at (bare_file f.held) datum) EmptyRegister _ k u.1 in
          let a = ok_after (may_retrieve (get s.store.live h.0)) _ k h.2 in
          let x = there_then (value_at s.store h.0) UnsetDatum _ k a.1 in
          let is_v : x.0 ≡ value = same_Some x.0 value (sym x.1 ∙ ap (value_at s.store) (its h.0 h.1) ∙ has) in
          sym (same_ok _ k x.2) ∙ (λ i. record { store = s.store; notices = ns; rights = bare_file f.held; position = at_next_place (with_value f.position to (is_v i)) })

      pub got_done : (g : FrameView) → g ≡ record f { position = at_next_place (with_value f.position to value); spent = f.spent + 1 } → IsDone (on_data.Get to datum) s s f g
      got_done = moved_done (on_data.Get to datum) s s f [] (inl (refl, refl)) (now_stays s s refl) (λ ns. refl) Completed (at_next_place (with_value f.position to value)) goes refl (λ typing. refl)
