-- DUPR and DUPW: their requirements hold, and they are executed.
use Rattle.tw_types.specs.Room.{HasReadRoom, HasWriteRoom}
use Rattle.tw_pool_state.proofs.PartNames.{Context, Datum, EmptyRegister, FrameView, HasRoom, IsDone, IsHere, IsNow, MayDo, Notices, Ok, Right, RightType, Served, Typing, at_next_place, bare_file, copy_read_requires, copy_write_requires, data_instr, get, is_none, kind_at, kinds_in, map-set, may_be_read, may_copy_write, must_be_empty, ok_after, passed, passes, read_copied, read_no_write, reads, right_at, sees, there_then, with_notices, write_copied, writes as typed_writes, writes as writes_one, ◌^◌}
use Rattle.tw_rights.specs.declared.held.Held.TheVariants as held
use Rattle.tw_code.specs.declared.instr.DataInstr.TheVariants as on_data
use Rattle.std.proofs.Common.{◌≡◌, ◌∙◌, ◌+◌, ◌<◌, ℕ, Bool, true, false, [], None, Some, Option, refl, sym, ap, inl, arith, slice_index_or, slice_set, option_map}
use Rattle.tw_pool_state.proofs.Left.{filled_done, now_stays, same_ok}
use Rattle.tw_pool_state.proofs.Registers.{empty_at, its_id, kind_passed, placed_at}

-- ---- room for one count more

pub read_room : (s : Served) (f : FrameView) → HasRoom s f → (id : ℕ) → HasReadRoom (get s.store.live id)
read_room s f room id = by (get s.store.live id) (λ x at. room.reads id x at)
  where
    by : (o : Option Datum) → ((x : Datum) → o ≡ Some x → x.reads < 2 ^ 62) → HasReadRoom o
    by None few = tt
    by (Some x) few = omega (arith, few x refl)

pub write_room : (s : Served) (f : FrameView) → HasRoom s f → (id : ℕ) → HasWriteRoom (get s.store.live id)
write_room s f room id = by (get s.store.live id) (λ x at. room.writes id x at)
  where
    by : (o : Option Datum) → ((x : Datum) → o ≡ Some x → x.writes < 2 ^ 62) → HasWriteRoom o
    by None few = tt
    by (Some x) few = omega (arith, few x refl)

-- the copy is of the kind of the right that is copied
copied_kind : (typing : Typing) (from : ℕ) (kind : Bool) (test : RightType → Bool) → ((t : RightType) → test t ≡ true → typed_writes t ≡ kind) → passes test (right_at typing from) ≡ true → option_map typed_writes (right_at typing from) ≡ Some kind
copied_kind typing from kind test is_so e = let right = passed test (right_at typing from) e in ap (option_map typed_writes) right.1 ∙ ap Some (is_so right.0 right.2)

-- ---- a read right

module _ (to from : ℕ) (s : Served) (f : FrameView) (m : MayDo (on_data.CopyRead to from) s f) where
  pub copy_read_right : kind_at f.held from ≡ Some false
  copy_read_right = kind_passed f.held m.typed.typing m.typed.kinds from false reads (λ t e. read_no_write t.mode e) m.typed.asked.1.0

  pub copy_read_empty : slice_index_or f.held to None ≡ None
  copy_read_empty = empty_at f.held to (copy_read_requires (sees s m.ns f) m.left to from m.goes).1

  module _ (right : Right) (at : slice_index_or f.held from None ≡ Some (held.Read right)) where
    pub copy_read_here : IsHere s right
    copy_read_here = placed_at s.places f.held from (held.Read right) m.placed at

    copy_read_its : (id : ℕ) → right_at (bare_file f.held) from ≡ Some id → id ≡ right.id
    copy_read_its id there = its_id f.held from (held.Read right) id at there

    module _ (new : Served) (copy : Right) (same : copy ≡ right) (now : IsNow (read_copied s.store right.id) s new) where
      copy_read_goes : (ns : Notices) (k : Context) → data_instr (on_data.CopyRead to from) (sees s ns f) ≡ Ok k
          → k ≡ record { store = new.store; notices = with_notices ns []; rights = slice_set (bare_file f.held) to (Some copy.id); position = at_next_place f.position }
      copy_read_goes ns k e =
          let free = ok_after (must_be_empty (bare_file f.held) to) _ k e in
          let h = there_then (right_at (bare_file f.held) from) EmptyRegister _ k free.1 in
          let a = ok_after (may_be_read (get s.store.live h.0)) _ k h.2 in
          let is_id = copy_read_its h.0 h.1 in
          sym (same_ok _ k a.1)
          ∙ (λ i. record { store = read_copied s.store (is_id i); notices = ns; rights = slice_set (bare_file f.held) to (Some (is_id i)); position = at_next_place f.position })
          ∙ (λ i. record { store = sym now.store i; notices = ns; rights = slice_set (bare_file f.held) to (Some (sym (ap (λ (r : Right). r.id) same) i)); position = at_next_place f.position })

      pub read_copied_done : (g : FrameView) → g ≡ record f { position = at_next_place f.position; held = slice_set f.held to (Some (held.Read copy)); spent = f.spent + 1 } → IsDone (on_data.CopyRead to from) s new f g
      read_copied_done = filled_done (on_data.CopyRead to from) s new f [] (inl (refl, now.queues)) (now_stays s new now.places) (λ ns. refl) to (held.Read copy)
          (ap (λ ps. get ps copy.id) now.places ∙ ap (λ (r : Right). get s.places r.id) same ∙ copy_read_here ∙ ap (λ (r : Right). Some r.place) (sym same)) copy_read_goes refl
          (λ registers typing kinds asked. map-set (option_map typed_writes) typing to (right_at typing from) ∙ ap (λ (o : Option Bool). slice_set (kinds_in typing) to o) (copied_kind typing from false reads (λ t e. read_no_write t.mode e) asked.1.0))

-- ---- a write right

module _ (to from : ℕ) (s : Served) (f : FrameView) (m : MayDo (on_data.CopyWrite to from) s f) where
  copy_write_is : (id : ℕ) × (is_none (right_at (bare_file f.held) to) ≡ true) × (right_at (bare_file f.held) from ≡ Some id) × (may_copy_write (get s.store.live id) ≡ Ok tt)
  copy_write_is = copy_write_requires (sees s m.ns f) m.left to from m.goes

  pub copy_write_right : kind_at f.held from ≡ Some true
  copy_write_right = kind_passed f.held m.typed.typing m.typed.kinds from true writes_one (λ t e. e) m.typed.asked.1.0

  pub copy_write_empty : slice_index_or f.held to None ≡ None
  copy_write_empty = empty_at f.held to copy_write_is.1

  module _ (right : Right) (at : slice_index_or f.held from None ≡ Some (held.Write right)) where
    pub copy_write_here : IsHere s right
    copy_write_here = placed_at s.places f.held from (held.Write right) m.placed at

    copy_write_its : (id : ℕ) → right_at (bare_file f.held) from ≡ Some id → id ≡ right.id
    copy_write_its id there = its_id f.held from (held.Write right) id at there

    pub copy_write_allowed : may_copy_write (get s.store.live right.id) ≡ Ok tt
    copy_write_allowed = ap (λ id. may_copy_write (get s.store.live id)) (sym (copy_write_its copy_write_is.0 copy_write_is.2)) ∙ copy_write_is.3

    module _ (new : Served) (copy : Right) (same : copy ≡ right) (now : IsNow (write_copied s.store right.id) s new) where
      copy_write_goes : (ns : Notices) (k : Context) → data_instr (on_data.CopyWrite to from) (sees s ns f) ≡ Ok k
          → k ≡ record { store = new.store; notices = with_notices ns []; rights = slice_set (bare_file f.held) to (Some copy.id); position = at_next_place f.position }
      copy_write_goes ns k e =
          let free = ok_after (must_be_empty (bare_file f.held) to) _ k e in
          let h = there_then (right_at (bare_file f.held) from) EmptyRegister _ k free.1 in
          let a = ok_after (may_copy_write (get s.store.live h.0)) _ k h.2 in
          let is_id = copy_write_its h.0 h.1 in
          sym (same_ok _ k a.1)
          ∙ (λ i. record { store = write_copied s.store (is_id i); notices = ns; rights = slice_set (bare_file f.held) to (Some (is_id i)); position = at_next_place f.position })
          ∙ (λ i. record { store = sym now.store i; notices = ns; rights = slice_set (bare_file f.held) to (Some (sym (ap (λ (r : Right). r.id) same) i)); position = at_next_place f.position })

      pub write_copied_done : (g : FrameView) → g ≡ record f { position = at_next_place f.position; held = slice_set f.held to (Some (held.Write copy)); spent = f.spent + 1 } → IsDone (on_data.CopyWrite to from) s new f g
      write_copied_done = filled_done (on_data.CopyWrite to from) s new f [] (inl (refl, now.queues)) (now_stays s new now.places) (λ ns. refl) to (held.Write copy)
          (ap (λ ps. get ps copy.id) now.places ∙ ap (λ (r : Right). get s.places r.id) same ∙ copy_write_here ∙ ap (λ (r : Right). Some r.place) (sym same)) copy_write_goes refl
          (λ registers typing kinds asked. map-set (option_map typed_writes) typing to (right_at typing from) ∙ ap (λ (o : Option Bool). slice_set (kinds_in typing) to o) (copied_kind typing from true writes_one (λ t e. e) asked.1.0))
