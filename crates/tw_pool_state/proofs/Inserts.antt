-- INS: its requirements hold, and it is executed.
use Rattle.tw_pool_state.proofs.PartNames.{Context, EmptyRegister, FrameView, Held, IsAbsent, IsDone, IsHere, IsNow, IsSome, IsUnchanged, List, MayDo, None, Notices, Ok, Option, Right, RightType, Scalar, Served, Skipped, Some, Subscript, [], after_insert, ap, at_goal, at_next_place, bare_file, bare_frame, data_instr, false, first_so, get, inl, insert_requires, inserted, is_container_by, is_element_of, is_read, is_write, kind_at, length, may_insert, member_at, of_type_at, ok_after, ok_first, passed, passes, read_no_write, reads_member_of, refl, right_at, scalar_of, sees, slice_get, slice_index_or, slice_set, suc, sym, there_then, true, writes_container_by, zero, ℕ, ◌+◌, ◌<◌, ◌∙◌, ◌∷◌, ◌≡◌}
use Rattle.tw_rights.specs.declared.held.Held.TheVariants as held
use Rattle.tw_code.specs.declared.instr.DataInstr.TheVariants as on_data
use Rattle.tw_pool_state.proofs.Left.{emptied_done, moved_done, now_stays, same_ok}
use Rattle.tw_pool_state.proofs.Registers.{id_at, its_id, kind_passed, placed_at}
use Rattle.tw_pool_state.proofs.ValueRegisters.{of_type_inside, of_type_kind, of_type_same}

-- ---- a write isn't where a read is

still_writes : (xs : List (Option Held)) (r k : ℕ) → kind_at xs r ≡ Some false → kind_at xs k ≡ Some true → kind_at (slice_set xs r None) k ≡ Some true
still_writes [] r k e f = cc
still_writes (x ∷ xs) zero zero e f = let both = sym e ∙ f in cc
still_writes (x ∷ xs) zero (suc k) e f = f
still_writes (x ∷ xs) (suc r) zero e f = f
still_writes (x ∷ xs) (suc r) (suc k) e f = still_writes xs r k e f

-- a right that is there after one was taken was there before
was_there : (xs : List (Option Held)) (r k : ℕ) (h : Held) → slice_index_or (slice_set xs r None) k None ≡ Some h → slice_index_or xs k None ≡ Some h
was_there [] r k h e = e
was_there (x ∷ xs) zero zero h e = cc
was_there (x ∷ xs) zero (suc k) h e = e
was_there (x ∷ xs) (suc r) zero h e = e
was_there (x ∷ xs) (suc r) (suc k) h e = was_there xs r k h e

present : (o : Option ℕ) → IsSome o → (x : ℕ) × (o ≡ Some x)
present None e = cc
present (Some x) e = (x, refl)

module _ (by : Scalar) (container subscript member skip : ℕ) (s : Served) (f : FrameView) (m : MayDo (on_data.Insert by container subscript member skip) s f) where
  pub insert_read : kind_at f.held member ≡ Some false
  insert_read =
      let box = passed (λ (right : RightType). passes (reads_member_of right) (right_at m.typed.typing member)) (right_at m.typed.typing container) m.typed.asked.1.0 in
      kind_passed f.held m.typed.typing m.typed.kinds member false (reads_member_of box.0) (λ t e. read_no_write t.mode (first_so (is_read t.mode) (is_element_of t.ty box.0.ty) e)) box.2

  -- the write right is there too when the member's is taken
  pub insert_write : (taken : FrameView) → taken.held ≡ slice_set f.held member None → kind_at taken.held container ≡ Some true
  insert_write taken take =
      ap (λ (file : List (Option Held)). kind_at file container) take
      ∙ still_writes f.held member container insert_read (kind_passed f.held m.typed.typing m.typed.kinds container true (writes_container_by by) (λ t e. first_so (is_write t.mode) (is_container_by by t.ty) e) m.typed.asked.0)

  asks : (at : Subscript) × (id inner : ℕ) × (of_type_at f.position subscript by ≡ Ok at) × (right_at (bare_file f.held) container ≡ Some id) × (right_at (bare_file f.held) member ≡ Some inner)
      × (may_insert by (get s.store.live id) (get s.store.live inner) ≡ Ok tt)
  asks = insert_requires (sees s m.ns f) m.left by container subscript member skip m.goes

  pub insert_inside : subscript < length f.position.values
  insert_inside = of_type_inside f.position subscript by asks.0 asks.3

  module _ (right : Right) (at : slice_index_or f.held member None ≡ Some (held.Read right)) (taken : FrameView) (take : taken.held ≡ slice_set f.held member None)
      (box : Right) (box_at : slice_index_or taken.held container None ≡ Some (held.Write box)) (n : Subscript) (n_is : slice_get f.position.values subscript ≡ Some n) where
    box_was : slice_index_or f.held container None ≡ Some (held.Write box)
    box_was = was_there f.held member container (held.Write box) (ap (λ (file : List (Option Held)). slice_index_or file container None) (sym take) ∙ box_at)

    pub insert_here : IsHere s box
    insert_here = placed_at s.places f.held container (held.Write box) m.placed box_was

    pub insert_member_here : IsHere s right
    insert_member_here = placed_at s.places f.held member (held.Read right) m.placed at

    its_box : (id : ℕ) → right_at (bare_file f.held) container ≡ Some id → id ≡ box.id
    its_box id there = its_id f.held container (held.Write box) id box_was there

    its : (id : ℕ) → right_at (bare_file f.held) member ≡ Some id → id ≡ right.id
    its id there = its_id f.held member (held.Read right) id at there

    same : (k : Subscript) → of_type_at f.position subscript by ≡ Ok k → k ≡ n
    same k e = of_type_same f.position subscript by k e n n_is

    kind : scalar_of n ≡ by
    kind = ap scalar_of (sym (same asks.0 asks.3)) ∙ of_type_kind f.position subscript by asks.0 asks.3

    pub insert_allowed : may_insert (scalar_of n) (get s.store.live box.id) (get s.store.live right.id) ≡ Ok tt
    insert_allowed =
        ap (λ (b : Scalar). may_insert b (get s.store.live box.id) (get s.store.live right.id)) kind
        ∙ ap (λ id. may_insert by (get s.store.live id) (get s.store.live right.id)) (sym (its_box asks.1 asks.4)) ∙ ap (λ id. may_insert by (get s.store.live asks.1) (get s.store.live id)) (sym (its asks.2 asks.5)) ∙ asks.6

    pub insert_absent : member_at s.store box.id n ≡ None → IsAbsent s.store (bare_frame f) container subscript
    insert_absent none = (box.id, n, id_at f.held container (held.Write box) box_was, n_is, none)

    comes : (ns : Notices) (k : Context) → data_instr (on_data.Insert by container subscript member skip) (sees s ns f) ≡ Ok k → k ≡ after_insert (sees s ns f) box.id n right.id member skip (member_at s.store box.id n)
    comes ns k e =
        let v = ok_first (of_type_at f.position subscript by) _ k e in
        let h = there_then (right_at (bare_file f.held) container) EmptyRegister _ k v.2 in
        let g = there_then (right_at (bare_file f.held) member) EmptyRegister _ k h.2 in
        let a = ok_after (may_insert by (get s.store.live h.0) (get s.store.live g.0)) _ k g.2 in
        sym (same_ok _ k a.1) ∙ (λ i. after_insert (sees s ns f) (its_box h.0 h.1 i) (same v.0 v.1 i) (its g.0 g.1 i) member skip (member_at s.store (its_box h.0 h.1 i) (same v.0 v.1 i)))

    module _ (new : Served) where
      -- the subscript is there
      pub inserted_none : IsSome (member_at s.store box.id n) → IsUnchanged s new → (g : FrameView) → g ≡ record f { position = at_goal f.position skip; spent = f.spent + 1 } → IsDone (on_data.Insert by container subscript member skip) s new f g
      inserted_none some u = moved_done (on_data.Insert by container subscript member skip) s new f [] (inl (refl, u.queues)) (now_stays s new u.places) (λ ns. refl) Skipped (at_goal f.position skip)
          (λ ns k e. comes ns k e ∙ ap (after_insert (sees s ns f) box.id n right.id member skip) (present (member_at s.store box.id n) some).1 ∙ (λ i. record { store = sym u.store i; notices = ns; rights = bare_file f.held; position = at_goal f.position skip }))
          refl (λ typing. refl)

      pub inserted_some : (member_at s.store box.id n ≡ None) → IsNow (inserted s.store box.id n right.id) s new → (g : FrameView) → g ≡ record f { position = at_next_place f.position; held = slice_set f.held member None; spent = f.spent + 1 }
          → IsDone (on_data.Insert by container subscript member skip) s new f g
      inserted_some none l = emptied_done (on_data.Insert by container subscript member skip) s new f [] (inl (refl, l.queues)) (now_stays s new l.places) (λ ns. refl) member
          (λ ns k e. comes ns k e ∙ ap (after_insert (sees s ns f) box.id n right.id member skip) none ∙ (λ i. record { store = sym l.store i; notices = ns; rights = slice_set (bare_file f.held) member None; position = at_next_place f.position }))
          refl (λ typing. refl)
