-- LOOK: its requirements hold, and it is executed.
use Rattle.tw_pool_state.proofs.PartNames.{Context, EmptyRegister, FrameView, HasMemberRoom, IsDone, IsHere, IsLook, MayDo, NestedScalar, Notices, Ok, Right, RightType, Scalar, Served, Skipped, Subscript, a_member_read, after_look, at_goal, at_next_place, bare_file, data_instr, element_of, first_so, get, is_closed_mode, is_container_by, is_none, kind_at, kinds_in, look_requires, map-set, may_look, member_at, must_be_empty, of_type_at, ok_after, ok_first, passed, passes, reads_closed_container_by, right_at, second_so, sees, there_then, writes as typed_writes}
use Rattle.tw_rights.specs.declared.held.Held.TheVariants as held
use Rattle.tw_code.specs.declared.instr.DataInstr.TheVariants as on_data
use Rattle.tw_pool_state.proofs.Copies.{read_room}
use Rattle.std.proofs.Common.{◌≡◌, ◌<◌, ◌∙◌, ◌+◌, ℕ, Bool, true, false, List, [], ◌∷◌, length, None, Some, Option, refl, sym, ap, inl, slice_get, slice_index_or, slice_set, option_map}
use Rattle.tw_pool_state.proofs.Left.{filled_done, moved_done, now_stays, same_ok}
use Rattle.tw_pool_state.proofs.Registers.{closed_reads, empty_at, its_id, kind_passed, placed_at}
use Rattle.tw_pool_state.proofs.ValueRegisters.{of_type_inside, of_type_same}

-- a container has elements
element_some : (by : Scalar) (ty : NestedScalar) → is_container_by by ty ≡ true → (e : NestedScalar) × (element_of ty ≡ Some e)
element_some by ty e = within ty.containers e
  where
    within : (containers : List Scalar) → is_container_by by (record ty { containers = containers }) ≡ true → (x : NestedScalar) × (element_of (record ty { containers = containers }) ≡ Some x)
    within [] e = cc
    within (own ∷ inner) e = (record ty { containers = inner }, refl)

reads_member : (by : Scalar) (o : Option RightType) → passes (reads_closed_container_by by) o ≡ true → option_map typed_writes (a_member_read o) ≡ Some false
reads_member by o e =
    let right = passed (reads_closed_container_by by) o e in
    let element = element_some by right.0.ty (second_so (is_closed_mode right.0.mode) (is_container_by by right.0.ty) right.2) in
    rw (right.1, element.1) refl

module _ (by : Scalar) (member container subscript skip : ℕ) (s : Served) (f : FrameView) (m : MayDo (on_data.Look by member container subscript skip) s f) where
  pub look_right : kind_at f.held container ≡ Some false
  look_right = kind_passed f.held m.typed.typing m.typed.kinds container false (reads_closed_container_by by) (λ t e. closed_reads t.mode (first_so (is_closed_mode t.mode) (is_container_by by t.ty) e)) m.typed.asked.1.0

  asks : (at : Subscript) × (id : ℕ) × (of_type_at f.position subscript by ≡ Ok at) × (is_none (right_at (bare_file f.held) member) ≡ true) × (right_at (bare_file f.held) container ≡ Some id) × (may_look s.store id at ≡ Ok tt)
  asks = look_requires (sees s m.ns f) m.left by member container subscript skip m.goes

  pub look_inside : subscript < length f.position.values
  look_inside = of_type_inside f.position subscript by asks.0 asks.2

  pub look_empty : slice_index_or f.held member None ≡ None
  look_empty = empty_at f.held member asks.3

  module _ (right : Right) (at : slice_index_or f.held container None ≡ Some (held.Read right)) (n : Subscript) (n_is : slice_get f.position.values subscript ≡ Some n) where
    pub look_here : IsHere s right
    look_here = placed_at s.places f.held container (held.Read right) m.placed at

    its : (id : ℕ) → right_at (bare_file f.held) container ≡ Some id → id ≡ right.id
    its id there = its_id f.held container (held.Read right) id at there

    same : (k : Subscript) → of_type_at f.position subscript by ≡ Ok k → k ≡ n
    same k e = of_type_same f.position subscript by k e n n_is

    pub look_allowed : may_look s.store right.id n ≡ Ok tt
    look_allowed = ap (λ k. may_look s.store right.id k) (sym (same asks.0 asks.2)) ∙ ap (λ id. may_look s.store id asks.0) (sym (its asks.1 asks.4)) ∙ asks.5

    pub look_room : HasMemberRoom s.store right.id n
    look_room = at_member (member_at s.store right.id n) refl
      where
        at_member : (o : Option ℕ) → member_at s.store right.id n ≡ o → HasMemberRoom s.store right.id n
        at_member None e = rw e tt
        at_member (Some member) e = rw e (read_room s f m.room member)

    comes : (ns : Notices) (k : Context) → data_instr (on_data.Look by member container subscript skip) (sees s ns f) ≡ Ok k → k ≡ after_look (sees s ns f) member skip (member_at s.store right.id n)
    comes ns k e =
        let v = ok_first (of_type_at f.position subscript by) _ k e in
        let free = ok_after (must_be_empty (bare_file f.held) member) _ k v.2 in
        let h = there_then (right_at (bare_file f.held) container) EmptyRegister _ k free.1 in
        let a = ok_after (may_look s.store h.0 v.0) _ k h.2 in
        sym (same_ok _ k a.1) ∙ ap (λ id. after_look (sees s ns f) member skip (member_at s.store id v.0)) (its h.0 h.1) ∙ ap (λ at. after_look (sees s ns f) member skip (member_at s.store right.id at)) (same v.0 v.1)

    module _ (new : Served) where
      pub looked_none : IsLook s right.id n None new → (g : FrameView) → g ≡ record f { position = at_goal f.position skip; spent = f.spent + 1 } → IsDone (on_data.Look by member container subscript skip) s new f g
      looked_none l = moved_done (on_data.Look by member container subscript skip) s new f [] (inl (refl, l.1.queues)) (now_stays s new l.1.places) (λ ns. refl) Skipped (at_goal f.position skip)
          (λ ns k e. comes ns k e ∙ ap (after_look (sees s ns f) member skip) l.0 ∙ (λ i. record { store = sym l.1.store i; notices = ns; rights = bare_file f.held; position = at_goal f.position skip }))
          refl (λ typing. refl)

      pub looked_some : (found : Right) → IsLook s right.id n (Some found) new → (g : FrameView) → g ≡ record f { position = at_next_place f.position; held = slice_set f.held member (Some (held.Read found)); spent = f.spent + 1 }
          → IsDone (on_data.Look by member container subscript skip) s new f g
      looked_some found l = filled_done (on_data.Look by member container subscript skip) s new f [] (inl (refl, l.2.queues)) (now_stays s new l.2.places) (λ ns. refl) member (held.Read found) (ap (λ ps. get ps found.id) l.2.places ∙ l.1)
          (λ ns k e. comes ns k e ∙ ap (after_look (sees s ns f) member skip) l.0 ∙ (λ i. record { store = sym l.2.store i; notices = ns; rights = slice_set (bare_file f.held) member (Some found.id); position = at_next_place f.position }))
          refl
          (λ registers typing kinds asked. map-set (option_map typed_writes) typing member (a_member_read (right_at typing container))
          ∙ ap (λ (o : Option Bool). slice_set (kinds_in typing) member o) (reads_member by (right_at typing container) asked.1.0))
