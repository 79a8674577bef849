-- SIZE and SUBAT: their requirements hold, and they are executed.
use Rattle.tw_pool_state.proofs.PartNames.{Completed, Context, Datum, EmptyRegister, FrameView, FreedDatum, HasThatMany, IsDone, IsHere, List, MapKind, MayDo, MaySet, NestedScalar, NoMap, None, Notices, Ok, Option, Position, Right, RightType, Scalar, Served, Skipped, Some, Store, Subscript, Sums, Values, WrongType, [], ap, at_goal, at_next_place, bare_file, bare_frame, content_kind, data_instr, false, first_so, get, has_subscripts_by, inl, int_at, is_closed_mode, is_scalar, kind_at, may_read_members, may_read_subscripts_by, must_have_type, must_then, not, ok_after, ok_first, pos, reads_closed_by, reads_closed_container, refl, right_at, scalar_of, sees, size_at, size_requires, slice_get, slice_index_or, subscript_after, subscript_requires, subscripts_at, subscripts_of, sym, there_then, true, with_notices, with_result, with_value, writes as typed_writes, ℕ, ℤ, ◌+◌, ◌<◌, ◌^◌, ◌∙◌, ◌∷◌, ◌≡◌}
use Rattle.tw_types.specs.declared.data_type.Scalar.TheVariants as scalar
use Rattle.tw_types.specs.declared.value.Value.TheVariants as value
use Rattle.tw_rights.specs.declared.held.Held.TheVariants as held
use Rattle.tw_code.specs.declared.instr.DataInstr.TheVariants as on_data
use Rattle.tw_pool_state.proofs.Left.{moved_done, now_stays, same_ok}
use Rattle.tw_pool_state.proofs.Registers.{closed_reads, id_at, its_id, kind_passed, placed_at}
use Rattle.tw_pool_state.proofs.ValueRegisters.{int_is, int_same, may_set_kind}

-- a right on a closed container is one to read
closed_container_reads : (t : RightType) → reads_closed_container t ≡ true → typed_writes t ≡ false
closed_container_reads t e = closed_reads t.mode (first_so (is_closed_mode t.mode) (not (is_scalar t.ty)) e)

-- only a container or a map has subscripts
deep_by : (by : Scalar) (ty : NestedScalar) → has_subscripts_by by ty ≡ true → is_scalar ty ≡ false
deep_by by ty h = at ty.containers ty.map h
  where
    at : (containers : List Scalar) (kind : MapKind) → has_subscripts_by by (record { containers = containers; scalar = ty.scalar; map = kind }) ≡ true
        → is_scalar (record { containers = containers; scalar = ty.scalar; map = kind }) ≡ false
    at [] NoMap h = cc
    at [] (Values own) h = refl
    at [] (Sums own) h = refl
    at (own ∷ inner) kind h = refl

-- who may read the subscripts by their type may read them
any_reads : (by : Scalar) (o : Option Datum) → may_read_subscripts_by by o ≡ Ok tt → may_read_members o ≡ Ok tt
any_reads by None e = cc
any_reads by (Some x) e =
    let both = must_then (has_subscripts_by by x.ty) WrongType _ tt e in
    rw (deep_by by x.ty both.0) both.1

-- ---- the number of members or values

module _ (to container : ℕ) (s : Served) (f : FrameView) (m : MayDo (on_data.Size to container) s f) where
  pub size_right : kind_at f.held container ≡ Some false
  size_right = kind_passed f.held m.typed.typing m.typed.kinds container false reads_closed_container closed_container_reads m.typed.asked.0

  size_is : (id : ℕ) × (right_at (bare_file f.held) container ≡ Some id) × (may_read_members (get s.store.live id) ≡ Ok tt)
  size_is = size_requires (sees s m.ns f) m.left to container m.goes

  pub size_fits : (n : ℤ) → MaySet f.position.values to (value.Int n)
  size_fits n = may_set_kind f.position to (value.Int n) (ok_after (must_have_type f.position to scalar.Int) _ m.left m.goes).0

  module _ (right : Right) (at : slice_index_or f.held container None ≡ Some (held.Read right)) where
    pub size_here : IsHere s right
    size_here = placed_at s.places f.held container (held.Read right) m.placed at

    size_its : (id : ℕ) → right_at (bare_file f.held) container ≡ Some id → id ≡ right.id
    size_its id there = its_id f.held container (held.Read right) id at there

    pub size_allowed : may_read_members (get s.store.live right.id) ≡ Ok tt
    size_allowed = ap (λ id. may_read_members (get s.store.live id)) (sym (size_its size_is.0 size_is.1)) ∙ size_is.2

    pub size_few : size_at s.store right.id < 2 ^ 62
    size_few =
        let h = there_then (get s.store.live right.id) FreedDatum _ tt size_allowed in
        rw h.1 (m.room.members right.id h.0 h.1)

    module _ (size : ℕ) (size_is : size ≡ size_at s.store right.id) where
      size_goes : (ns : Notices) (k : Context) → data_instr (on_data.Size to container) (sees s ns f) ≡ Ok k
          → k ≡ record { store = s.store; notices = with_notices ns []; rights = bare_file f.held; position = at_next_place (with_value f.position to (value.Int (pos size))) }
      size_goes ns k e =
          let v = ok_after (must_have_type f.position to scalar.Int) _ k e in
          let h = there_then (right_at (bare_file f.held) container) EmptyRegister _ k v.1 in
          let a = ok_after (may_read_members (get s.store.live h.0)) _ k h.2 in
          let same : size_at s.store h.0 ≡ size = ap (size_at s.store) (size_its h.0 h.1) ∙ sym size_is in
          sym (same_ok _ k a.1) ∙ (λ i. record { store = s.store; notices = ns; rights = bare_file f.held; position = at_next_place (with_value f.position to (value.Int (pos (same i)))) })

      pub size_done : (g : FrameView) → g ≡ record f { position = at_next_place (with_value f.position to (value.Int (pos size))); spent = f.spent + 1 } → IsDone (on_data.Size to container) s s f g
      size_done = moved_done (on_data.Size to container) s s f [] (inl (refl, refl)) (now_stays s s refl) (λ ns. refl) Completed (at_next_place (with_value f.position to (value.Int (pos size)))) size_goes refl (λ typing. refl)

-- ---- a subscript

subscripts_there : (s : Store) (id : ℕ) (x : Datum) → get s.live id ≡ Some x → subscripts_at s id ≡ subscripts_of x.content
subscripts_there s id x is = rw is refl

module _ (by : Scalar) (to container index skip : ℕ) (s : Served) (f : FrameView) (m : MayDo (on_data.SubscriptAt by to container index skip) s f) where
  pub subscript_right : kind_at f.held container ≡ Some false
  subscript_right = kind_passed f.held m.typed.typing m.typed.kinds container false (reads_closed_by by) (λ t e. closed_reads t.mode (first_so (is_closed_mode t.mode) (has_subscripts_by by t.ty) e)) m.typed.asked.0

  subscript_is : (count : ℤ) × (id : ℕ) × (int_at f.position index ≡ Ok count) × (right_at (bare_file f.held) container ≡ Some id) × (may_read_subscripts_by by (get s.store.live id) ≡ Ok tt)
  subscript_is = subscript_requires (sees s m.ns f) m.left by to container index skip m.goes

  pub subscript_int : (n : ℤ) × (slice_get f.position.values index ≡ Some (value.Int n))
  subscript_int = (subscript_is.0, int_is f.position index subscript_is.0 subscript_is.2)

  module _ (right : Right) (at : slice_index_or f.held container None ≡ Some (held.Read right)) (count : ℤ) (count_is : slice_get f.position.values index ≡ Some (value.Int count)) where
    pub subscript_here : IsHere s right
    subscript_here = placed_at s.places f.held container (held.Read right) m.placed at

    subscript_its : (id : ℕ) → right_at (bare_file f.held) container ≡ Some id → id ≡ right.id
    subscript_its id there = its_id f.held container (held.Read right) id at there

    may_by : may_read_subscripts_by by (get s.store.live right.id) ≡ Ok tt
    may_by = ap (λ id. may_read_subscripts_by by (get s.store.live id)) (sym (subscript_its subscript_is.1 subscript_is.3)) ∙ subscript_is.4

    pub subscript_allowed : may_read_members (get s.store.live right.id) ≡ Ok tt
    subscript_allowed = any_reads by (get s.store.live right.id) may_by

    pub subscript_there : (k : Subscript) → subscript_after count (subscripts_at s.store right.id) ≡ Some k → HasThatMany s.store (bare_frame f) container index
    subscript_there k found = (right.id, count, k, id_at f.held container (held.Read right) at, count_is, found)

    -- a subscript that is found is of the container's type
    pub subscript_by : (k : Subscript) → subscript_after count (subscripts_at s.store right.id) ≡ Some k → scalar_of k ≡ by
    subscript_by k found =
        let x = there_then (get s.store.live right.id) FreedDatum _ tt may_by in
        let has = must_then (has_subscripts_by by x.0.ty) WrongType _ tt x.2 in
        content_kind x.0 by (m.store.contents right.id x.0 x.1) has.0 count k (ap (subscript_after count) (sym (subscripts_there s.store right.id x.0 x.1)) ∙ found)

    pub subscript_fits : (k : Subscript) → subscript_after count (subscripts_at s.store right.id) ≡ Some k → MaySet f.position.values to k
    subscript_fits k found =
        may_set_kind f.position to k (ap (must_have_type f.position to) (subscript_by k found) ∙ (ok_after (must_have_type f.position to by) _ m.left m.goes).0)

    -- where it continues
    abbrev found_at : Option Subscript → Position
    found_at o = with_result f.position to skip o

    subscript_goes : (ns : Notices) (k : Context) → data_instr (on_data.SubscriptAt by to container index skip) (sees s ns f) ≡ Ok k
        → k ≡ record { store = s.store; notices = ns; rights = bare_file f.held; position = found_at (subscript_after count (subscripts_at s.store right.id)) }
    subscript_goes ns k e =
        let v = ok_after (must_have_type f.position to by) _ k e in
        let n = ok_first (int_at f.position index) _ k v.1 in
        let h = there_then (right_at (bare_file f.held) container) EmptyRegister _ k n.2 in
        let a = ok_after (may_read_subscripts_by by (get s.store.live h.0)) _ k h.2 in
        let is_count = int_same f.position index n.0 count n.1 count_is in
        sym (same_ok _ k a.1) ∙ (λ i. record { store = s.store; notices = ns; rights = bare_file f.held; position = found_at (subscript_after (is_count i) (subscripts_at s.store (subscript_its h.0 h.1 i))) })

    pub subscript_some : (n : Subscript) → subscript_after count (subscripts_at s.store right.id) ≡ Some n → (g : FrameView) → g ≡ record f { position = at_next_place (with_value f.position to n); spent = f.spent + 1 }
        → IsDone (on_data.SubscriptAt by to container index skip) s s f g
    subscript_some n found = moved_done (on_data.SubscriptAt by to container index skip) s s f [] (inl (refl, refl)) (now_stays s s refl) (λ ns. refl) Completed (at_next_place (with_value f.position to n))
        (λ ns k e. subscript_goes ns k e ∙ (λ i. record { store = s.store; notices = ns; rights = bare_file f.held; position = found_at (found i) })) refl (λ typing. refl)

    pub subscript_none : subscript_after count (subscripts_at s.store right.id) ≡ None → (g : FrameView) → g ≡ record f { position = at_goal f.position skip; spent = f.spent + 1 }
        → IsDone (on_data.SubscriptAt by to container index skip) s s f g
    subscript_none none = moved_done (on_data.SubscriptAt by to container index skip) s s f [] (inl (refl, refl)) (now_stays s s refl) (λ ns. refl) Skipped (at_goal f.position skip)
        (λ ns k e. subscript_goes ns k e ∙ (λ i. record { store = s.store; notices = ns; rights = bare_file f.held; position = found_at (none i) })) refl (λ typing. refl)
