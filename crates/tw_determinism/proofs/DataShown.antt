-- An instruction on data that succeeds is one that the task can execute in the core machine, with the same result, or it is a contested
-- insertion, and no step there.
use Rattle.std.proofs.Common.{◌≡◌, ◌⊎◌, inl, inr, ℕ, pos, ◌<◌, ◌≤◌, ◌==◌, Bool, true, false, not, ◌&&◌, if◌then◌else◌, List, [], ◌∷◌, map as each, Option, Some, None, is_some, refl, sym, ap, subst, ◌∙◌, slice_get, slice_set, arith}
use Rattle.std.specs.FinMap as fin
use Rattle.tw_determinism.proofs.MachineNames.{Actor, AllYes, AlreadySet, AreRight, Cause, Completed, Content, Context, DataInstr, Datum, EmptyRegister, Frame, IsHeld, IsOfType, IsProgram, Members, NestedScalar, Ok, Procedure, Result, RightType, Scalar, Skipped, State, Store, Subscript, Typing, Typings, UnsetDatum, Value, Values, WrongRegister, WrongType, a_member_read, a_read, a_write, after_data, after_insert, after_look, after_put, and_parts, asked_at, at_goal, at_next_place, by_container, changed, container_only, context_of, copy_of, data_flow, data_instr, datum_at, datum_of, element_of, entries_mapped, entry_at, entry_by, fits_of, get, get_mapped, has_subscripts_by, has_sums, if_absent, insert, insert_mapped, inserted, int_at, is_closed, is_closed_mode, is_container, is_container_by, is_contest, is_copied, is_map, is_of, is_plain_map, is_scalar, is_sums, is_taken, is_unset, is_value_taken, is_write, len_mapped, map_only, mapped, may_add, may_be_read, may_copy_write, may_drop_read, may_drop_write, may_insert, may_look, may_put, may_read_entry, may_read_members, may_read_subscripts_by, may_retrieve, may_store, member_at, member_there, must_be_empty, must_have_type, must_then, of_type_at, ok_after, ok_first, ok_or, one_read_more, one_write_less, one_write_more, onward, option_and_then, option_map, other_reads, other_writes, passed, passes, read_dropped, reads, reads_closed_by, reads_closed_container, reads_closed_container_by, reads_closed_map, reads_closed_scalar, reads_member_of, register_holds, register_is_live, requires_data, right_at, same_Some, same_scalar, scalar_of, set_to, settled, size_at, store_after, subscribers_cleared, subscript_after, subscripts_at, suits, suits_entry, suits_subscript, sum_with, there_then, typing_of, value_at, value_cmp-IsAntisymmetric, value_cmp_total, value_put, with_copy, with_entry, with_member, with_result, with_value, writes, writes_container_by, writes_map, writes_scalar, writes_sums}
use Rattle.tw_types.proofs.Maps as maps
use Rattle.tw_types.specs.declared.data_type.Scalar.TheVariants as scalar
use Rattle.tw_types.specs.declared.value.Value.TheVariants as value
use Rattle.tw_types.specs.Store as store
use Rattle.tw_types.specs.StoreCalls as calls
use Rattle.tw_code.specs.declared.instr.DataInstr.TheVariants as on_data
use Rattle.tw_code.specs.declared.instr.Instr.TheVariants as instr
use Rattle.tw_code.specs.declared.flow.Way.{Way}
use Rattle.tw_determinism.proofs.Names.{Name, name_cmp_total, name_cmp-same}
use Rattle.tw_determinism.proofs.CoreEffects.{Add, Bears, Cell, Cells, Contains, Done, HasWrite, HoldsWrite, Into, IsClosed, Maps, Net, Nothing, Put, PutValue, Reads, Right, Running, Runs, Set, SetTo, Shares, Sums, Unset, Writes, cell_at, count_in, done, empty_cell, entries_in, entry_seen, looked, member_seen, members_in, ok, on_cells, placed, put_if_free, reading, reads_at, subject_of_data, subscripts_in, to_write, value_if_free, value_in, value_placed, writing, written}
use Rattle.tw_determinism.proofs.CoreMachine.{IsAlone, IsMade, IsPast, IsThere, WasMade, child_of, edit_of, edited, share_of, with_share}
use Rattle.tw_determinism.proofs.Agreeing.{named_agrees}
use Rattle.tw_determinism.proofs.CellsShown.{name_before, name_here, shows_kept, shows_new, shows_put, with_name}
use Rattle.tw_determinism.proofs.Closing.{alone_shown, closed_shown}
use Rattle.tw_determinism.proofs.Remaining.{Kept, body, cleared_body, cleared_writes, dropped_kept, fewer, fewer_after, fewer_put, kept_after, kept_itself, put_kept, settled_kept}
use Rattle.tw_determinism.proofs.SharedShown.{shared_copied, shared_kept, shared_new, shared_put}
use Rattle.tw_determinism.proofs.Showing.{OfFrame, Naming, Shows, ShowsCells, ShowsShared, cell_of, named, named_at, named_one, named_set, running}

same_ok : (y z : Context) → ◌≡◌ {A = Result Context Cause} (Ok y) (Ok z) → y ≡ z
same_ok y z e = cc

same_reads : (x y : Name) → Reads x ≡ Reads y → x ≡ y
same_reads x y e = cc

same_into : (x y : Name) → Into x ≡ Into y → x ≡ y
same_into x y e = cc

and_false : (b : Bool) → (b && false) ≡ false
and_false true = refl
and_false false = refl

-- ---- what names are not there yet

pub new_made : (m : Net) → IsMade m → (t : Name) (r : Running) → get m.threads t ≡ Some (Runs r) → WasMade m.threads r.spent t → ⊥
new_made m is [] r at made = let none = is.root in cc
new_made m is (j ∷ t) r at made =
    let same : made.0 ≡ Runs r = same_Some made.0 (Runs r) (sym made.1 ∙ at) in
    let past : r.spent < r.spent = subst (IsPast r.spent) same made.2 in
    omega (arith, past)

-- ---- contents by names

abbrev members_of_content : Content → Members
members_of_content content = calls.members_in content

members_by : (f : ℕ → Name) (ty : NestedScalar) (content : Content) → members_in (cell_of f ty content) ≡ mapped f (members_of_content content)
members_by f ty store.Unset = sym (Rattle.tw_types.proofs.Mapped.empty_mapped f)
members_by f ty (store.Set x) = sym (Rattle.tw_types.proofs.Mapped.empty_mapped f)
members_by f ty (store.Contains members) = refl
members_by f ty (store.Maps values) = by (is_sums ty)
  where
    by : (b : Bool) → members_in (if b then Sums values else Maps values) ≡ mapped f fin.empty
    by true = sym (Rattle.tw_types.proofs.Mapped.empty_mapped f)
    by false = sym (Rattle.tw_types.proofs.Mapped.empty_mapped f)

member_by : (f : ℕ → Name) (ty : NestedScalar) (content : Content) (at : Subscript) → get (members_in (cell_of f ty content)) at ≡ option_map f (get (members_of_content content) at)
member_by f ty content at = ap (λ ms. get ms at) (members_by f ty content) ∙ get_mapped f (members_of_content content) at

keys_each : (f : ℕ → Name) (es : List (Subscript × ℕ)) → each (λ e. e.0) (each (entry_by f) es) ≡ each (λ e. e.0) es
keys_each f [] = refl
keys_each f (e ∷ es) = ap (λ ks. e.0 ∷ ks) (keys_each f es)

pub keys_by : (f : ℕ → Name) (members : Members) → fin.keys (mapped f members) ≡ fin.keys members
keys_by f members = ap (each (λ e. e.0)) (entries_mapped f members) ∙ keys_each f (fin.entries members)

value_by : (f : ℕ → Name) (ty : NestedScalar) (content : Content) → value_in (cell_of f ty content) ≡ calls.value_in content
value_by f ty store.Unset = refl
value_by f ty (store.Set x) = refl
value_by f ty (store.Contains members) = refl
value_by f ty (store.Maps values) = by (is_sums ty)
  where
    by : (b : Bool) → value_in (if b then Sums values else Maps values) ≡ None
    by true = refl
    by false = refl

entries_by : (f : ℕ → Name) (ty : NestedScalar) (content : Content) → entries_in (cell_of f ty content) ≡ calls.entries_in content
entries_by f ty store.Unset = refl
entries_by f ty (store.Set x) = refl
entries_by f ty (store.Contains members) = refl
entries_by f ty (store.Maps values) = by (is_sums ty)
  where
    by : (b : Bool) → entries_in (if b then Sums values else Maps values) ≡ values
    by true = refl
    by false = refl

count_by : (f : ℕ → Name) (ty : NestedScalar) (content : Content) → count_in (cell_of f ty content) ≡ calls.count_in content
count_by f ty store.Unset = refl
count_by f ty (store.Set x) = refl
count_by f ty (store.Contains members) = len_mapped f members
count_by f ty (store.Maps values) = by (is_sums ty)
  where
    by : (b : Bool) → count_in (if b then Sums values else Maps values) ≡ fin.len values
    by true = refl
    by false = refl

subscripts_by : (f : ℕ → Name) (ty : NestedScalar) (content : Content) → subscripts_in (cell_of f ty content) ≡ calls.subscripts_of content
subscripts_by f ty store.Unset = refl
subscripts_by f ty (store.Set x) = refl
subscripts_by f ty (store.Contains members) = keys_by f members
subscripts_by f ty (store.Maps values) = by (is_sums ty)
  where
    by : (b : Bool) → subscripts_in (if b then Sums values else Maps values) ≡ fin.keys values
    by true = refl
    by false = refl

-- a change that leaves the content
pub changed_kept : (s : Store) (id : ℕ) (h : Datum → Datum) → ((x : Datum) → body (h x) ≡ body x) → ((x : Datum) → (h x).writes ≤ x.writes) → Kept (changed s id h).live s.live × ((changed s id h).next ≡ s.next)
changed_kept s id h same less = by (get s.live id) refl
  where
    by : (o : Option Datum) → get s.live id ≡ o → Kept (changed s id h).live s.live × ((changed s id h).next ≡ s.next)
    by None e = rw e (kept_itself s.live, refl)
    by (Some x) e = rw e (put_kept s.live id x (h x) e (same x) (less x), refl)

-- ---- a task that executes such an instruction

module _ (program : List Procedure) (typings : Typings) (proper : IsProgram program) (are : AreRight program typings) (s : State) (held_so : IsHeld program typings s) (a : Actor) (fr : Frame) (runs : get s.frames a ≡ Some fr)
    (p : Procedure) (here : slice_get program fr.procedure ≡ Some p) (n : Naming) (m : Net) (shows : Shows program typings n s m) where
  abbrev typing : Typing
  typing = typing_of typings fr

  abbrev c : Context
  c = context_of s fr

  abbrev r : Running
  r = running n.datum typings fr

  abbrev pub next : Name
  next = fr.spent ∷ n.holder (OfFrame a)

  -- the task can execute it
  pub record DataWills (i : DataInstr) : Type 0 where
    pub done : Done
    pub is : on_cells next (cell_at m (subject_of_data r i)) r i ≡ Some done
    pub closed : (d : Name) → subject_of_data r i ≡ Reads d → IsClosed m d
    pub alone : (d : Name) → subject_of_data r i ≡ Into d → m.shared d ≡ false → IsAlone m (n.holder (OfFrame a)) d
    pub target : IsThere m.cells (edit_of done.act)
    pub child : child_of done.act ≡ None

  -- with this result
  pub record DataGoes (i : DataInstr) (k : Context) (x : Done) : Type 0 where
    pub not_contested : is_contest n.copied s.store fr (Some (instr.Data i)) ≡ false
    pub way : Way
    pub goes_on : onward way fr.position.place (data_flow i) ≡ Some k.position.place
    pub names : ℕ → Name
    pub agree : (id : ℕ) → id < s.store.next → names id ≡ n.datum id
    pub position : x.position ≡ k.position
    pub rights : x.rights ≡ named names (after_data way i typing) k.rights
    pub after : Cells
    pub edits : edited m.cells next (edit_of x.act) ≡ Some after
    pub shown : ShowsCells names k.store after
    pub shared : ShowsShared names (with_copy n.copied (copy_of fr (Some (instr.Data i)))) n.start k.store after (with_share m.shared (share_of x.act))

  -- or it is contested, and no step
  pub record IsContest (i : DataInstr) (x : Done) : Type 0 where
    pub contested : is_contest n.copied s.store fr (Some (instr.Data i)) ≡ true
    pub never : (after : Cells) → edited m.cells next (edit_of x.act) ≡ Some after → ⊥

  abbrev pub DataShows : DataInstr → Context → Type 0
  DataShows i k = (w : DataWills i) × (DataGoes i k w.done ⊎ IsContest i w.done)

  -- ---- registers

  record Reg (k : ℕ) (q : RightType) (id : ℕ) : Type 0 where
    named_so : right_at r.rights k ≡ Some (record { write = is_write q.mode; of = n.datum id })
    x : Datum
    live : get s.store.live id ≡ Some x
    ty : x.ty ≡ q.ty
    closed : is_closed_mode q.mode ≡ true → is_closed x ≡ true
    cell : get m.cells (n.datum id) ≡ Some (cell_of n.datum x.ty x.content)

  reg : (k : ℕ) (q : RightType) (id : ℕ) → right_at typing k ≡ Some q → right_at fr.rights k ≡ Some id → Reg k q id
  reg k q id typed at =
      let h = register_holds program typings proper are s held_so a fr runs k q typed in
      let same : h.id ≡ id = same_Some h.id id (sym h.register ∙ at) in
      let live : get s.store.live id ≡ Some h.x = ap (get s.store.live) (sym same) ∙ h.live in
      record {
        named_so = named_at n.datum typing fr.rights k ∙ ap (λ t. named_one n.datum t (right_at fr.rights k)) typed ∙ ap (named_one n.datum (Some q)) at;
        x = h.x;
        live = live;
        ty = h.ty;
        closed = h.closed;
        cell = shows.cells.live id h.x live;
      }

  fresh_below : (d : ℕ) (z : Datum) → get s.store.live d ≡ Some z → d < s.store.next
  fresh_below d z at = held_so.types.store.fresh d z at

  -- an instruction that leaves data as they are
  plain : (i : DataInstr) → is_contest n.copied s.store fr (Some (instr.Data i)) ≡ false → copy_of fr (Some (instr.Data i)) ≡ None → (k : Context) (way : Way) (x : Done) → x.act ≡ Nothing → onward way fr.position.place (data_flow i) ≡ Some k.position.place → x.position ≡ k.position
      → x.rights ≡ named n.datum (after_data way i typing) k.rights → Kept k.store.live s.store.live → k.store.next ≡ s.store.next → DataGoes i k x
  plain i calm single k way x idle goes_on position rights kept same = record {
    not_contested = calm;
    way = way;
    goes_on = goes_on;
    names = n.datum;
    agree = λ id less. refl;
    position = position;
    rights = rights;
    after = m.cells;
    edits = ap (λ act. edited m.cells next (edit_of act)) idle;
    shown = shows_kept n.datum s.store m.cells shows.cells k.store kept same;
    shared = subst (λ o. ShowsShared n.datum (with_copy n.copied o) n.start k.store m.cells (with_share m.shared (share_of x.act))) (sym single)
        (subst (λ act. ShowsShared n.datum n.copied n.start k.store m.cells (with_share m.shared (share_of act))) (sym idle)
        (shared_kept n.datum n.copied n.start s.store m.cells m.shared shows.shared k.store (fewer _ _ kept) same));
  }

  met : (i : DataInstr) → slice_get p.code fr.position.place ≡ Some (instr.Data i) → AllYes (requires_data p.registers i typing)
  met i at = asked_at program typings proper are fr.procedure p here fr.position.place (instr.Data i) at

  -- ---- DROPR

  drop_read_shows : (register : ℕ) (k : Context) → AllYes (requires_data p.registers (on_data.DropRead register) typing) → data_instr (on_data.DropRead register) c ≡ Ok k → DataShows (on_data.DropRead register) k
  drop_read_shows register k asked e =
      let h = there_then (right_at fr.rights register) EmptyRegister _ k e in
      let may = ok_after (may_drop_read (datum_of c h.0)) _ k h.2 in
      let x : Done = done r (at_next_place fr.position) (slice_set r.rights register None) Nothing in
      let goes : DataGoes (on_data.DropRead register) (record c { position = at_next_place fr.position; rights = slice_set fr.rights register None; store = read_dropped s.store h.0 }) x =
      plain (on_data.DropRead register) refl refl _ Completed x refl refl refl (named_set n.datum typing fr.rights register None None) (dropped_kept s.store.live h.0) refl in (
        record { done = x; is = refl; closed = λ d at. cc; alone = λ d at not. cc; target = tt; child = refl },
        inl (subst (λ (z : Context). DataGoes (on_data.DropRead register) z x) (same_ok _ k may.1) goes),
      )

  -- ---- DROPW

  store_kept : (id : ℕ) (x : Datum) (h : Datum → Datum) → get s.store.live id ≡ Some x → body (h x) ≡ body x → (h x).writes ≤ x.writes
      → Kept (store_after s.store id h).live s.store.live × ((store_after s.store id h).next ≡ s.store.next)
  store_kept id x h live same less = rw live (
    kept_after (settled s.store.live id (subscribers_cleared (h x))) (insert s.store.live id (subscribers_cleared (h x))) s.store.live
        (settled_kept s.store.live id (subscribers_cleared (h x))) (put_kept s.store.live id x (subscribers_cleared (h x)) live (cleared_body (h x) ∙ same) (let l = cleared_writes (h x) in omega (arith, l, less))),
    refl,
  )

  drop_write_shows : (register : ℕ) (k : Context) → AllYes (requires_data p.registers (on_data.DropWrite register) typing) → data_instr (on_data.DropWrite register) c ≡ Ok k → DataShows (on_data.DropWrite register) k
  drop_write_shows register k asked e =
      let h = there_then (right_at fr.rights register) EmptyRegister _ k e in
      let may = ok_after (may_drop_write (datum_of c h.0)) _ k h.2 in
      let q = passed writes (right_at typing register) asked.0 in
      let one = reg register q.0 h.0 q.1 h.1 in
      let kept = store_kept h.0 one.x one_write_less one.live refl (omega arith) in
      let x : Done = done r (at_next_place fr.position) (slice_set r.rights register None) Nothing in (
        record { done = x; is = refl; closed = λ d at. cc; alone = λ d at not. cc; target = tt; child = refl },
        inl (subst (λ (z : Context). DataGoes (on_data.DropWrite register) z x) (same_ok _ k may.1)
            (plain (on_data.DropWrite register) refl refl _ Completed x refl refl refl (named_set n.datum typing fr.rights register None None) kept.0 kept.1)),
      )

  -- ---- DUPR and DUPW

  write_of : (register : ℕ) (q : RightType) (id : ℕ) → is_write q.mode ≡ true → (one : Reg register q id) → to_write (right_at r.rights register) ≡ Some (n.datum id)
  write_of register q id mode one = ap to_write one.named_so ∙ ap (λ b. if b then Some (n.datum id) else None) mode

  copied_rights : (to from : ℕ) (q : RightType) (id : ℕ) → right_at typing from ≡ Some q
      → slice_set r.rights to (Some (record { write = is_write q.mode; of = n.datum id })) ≡ named n.datum (slice_set typing to (right_at typing from)) (slice_set fr.rights to (Some id))
  copied_rights to from q id typed = ap (λ o. slice_set r.rights to (named_one n.datum o (Some id))) (sym typed) ∙ named_set n.datum typing fr.rights to (right_at typing from) (Some id)

  copy_read_shows : (to from : ℕ) (k : Context) → AllYes (requires_data p.registers (on_data.CopyRead to from) typing) → data_instr (on_data.CopyRead to from) c ≡ Ok k → DataShows (on_data.CopyRead to from) k
  copy_read_shows to from k asked e =
      let free = ok_after (must_be_empty fr.rights to) _ k e in
      let h = there_then (right_at fr.rights from) EmptyRegister _ k free.1 in
      let may = ok_after (may_be_read (datum_of c h.0)) _ k h.2 in
      let q = passed reads (right_at typing from) asked.1.0 in
      let one = reg from q.0 h.0 q.1 h.1 in
      let kept = changed_kept s.store h.0 one_read_more (λ x. refl) (λ x. omega arith) in
      let x : Done = done r (at_next_place fr.position) (slice_set r.rights to (Some (record { write = is_write q.0.mode; of = n.datum h.0 }))) Nothing in (
        record { done = x; is = ap (option_map (λ right. done r (at_next_place r.position) (slice_set r.rights to (Some right)) Nothing)) one.named_so; closed = λ d at. cc; alone = λ d at not. cc; target = tt; child = refl },
        inl (subst (λ (z : Context). DataGoes (on_data.CopyRead to from) z x) (same_ok _ k may.1)
            (plain (on_data.CopyRead to from) refl refl _ Completed x refl refl refl (copied_rights to from q.0 h.0 q.1) kept.0 kept.1)),
      )

  copy_write_shows : (to from : ℕ) (k : Context) → AllYes (requires_data p.registers (on_data.CopyWrite to from) typing) → data_instr (on_data.CopyWrite to from) c ≡ Ok k → DataShows (on_data.CopyWrite to from) k
  copy_write_shows to from k asked e =
      let free = ok_after (must_be_empty fr.rights to) _ k e in
      let h = there_then (right_at fr.rights from) EmptyRegister _ k free.1 in
      let may = ok_after (may_copy_write (datum_of c h.0)) _ k h.2 in
      let q = passed writes (right_at typing from) asked.1.0 in
      let one = reg from q.0 h.0 q.1 h.1 in
      let y : Datum = one_write_more one.x in
      let put = shows_put n.datum s.store m.cells shows.cells h.0 one.x y (cell_of n.datum one.x.ty one.x.content) one.live (fresh_below h.0 one.x one.live) fresh_below refl in
      let same_cells : insert m.cells (n.datum h.0) (cell_of n.datum one.x.ty one.x.content) ≡ m.cells = maps.insert_same name_cmp_total name_cmp-same m.cells (n.datum h.0) (cell_of n.datum one.x.ty one.x.content) one.cell in
      let store_is : record s.store { live = insert s.store.live h.0 y } ≡ changed s.store h.0 one_write_more = rw one.live refl in
      let cells : ShowsCells n.datum (changed s.store h.0 one_write_more) m.cells = subst (λ z. ShowsCells n.datum z m.cells) store_is (subst (ShowsCells n.datum (record s.store { live = insert s.store.live h.0 y })) same_cells put) in
      let shared = shared_copied n.datum n.copied n.start s.store m.cells m.shared shows.shared h.0 one.x (cell_of n.datum one.x.ty one.x.content) (fresh_below h.0 one.x one.live) one.cell shows.cells.apart in
      let writes_so : slice_set r.rights to (Some (record { write = is_write q.0.mode; of = n.datum h.0 })) ≡ slice_set r.rights to (Some (record { write = true; of = n.datum h.0 })) =
      ap (λ b. slice_set r.rights to (Some (record { write = b; of = n.datum h.0 }))) q.2 in
      let x : Done = done r (at_next_place fr.position) (slice_set r.rights to (Some (record { write = true; of = n.datum h.0 }))) (Shares (n.datum h.0)) in (
        record {
          done = x;
          is = ap (option_map (λ d. done r (at_next_place r.position) (slice_set r.rights to (Some (record { write = true; of = d }))) (Shares d))) (write_of from q.0 h.0 q.2 one);
          closed = λ d at. cc;
          alone = λ d at not. cc;
          target = tt;
          child = refl;
        },
        inl (subst (λ (z : Context). DataGoes (on_data.CopyWrite to from) z x) (same_ok _ k may.1) (record {
          not_contested = refl;
          way = Completed;
          goes_on = refl;
          names = n.datum;
          agree = λ id less. refl;
          position = refl;
          rights = sym writes_so ∙ copied_rights to from q.0 h.0 q.1;
          after = m.cells;
          edits = refl;
          shown = cells;
          shared = subst (λ o. ShowsShared n.datum (with_copy n.copied o) n.start (changed s.store h.0 one_write_more) m.cells (with_share m.shared (Some (n.datum h.0)))) (sym h.1)
              (subst (λ z. ShowsShared n.datum (with_copy n.copied (Some h.0)) n.start z m.cells (with_share m.shared (Some (n.datum h.0)))) store_is shared);
        })),
      )

  -- ---- GET, SIZE and SUBAT

  -- the closed datum that it reads
  record Watches (i : DataInstr) (id : ℕ) (x : Datum) : Type 0 where
    is_read_so : cell_at m (subject_of_data r i) ≡ Some (cell_of n.datum x.ty x.content)
    closed : (d : Name) → subject_of_data r i ≡ Reads d → IsClosed m d
    alone : (d : Name) → subject_of_data r i ≡ Into d → m.shared d ≡ false → IsAlone m (n.holder (OfFrame a)) d

  subject : (i : DataInstr) (register : ℕ) (q : RightType) (id : ℕ) → subject_of_data r i ≡ reading (option_map (λ (right : Right). right.of) (option_and_then (right_at r.rights) (reads_at i))) → reads_at i ≡ Some register → is_closed_mode q.mode ≡ true
      → (one : Reg register q id) → Watches i id one.x
  subject i register q id reads_so at mode one =
      let name_is : subject_of_data r i ≡ Reads (n.datum id) = reads_so ∙ ap (λ o. reading (option_map (λ (right : Right). right.of) (option_and_then (right_at r.rights) o))) at ∙ ap (λ o. reading (option_map (λ (right : Right). right.of) o)) one.named_so in
      record {
        is_read_so = ap (cell_at m) name_is ∙ one.cell;
        closed = λ d is. subst (IsClosed m) (same_reads (n.datum id) d (sym name_is ∙ is)) (closed_shown program typings s held_so n m shows id one.x one.live (one.closed mode));
        alone = λ d is not. let no : Reads (n.datum id) ≡ Into d = sym name_is ∙ is in cc;
      }

  get_shows : (to datum : ℕ) (k : Context) → AllYes (requires_data p.registers (on_data.Get to datum) typing) → data_instr (on_data.Get to datum) c ≡ Ok k → DataShows (on_data.Get to datum) k
  get_shows to datum k asked e =
      let v = there_then (slice_get fr.position.values to) WrongRegister _ k e in
      let fits = must_then (suits v.0 (datum_at c datum)) WrongRegister _ k v.2 in
      let h = there_then (right_at fr.rights datum) EmptyRegister _ k fits.1 in
      let may = ok_after (may_retrieve (datum_of c h.0)) _ k h.2 in
      let y = there_then (calls.value_at s.store h.0) UnsetDatum _ k may.1 in
      let q = passed reads_closed_scalar (right_at typing datum) asked.0 in
      let both = and_parts (is_closed_mode q.0.mode) (is_scalar q.0.ty) q.2 in
      let one = reg datum q.0 h.0 q.1 h.1 in
      let sub = subject (on_data.Get to datum) datum q.0 h.0 refl refl both.0 one in
      let value_is : value_in (cell_of n.datum one.x.ty one.x.content) ≡ Some y.0 = value_by n.datum one.x.ty one.x.content ∙ sym (ap (option_and_then (λ (z : Datum). calls.value_in z.content)) one.live) ∙ y.1 in
      let x : Done = done r (at_next_place (with_value fr.position to y.0)) r.rights Nothing in (
        record {
          done = x;
          is = ap (λ o. option_map (λ z. done r (at_next_place (with_value r.position to z)) r.rights Nothing) (option_and_then value_in o)) sub.is_read_so
              ∙ ap (option_map (λ z. done r (at_next_place (with_value r.position to z)) r.rights Nothing)) value_is;
          closed = sub.closed;
          alone = sub.alone;
          target = tt;
          child = refl;
        },
        inl (subst (λ (z : Context). DataGoes (on_data.Get to datum) z x) (same_ok _ k y.2) (plain (on_data.Get to datum) refl refl _ Completed x refl refl refl refl (kept_itself s.store.live) refl)),
      )

  size_shows : (to container : ℕ) (k : Context) → AllYes (requires_data p.registers (on_data.Size to container) typing) → data_instr (on_data.Size to container) c ≡ Ok k → DataShows (on_data.Size to container) k
  size_shows to container k asked e =
      let v = ok_after (must_have_type fr.position to scalar.Int) _ k e in
      let h = there_then (right_at fr.rights container) EmptyRegister _ k v.1 in
      let may = ok_after (may_read_members (datum_of c h.0)) _ k h.2 in
      let q = passed reads_closed_container (right_at typing container) asked.0 in
      let both = and_parts (is_closed_mode q.0.mode) (not (is_scalar q.0.ty)) q.2 in
      let one = reg container q.0 h.0 q.1 h.1 in
      let sub = subject (on_data.Size to container) container q.0 h.0 refl refl both.0 one in
      let size_is : size_at s.store h.0 ≡ calls.count_in one.x.content = rw one.live refl in
      let count_is : count_in (cell_of n.datum one.x.ty one.x.content) ≡ size_at s.store h.0 = count_by n.datum one.x.ty one.x.content ∙ sym size_is in
      let x : Done = done r (at_next_place (with_value fr.position to (value.Int (pos (size_at s.store h.0))))) r.rights Nothing in (
        record {
          done = x;
          is = ap (option_map (λ z. done r (at_next_place (with_value r.position to (value.Int (pos (count_in z))))) r.rights Nothing)) sub.is_read_so
              ∙ ap (λ j. Some (done r (at_next_place (with_value r.position to (value.Int (pos j)))) r.rights Nothing)) count_is;
          closed = sub.closed;
          alone = sub.alone;
          target = tt;
          child = refl;
        },
        inl (subst (λ (z : Context). DataGoes (on_data.Size to container) z x) (same_ok _ k may.1) (plain (on_data.Size to container) refl refl _ Completed x refl refl refl refl (kept_itself s.store.live) refl)),
      )

  subscript_shows : (by : Scalar) (to container index skip : ℕ) (k : Context) → AllYes (requires_data p.registers (on_data.SubscriptAt by to container index skip) typing)
      → data_instr (on_data.SubscriptAt by to container index skip) c ≡ Ok k → DataShows (on_data.SubscriptAt by to container index skip) k
  subscript_shows by to container index skip k asked e =
      let v = ok_after (must_have_type fr.position to by) _ k e in
      let count = ok_first (int_at fr.position index) _ k v.1 in
      let h = there_then (right_at fr.rights container) EmptyRegister _ k count.2 in
      let may = ok_after (may_read_subscripts_by by (datum_of c h.0)) _ k h.2 in
      let q = passed (reads_closed_by by) (right_at typing container) asked.0 in
      let both = and_parts (is_closed_mode q.0.mode) (has_subscripts_by by q.0.ty) q.2 in
      let one = reg container q.0 h.0 q.1 h.1 in
      let i : DataInstr = on_data.SubscriptAt by to container index skip in
      let sub = subject i container q.0 h.0 refl refl both.0 one in
      let keys : subscripts_at s.store h.0 ≡ calls.subscripts_of one.x.content = rw one.live refl in
      let keys_are : subscripts_in (cell_of n.datum one.x.ty one.x.content) ≡ subscripts_at s.store h.0 = subscripts_by n.datum one.x.ty one.x.content ∙ sym keys in
      let found : Option Value = subscript_after count.0 (subscripts_at s.store h.0) in
      let x : Done = done r (with_result fr.position to skip found) r.rights Nothing in (
        record {
          done = x;
          is = ap (λ o. option_and_then (λ j. option_map (λ z. done r (with_result r.position to skip (subscript_after j (subscripts_in z))) r.rights Nothing) (cell_at m (subject_of_data r i))) (ok o)) count.1
              ∙ ap (option_map (λ z. done r (with_result r.position to skip (subscript_after count.0 (subscripts_in z))) r.rights Nothing)) sub.is_read_so
              ∙ ap (λ ks. Some (done r (with_result r.position to skip (subscript_after count.0 ks)) r.rights Nothing)) keys_are;
          closed = sub.closed;
          alone = sub.alone;
          target = tt;
          child = refl;
        },
        inl (subst (λ (z : Context). DataGoes i z x) (same_ok _ k may.1) (either found)),
      )
    where
      either : (found : Option Value) → DataGoes (on_data.SubscriptAt by to container index skip) (record c { position = with_result fr.position to skip found }) (done r (with_result fr.position to skip found) r.rights Nothing)
      either None = plain (on_data.SubscriptAt by to container index skip) refl refl _ Skipped _ refl refl refl refl (kept_itself s.store.live) refl
      either (Some y) = plain (on_data.SubscriptAt by to container index skip) refl refl _ Completed _ refl refl refl refl (kept_itself s.store.live) refl

  -- ---- STORE

  unset_is : (x : Datum) (v : Value) → may_store v (Some x) ≡ Ok tt → x.content ≡ store.Unset
  unset_is x v may = by x.content (must_then (is_unset x.content) AlreadySet _ tt (must_then (is_of v x.ty) WrongType _ tt may).1).0
    where
      by : (content : Content) → is_unset content ≡ true → content ≡ store.Unset
      by store.Unset e = refl
      by (store.Set y) e = cc
      by (store.Contains members) e = cc
      by (store.Maps values) e = cc

  store_shows : (datum from : ℕ) (k : Context) → AllYes (requires_data p.registers (on_data.Store datum from) typing) → data_instr (on_data.Store datum from) c ≡ Ok k → DataShows (on_data.Store datum from) k
  store_shows datum from k asked e =
      let v = there_then (slice_get fr.position.values from) WrongRegister _ k e in
      let fits = must_then (suits v.0 (datum_at c datum)) WrongRegister _ k v.2 in
      let h = there_then (right_at fr.rights datum) EmptyRegister _ k fits.1 in
      let may = ok_after (may_store v.0 (datum_of c h.0)) _ k h.2 in
      let q = passed writes_scalar (right_at typing datum) asked.0 in
      let both = and_parts (is_write q.0.mode) (is_scalar q.0.ty) q.2 in
      let one = reg datum q.0 h.0 q.1 h.1 in
      let unset = unset_is one.x v.0 (subst (λ o. may_store v.0 o ≡ Ok tt) one.live may.0) in
      let cell : get m.cells (n.datum h.0) ≡ Some Unset = subst (λ z. get m.cells (n.datum h.0) ≡ Some (cell_of n.datum one.x.ty z)) unset one.cell in
      let y : Datum = subscribers_cleared (set_to v.0 one.x) in
      let put = shows_put n.datum s.store m.cells shows.cells h.0 one.x y (Set v.0) one.live (fresh_below h.0 one.x one.live) fresh_below (sym (ap (λ b. cell_of n.datum b.0 b.1) (cleared_body (set_to v.0 one.x)))) in
      let kept : Kept (store_after s.store h.0 (set_to v.0)).live (insert s.store.live h.0 y) × ((store_after s.store h.0 (set_to v.0)).next ≡ s.store.next) = rw one.live (settled_kept s.store.live h.0 y, refl) in
      let x : Done = done r (at_next_place fr.position) (slice_set r.rights datum None) (Writes (n.datum h.0) (SetTo v.0)) in (
        record {
          done = x;
          is = ap (λ o. option_and_then (λ z. option_map (λ d. done r (at_next_place r.position) (slice_set r.rights datum None) (Writes d (SetTo z))) (to_write (right_at r.rights datum))) (ok (ok_or o WrongRegister))) v.1
              ∙ ap (option_map (λ d. done r (at_next_place r.position) (slice_set r.rights datum None) (Writes d (SetTo v.0)))) (write_of datum q.0 h.0 both.0 one);
          closed = λ d at. cc;
          alone = λ d at not. cc;
          target = (Unset, cell);
          child = refl;
        },
        inl (subst (λ (z : Context). DataGoes (on_data.Store datum from) z x) (same_ok _ k may.1) (record {
          not_contested = refl;
          way = Completed;
          goes_on = refl;
          names = n.datum;
          agree = λ id less. refl;
          position = refl;
          rights = named_set n.datum typing fr.rights datum None None;
          after = insert m.cells (n.datum h.0) (Set v.0);
          edits = ap (λ o. option_map (insert m.cells (n.datum h.0)) (option_and_then (written (SetTo v.0)) o)) cell;
          shown = shows_kept n.datum (record s.store { live = insert s.store.live h.0 y }) (insert m.cells (n.datum h.0) (Set v.0)) put (store_after s.store h.0 (set_to v.0)) kept.0 kept.1;
          shared = shared_put n.datum n.copied n.start (store_after s.store h.0 (set_to v.0)) m.cells m.shared
              (shared_kept n.datum n.copied n.start s.store m.cells m.shared shows.shared (store_after s.store h.0 (set_to v.0))
              (fewer_after _ (insert s.store.live h.0 y) _ (fewer _ _ kept.0) (fewer_put s.store.live h.0 one.x y one.live (let l = cleared_writes (set_to v.0 one.x) in omega (arith, l)))) kept.1)
              (n.datum h.0) (Set v.0);
        })),
      )

  -- ---- NEW

  no_cell : (cell : Cell) → get m.cells next ≡ Some cell → ⊥
  no_cell cell at = new_made m shows.made (n.holder (OfFrame a)) r
      (shows.threads.there (OfFrame a) (Runs r) (ap (option_map (λ frame. Runs (running n.datum typings frame))) runs)) (shows.made.cells fr.spent (n.holder (OfFrame a)) cell at)

  nothing_there : (o : Option Cell) → get m.cells next ≡ o → get m.cells next ≡ None
  nothing_there None e = e
  nothing_there (Some cell) e = absurd (no_cell cell e)

  member_below : (d : ℕ) (z : Datum) (members : Members) (at : Subscript) (id : ℕ) → get s.store.live d ≡ Some z → z.content ≡ store.Contains members → get members at ≡ Some id → id < s.store.next
  member_below d z members at id live is_so there =
      let y = member_there typing c (other_reads program typings s a) (other_writes program typings s a) (fits_of program typings s held_so a fr runs) d z at id live (ap (λ x. get (calls.members_in x) at) is_so ∙ there) in
      fresh_below id y.0 y.1

  -- a register is below the next id
  register_below : (k id : ℕ) → right_at fr.rights k ≡ Some id → id < s.store.next
  register_below k id at = let live = register_is_live program typings s held_so a fr k id runs at in fresh_below id live.0 live.1

  new_shows : (write read : ℕ) (ty : NestedScalar) (k : Context) → data_instr (on_data.New write read ty) c ≡ Ok k → DataShows (on_data.New write read ty) k
  new_shows write read ty k e =
      let free = ok_after (must_be_empty fr.rights write) _ k e in
      let also = ok_after (must_be_empty fr.rights read) _ k free.1 in
      let apart = must_then (not (write == read)) WrongRegister _ k also.1 in
      let id : ℕ = s.store.next in
      let f : ℕ → Name = with_name n.datum id next in
      let here_is : f id ≡ next = name_here n.datum id next in
      let old : named f typing fr.rights ≡ r.rights = named_agrees n.datum f typing fr.rights (λ j d at. name_before n.datum id next d (register_below j d at)) in
      let x : Done = done r (at_next_place fr.position) (slice_set (slice_set r.rights write (Some (record { write = true; of = next }))) read (Some (record { write = false; of = next }))) (Bears (empty_cell ty)) in
      let rights : x.rights ≡ named f (slice_set (slice_set typing write (a_write ty)) read (a_read ty)) (slice_set (slice_set fr.rights write (Some id)) read (Some id)) =
      ap (λ z. slice_set (slice_set r.rights write (Some (record { write = true; of = z }))) read (Some (record { write = false; of = z }))) (sym here_is)
      ∙ ap (λ z. slice_set (slice_set z write (Some (record { write = true; of = f id }))) read (Some (record { write = false; of = f id }))) (sym old)
      ∙ ap (λ z. slice_set z read (Some (record { write = false; of = f id }))) (named_set f typing fr.rights write (a_write ty) (Some id))
      ∙ named_set f (slice_set typing write (a_write ty)) (slice_set fr.rights write (Some id)) read (a_read ty) (Some id) in (
        record { done = x; is = refl; closed = λ d at. cc; alone = λ d at not. cc; target = tt; child = refl },
        inl (subst (λ (z : Context). DataGoes (on_data.New write read ty) z x) (same_ok _ k apart.1) (record {
          not_contested = refl;
          way = Completed;
          goes_on = refl;
          names = f;
          agree = λ d less. name_before n.datum id next d less;
          position = refl;
          rights = rights;
          after = insert m.cells next (empty_cell ty);
          edits = refl;
          shown = shows_new n.datum s.store m.cells shows.cells next ty no_cell (λ same. cc) fresh_below member_below;
          shared = shared_new n.datum n.copied n.start s.store m.cells m.shared shows.shared next ty (nothing_there (get m.cells next) refl);
        })),
      )

  -- ---- INS and TINS

  module _ (by : Scalar) (container subscript member skip : ℕ) (at : Subscript) (id inner : ℕ) (x : Datum) (ms : Members)
      (value_is : slice_get fr.position.values subscript ≡ Some at) (register : right_at fr.rights container ≡ Some id) (live : get s.store.live id ≡ Some x) (content : x.content ≡ store.Contains ms)
      (cell : get m.cells (n.datum id) ≡ Some (Contains (mapped n.datum ms))) (found : member_at s.store id at ≡ get ms at) (name_is : subject_of_data r (on_data.Insert by container subscript member skip) ≡ Into (n.datum id))
      (holds : HoldsWrite (n.datum id) (Runs r))
      (places : on_cells next (cell_at m (subject_of_data r (on_data.Insert by container subscript member skip))) r (on_data.Insert by container subscript member skip)
      ≡ Some (placed r member skip (n.datum id) at (n.datum inner) (member_seen (cell_at m (subject_of_data r (on_data.Insert by container subscript member skip))) at))) where
    abbrev i : DataInstr
    i = on_data.Insert by container subscript member skip

    abbrev puts : Done
    puts = done r (at_next_place fr.position) (slice_set r.rights member None) (Writes (n.datum id) (Put at (n.datum inner)))

    abbrev skips : Done
    skips = done r (at_goal fr.position skip) r.rights Nothing

    is_taken_so : (o : Option ℕ) → member_at s.store id at ≡ o → is_taken s.store fr container subscript ≡ is_some o
    is_taken_so o is_so = ap (λ o. is_some (option_and_then (λ d. option_and_then (λ y. member_at s.store d y) (slice_get fr.position.values subscript)) o)) register
        ∙ ap (λ o. is_some (option_and_then (λ y. member_at s.store id y) o)) value_is ∙ ap is_some is_so

    copied_so : (b : Bool) → n.copied id ≡ b → is_copied n.copied (right_at fr.rights container) ≡ b
    copied_so b c = ap (is_copied n.copied) register ∙ c

    -- it may be put
    free_goes : member_at s.store id at ≡ None → DataGoes i (after_insert c id at inner member skip None) puts
    free_goes is_so =
        let y : Datum = with_member at inner x in
        let free : get (mapped n.datum ms) at ≡ None = get_mapped n.datum ms at ∙ ap (option_map n.datum) (sym found ∙ is_so) in
        let new : Cell = Contains (insert (mapped n.datum ms) at (n.datum inner)) in
        let new_is : new ≡ cell_of n.datum y.ty y.content = ap Contains (sym (insert_mapped n.datum value_cmp_total value_cmp-IsAntisymmetric ms at inner) ∙ ap (λ z. mapped n.datum (insert (calls.members_in z) at inner)) (sym content)) in
        let put = shows_put n.datum s.store m.cells shows.cells id x y new live (fresh_below id x live) fresh_below new_is in
        let kept : Kept (inserted s.store id at inner).live (insert s.store.live id y) × ((inserted s.store id at inner).next ≡ s.store.next) = rw live (kept_itself (insert s.store.live id y), refl) in
        record {
          not_contested = ap (λ b. is_copied n.copied (right_at fr.rights container) && b) (is_taken_so None is_so) ∙ and_false (is_copied n.copied (right_at fr.rights container));
          way = Completed;
          goes_on = refl;
          names = n.datum;
          agree = λ d less. refl;
          position = refl;
          rights = named_set n.datum typing fr.rights member None None;
          after = insert m.cells (n.datum id) new;
          edits = ap (λ o. option_map (insert m.cells (n.datum id)) (option_and_then (written (Put at (n.datum inner))) o)) cell
              ∙ ap (λ o. option_map (insert m.cells (n.datum id)) (put_if_free (mapped n.datum ms) at (n.datum inner) o)) free;
          shown = shows_kept n.datum (record s.store { live = insert s.store.live id y }) (insert m.cells (n.datum id) new) put (inserted s.store id at inner) kept.0 kept.1;
          shared = shared_put n.datum n.copied n.start (inserted s.store id at inner) m.cells m.shared
              (shared_kept n.datum n.copied n.start s.store m.cells m.shared shows.shared (inserted s.store id at inner)
              (fewer_after _ (insert s.store.live id y) _ (fewer _ _ kept.0) (fewer_put s.store.live id x y live (omega arith))) kept.1)
              (n.datum id) new;
        }

    -- taken, and nobody else may write: it skips
    skip_goes : (other : ℕ) → n.copied id ≡ false → DataGoes i (after_insert c id at inner member skip (Some other)) skips
    skip_goes other not = plain i (ap (λ b. b && is_taken s.store fr container subscript) (copied_so false not)) refl _ Skipped _ refl refl refl refl (kept_itself s.store.live) refl

    -- taken, and others may write: no step
    taken_never : (other : ℕ) → n.copied id ≡ true → member_at s.store id at ≡ Some other → IsContest i puts
    taken_never other was is_so =
        let taken : get (mapped n.datum ms) at ≡ Some (n.datum other) = get_mapped n.datum ms at ∙ ap (option_map n.datum) (sym found ∙ is_so) in
        record {
          contested = ap (λ b. b && is_taken s.store fr container subscript) (copied_so true was) ∙ is_taken_so (Some other) is_so;
          never = λ after edits.
              let none : edited m.cells next (edit_of (Writes (n.datum id) (Put at (n.datum inner)))) ≡ None =
              ap (λ o. option_map (insert m.cells (n.datum id)) (option_and_then (written (Put at (n.datum inner))) o)) cell
              ∙ ap (λ o. option_map (insert m.cells (n.datum id)) (put_if_free (mapped n.datum ms) at (n.datum inner) o)) taken in
              cc;
        }

    shared_is : m.shared (n.datum id) ≡ n.copied id
    shared_is = shows.shared.below id (fresh_below id x live)

    -- what it sees of the container's member
    sees : (b : Bool) → n.copied id ≡ b → member_seen (cell_at m (subject_of_data r i)) at ≡ (if b then None else option_map n.datum (member_at s.store id at))
    sees b c = ap (λ o. member_seen (cell_at m o) at) name_is ∙ ap (λ z. member_seen (if z then None else get m.cells (n.datum id)) at) (shared_is ∙ c) ∙ ap (λ o. member_seen (if b then None else o) at) cell ∙ seen b
      where
        seen : (b : Bool) → member_seen (if b then None else Some (Contains (mapped n.datum ms))) at ≡ (if b then None else option_map n.datum (member_at s.store id at))
        seen true = refl
        seen false = get_mapped n.datum ms at ∙ ap (option_map n.datum) (sym found)

    alone_there : (d : Name) → subject_of_data r i ≡ Into d → m.shared d ≡ false → IsAlone m (n.holder (OfFrame a)) d
    alone_there d is not =
        let same : n.datum id ≡ d = same_into (n.datum id) d (sym name_is ∙ is) in
        let free : n.copied id ≡ false = sym shared_is ∙ ap m.shared same ∙ not in
        subst (IsAlone m (n.holder (OfFrame a))) same
        (alone_shown program typings s held_so n m shows a (Runs r) id x live (shows.shared.few id x live free) (ap (option_map (λ frame. Runs (running n.datum typings frame))) runs) holds)

    no_reading : (d : Name) → subject_of_data r i ≡ Reads d → IsClosed m d
    no_reading d is = let none : Into (n.datum id) ≡ Reads d = sym name_is ∙ is in cc

    abbrev wills_put : member_seen (cell_at m (subject_of_data r i)) at ≡ None → DataWills i
    wills_put none = record {
      done = puts;
      is = places ∙ ap (λ o. Some (placed r member skip (n.datum id) at (n.datum inner) o)) none;
      closed = no_reading;
      alone = alone_there;
      target = (Contains (mapped n.datum ms), cell);
      child = refl;
    }

    abbrev wills_skip : (other : Name) → member_seen (cell_at m (subject_of_data r i)) at ≡ Some other → DataWills i
    wills_skip other some = record {
      done = skips;
      is = places ∙ ap (λ o. Some (placed r member skip (n.datum id) at (n.datum inner) o)) some;
      closed = no_reading;
      alone = alone_there;
      target = tt;
      child = refl;
    }

    insert_by : (b : Bool) → n.copied id ≡ b → (o : Option ℕ) → member_at s.store id at ≡ o → (k : Context) → after_insert c id at inner member skip o ≡ k → DataShows i k
    insert_by true was None is_so k e = (wills_put (sees true was), inl (subst (λ z. DataGoes i z puts) e (free_goes is_so)))
    insert_by true was (Some other) is_so k e = (wills_put (sees true was), inr (taken_never other was is_so))
    insert_by false was None is_so k e = (wills_put (sees false was ∙ ap (option_map n.datum) is_so), inl (subst (λ z. DataGoes i z puts) e (free_goes is_so)))
    insert_by false was (Some other) is_so k e = (wills_skip (n.datum other) (sees false was ∙ ap (option_map n.datum) is_so), inl (subst (λ z. DataGoes i z skips) e (skip_goes other was)))

  insert_shows : (by : Scalar) (container subscript member skip : ℕ) (k : Context) → AllYes (requires_data p.registers (on_data.Insert by container subscript member skip) typing)
      → data_instr (on_data.Insert by container subscript member skip) c ≡ Ok k → DataShows (on_data.Insert by container subscript member skip) k
  insert_shows by container subscript member skip k asked e =
      let v = ok_first (of_type_at fr.position subscript by) _ k e in
      let h = there_then (right_at fr.rights container) EmptyRegister _ k v.2 in
      let g = there_then (right_at fr.rights member) EmptyRegister _ k h.2 in
      let may = ok_after (may_insert by (datum_of c h.0) (datum_of c g.0)) _ k g.2 in
      let q = passed (writes_container_by by) (right_at typing container) asked.0 in
      let both = and_parts (is_write q.0.mode) (is_container_by by q.0.ty) q.2 in
      let member_met : passes (reads_member_of q.0) (right_at typing member) ≡ true = sym (ap (passes (λ right. passes (reads_member_of right) (right_at typing member))) q.1) ∙ asked.1.0 in
      let w = passed (reads_member_of q.0) (right_at typing member) member_met in
      let one = reg container q.0 h.0 q.1 h.1 in
      let two = reg member w.0 g.0 w.1 g.1 in
      let inner : is_container one.x.ty ≡ true = ap is_container one.ty ∙ by_container by q.0.ty both.1 in
      let ms = container_content one.x inner (held_so.types.store.contents h.0 one.x one.live) in
      let i : DataInstr = on_data.Insert by container subscript member skip in
      let cell : get m.cells (n.datum h.0) ≡ Some (Contains (mapped n.datum ms.0)) = subst (λ z. get m.cells (n.datum h.0) ≡ Some (cell_of n.datum one.x.ty z)) ms.1 one.cell in
      let found : member_at s.store h.0 v.0 ≡ get ms.0 v.0 = ap (option_and_then (λ (z : Datum). get (calls.members_in z.content) v.0)) one.live ∙ ap (λ z. get (calls.members_in z) v.0) ms.1 in
      let writes_so = write_of container q.0 h.0 both.0 one in
      let seen : Option Cell = cell_at m (subject_of_data r i) in
      insert_by by container subscript member skip v.0 h.0 g.0 one.x ms.0 (value_register v.0 v.1) h.1 one.live ms.1 cell found (ap writing writes_so)
      (container, subst (HasWrite (n.datum h.0)) (sym one.named_so) (both.0, refl))
      (ap (λ o. option_and_then (λ at. option_and_then (λ d. option_map (λ right. placed r member skip d at right.of (member_seen seen at)) (right_at r.rights member)) (to_write (right_at r.rights container))) (ok o)) v.1
      ∙ ap (option_and_then (λ d. option_map (λ right. placed r member skip d v.0 right.of (member_seen seen v.0)) (right_at r.rights member))) writes_so
      ∙ ap (option_map (λ right. placed r member skip (n.datum h.0) v.0 right.of (member_seen seen v.0))) two.named_so)
      (n.copied h.0) refl (member_at s.store h.0 v.0) refl k (same_ok _ k may.1)
    where
      container_content : (x : Datum) → is_container x.ty ≡ true → IsOfType x.ty x.content → (members : Members) × (x.content ≡ store.Contains members)
      container_content x inner of = having x.content of
        where
          only : (is_scalar x.ty ≡ false) × (is_map x.ty ≡ false)
          only = container_only x.ty inner

          having : (content : Content) → IsOfType x.ty content → (members : Members) × (content ≡ store.Contains members)
          having store.Unset h = let z : true ≡ false = sym h ∙ only.0 in cc
          having (store.Set y) h = let z : true ≡ false = sym h.0 ∙ only.0 in cc
          having (store.Maps values) h = let z : true ≡ false = sym h.0 ∙ only.1 in cc
          having (store.Contains members) h = (members, refl)

      value_register : (at : Subscript) → of_type_at fr.position subscript by ≡ Ok at → slice_get fr.position.values subscript ≡ Some at
      value_register at e =
          let y = there_then (slice_get fr.position.values subscript) WrongRegister _ at e in
          let t = must_then (same_scalar (scalar_of y.0) by) WrongRegister _ at y.2 in
          y.1 ∙ ap Some (same_value_ok y.0 at t.1)
        where
          same_value_ok : (y z : Value) → ◌≡◌ {A = Result Value Cause} (Ok y) (Ok z) → y ≡ z
          same_value_ok y z e = cc

  -- ---- LOOK and TLOOK

  look_shows : (by : Scalar) (member container subscript skip : ℕ) (k : Context) → AllYes (requires_data p.registers (on_data.Look by member container subscript skip) typing)
      → data_instr (on_data.Look by member container subscript skip) c ≡ Ok k → DataShows (on_data.Look by member container subscript skip) k
  look_shows by member container subscript skip k asked e =
      let v = ok_first (of_type_at fr.position subscript by) _ k e in
      let free = ok_after (must_be_empty fr.rights member) _ k v.2 in
      let h = there_then (right_at fr.rights container) EmptyRegister _ k free.1 in
      let may = ok_after (may_look s.store h.0 v.0) _ k h.2 in
      let q = passed (reads_closed_container_by by) (right_at typing container) asked.1.0 in
      let both = and_parts (is_closed_mode q.0.mode) (is_container_by by q.0.ty) q.2 in
      let one = reg container q.0 h.0 q.1 h.1 in
      let i : DataInstr = on_data.Look by member container subscript skip in
      let sub = subject i container q.0 h.0 refl refl both.0 one in
      let found : member_at s.store h.0 v.0 ≡ get (calls.members_in one.x.content) v.0 = ap (option_and_then (λ (z : Datum). get (calls.members_in z.content) v.0)) one.live in
      let by_name : get (members_in (cell_of n.datum one.x.ty one.x.content)) v.0 ≡ option_map n.datum (member_at s.store h.0 v.0) = member_by n.datum one.x.ty one.x.content v.0 ∙ ap (option_map n.datum) (sym found) in
      let x : Done = looked r member skip (option_map n.datum (member_at s.store h.0 v.0)) in (
        record {
          done = x;
          is = ap (λ o. option_and_then (λ at. option_map (λ z. looked r member skip (get (members_in z) at)) (cell_at m (subject_of_data r i))) (ok o)) v.1
              ∙ ap (option_map (λ z. looked r member skip (get (members_in z) v.0))) sub.is_read_so
              ∙ ap (λ o. Some (looked r member skip o)) by_name;
          closed = sub.closed;
          alone = sub.alone;
          target = idle (option_map n.datum (member_at s.store h.0 v.0));
          child = childless (option_map n.datum (member_at s.store h.0 v.0));
        },
        inl (subst (λ (z : Context). DataGoes i z x) (same_ok _ k may.1) (either (member_at s.store h.0 v.0) (element q.0 h.0 v.0 one.x q.1 one.live one.ty (member_at s.store h.0 v.0) (sym found)))),
      )
    where
      idle : (o : Option Name) → IsThere m.cells (edit_of (looked r member skip o).act)
      idle None = tt
      idle (Some d) = tt

      childless : (o : Option Name) → child_of (looked r member skip o).act ≡ None
      childless None = refl
      childless (Some d) = refl

      -- the member's type, if there is one
      element : (q : RightType) (id : ℕ) (at : Subscript) (x : Datum) → right_at typing container ≡ Some q → get s.store.live id ≡ Some x → x.ty ≡ q.ty → (o : Option ℕ) → get (calls.members_in x.content) at ≡ o
          → (inner : ℕ) → o ≡ Some inner → (ty : NestedScalar) × (a_member_read (right_at typing container) ≡ a_read ty)
      element q id at x typed live ty o there inner some =
          let y = member_there typing c (other_reads program typings s a) (other_writes program typings s a) (fits_of program typings s held_so a fr runs) id x at inner live (there ∙ some) in
          (y.0.ty, ap a_member_read typed ∙ ap (option_and_then a_read) (ap element_of (sym ty) ∙ y.2))

      either : (o : Option ℕ) → ((inner : ℕ) → o ≡ Some inner → (ty : NestedScalar) × (a_member_read (right_at typing container) ≡ a_read ty))
          → DataGoes (on_data.Look by member container subscript skip) (after_look c member skip o) (looked r member skip (option_map n.datum o))
      either None ty = plain (on_data.Look by member container subscript skip) refl refl _ Skipped _ refl refl refl refl (kept_itself s.store.live) refl
      either (Some inner) ty =
          let kept = changed_kept s.store inner one_read_more (λ x. refl) (λ x. omega arith) in
          let of = ty inner refl in
          plain (on_data.Look by member container subscript skip) refl refl _ Completed _ refl refl refl
          (named_set n.datum typing fr.rights member (a_read of.0) (Some inner) ∙ ap (λ t. named n.datum (slice_set typing member t) (slice_set fr.rights member (Some inner))) (sym of.1)) kept.0 kept.1

  -- ---- MINS, MADD and MGET

  map_content : (x : Datum) → is_map x.ty ≡ true → IsOfType x.ty x.content → (values : Values) × (x.content ≡ store.Maps values)
  map_content x mapped of = having x.content of
    where
      plain_one : is_scalar x.ty ≡ false
      plain_one = (map_only x.ty mapped).0

      having : (content : Content) → IsOfType x.ty content → (values : Values) × (content ≡ store.Maps values)
      having store.Unset h = let z : true ≡ false = sym h ∙ plain_one in cc
      having (store.Set y) h = let z : true ≡ false = sym h.0 ∙ plain_one in cc
      having (store.Contains members) h = let z : true ≡ false = sym mapped ∙ (container_only x.ty h.0).1 in cc
      having (store.Maps values) h = (values, refl)

  entry_is : (id : ℕ) (x : Datum) (vs : Values) (at : Subscript) → get s.store.live id ≡ Some x → x.content ≡ store.Maps vs → entry_at s.store id at ≡ get vs at
  entry_is id x vs at live content = ap (option_and_then (λ (z : Datum). get (calls.entries_in z.content) at)) live ∙ ap (λ z. get (calls.entries_in z) at) content

  -- one value more, or another in place of one
  module _ (i : DataInstr) (id : ℕ) (x : Datum) (vs : Values) (at v : Value) (new : Cell) (live : get s.store.live id ≡ Some x) (new_is : new ≡ cell_of n.datum x.ty (store.Maps (insert (calls.entries_in x.content) at v))) where
    abbrev y : Datum
    y = with_entry at v x

    put_shown : ShowsCells n.datum (value_put s.store id at v) (insert m.cells (n.datum id) new)
    put_shown =
        let put = shows_put n.datum s.store m.cells shows.cells id x y new live (fresh_below id x live) fresh_below new_is in
        let kept : Kept (value_put s.store id at v).live (insert s.store.live id y) × ((value_put s.store id at v).next ≡ s.store.next) = rw live (kept_itself (insert s.store.live id y), refl) in
        shows_kept n.datum (record s.store { live = insert s.store.live id y }) (insert m.cells (n.datum id) new) put (value_put s.store id at v) kept.0 kept.1

    put_shared : ShowsShared n.datum n.copied n.start (value_put s.store id at v) (insert m.cells (n.datum id) new) m.shared
    put_shared =
        let kept : Kept (value_put s.store id at v).live (insert s.store.live id y) × ((value_put s.store id at v).next ≡ s.store.next) = rw live (kept_itself (insert s.store.live id y), refl) in
        shared_put n.datum n.copied n.start (value_put s.store id at v) m.cells m.shared
        (shared_kept n.datum n.copied n.start s.store m.cells m.shared shows.shared (value_put s.store id at v)
        (fewer_after _ (insert s.store.live id y) _ (fewer _ _ kept.0) (fewer_put s.store.live id x y live (omega arith))) kept.1)
        (n.datum id) new

  module _ (map subscript from skip : ℕ) (at v : Value) (id : ℕ) (x : Datum) (vs : Values)
      (value_is : slice_get fr.position.values subscript ≡ Some at) (register : right_at fr.rights map ≡ Some id) (live : get s.store.live id ≡ Some x) (content : x.content ≡ store.Maps vs) (no_sums : is_sums x.ty ≡ false)
      (cell : get m.cells (n.datum id) ≡ Some (Maps vs)) (name_is : subject_of_data r (on_data.InsertValue map subscript from skip) ≡ Into (n.datum id))
      (holds : HoldsWrite (n.datum id) (Runs r))
      (places : on_cells next (cell_at m (subject_of_data r (on_data.InsertValue map subscript from skip))) r (on_data.InsertValue map subscript from skip)
      ≡ Some (value_placed r skip (n.datum id) at v (entry_seen (cell_at m (subject_of_data r (on_data.InsertValue map subscript from skip))) at))) where
    abbrev j : DataInstr
    j = on_data.InsertValue map subscript from skip

    abbrev puts_value : Done
    puts_value = done r (at_next_place fr.position) r.rights (Writes (n.datum id) (PutValue at v))

    abbrev skips_value : Done
    skips_value = done r (at_goal fr.position skip) r.rights Nothing

    found_value : entry_at s.store id at ≡ get vs at
    found_value = entry_is id x vs at live content

    value_taken_so : (o : Option Value) → entry_at s.store id at ≡ o → is_value_taken s.store fr map subscript ≡ is_some o
    value_taken_so o is_so = ap (λ o. is_some (option_and_then (λ d. option_and_then (λ y. entry_at s.store d y) (slice_get fr.position.values subscript)) o)) register
        ∙ ap (λ o. is_some (option_and_then (λ y. entry_at s.store id y) o)) value_is ∙ ap is_some is_so

    map_copied_so : (b : Bool) → n.copied id ≡ b → is_copied n.copied (right_at fr.rights map) ≡ b
    map_copied_so b c = ap (is_copied n.copied) register ∙ c

    -- it may be put
    free_value_goes : entry_at s.store id at ≡ None → DataGoes j (after_put c id at skip (Some v)) puts_value
    free_value_goes is_so =
        let free : get vs at ≡ None = sym found_value ∙ is_so in
        let new : Cell = Maps (insert vs at v) in
        let new_is : new ≡ cell_of n.datum x.ty (store.Maps (insert (calls.entries_in x.content) at v)) =
        ap (λ z. Maps (insert (calls.entries_in z) at v)) (sym content) ∙ ap (λ b. if b then Sums (insert (calls.entries_in x.content) at v) else Maps (insert (calls.entries_in x.content) at v)) (sym no_sums) in
        record {
          not_contested = ap (λ b. is_copied n.copied (right_at fr.rights map) && b) (value_taken_so None is_so) ∙ and_false (is_copied n.copied (right_at fr.rights map));
          way = Completed;
          goes_on = refl;
          names = n.datum;
          agree = λ d less. refl;
          position = refl;
          rights = refl;
          after = insert m.cells (n.datum id) new;
          edits = ap (λ o. option_map (insert m.cells (n.datum id)) (option_and_then (written (PutValue at v)) o)) cell
              ∙ ap (λ o. option_map (insert m.cells (n.datum id)) (value_if_free vs at v o)) free;
          shown = put_shown j id x vs at v new live new_is;
          shared = put_shared j id x vs at v new live new_is;
        }

    -- taken, and nobody else may write: it skips
    value_skip_goes : n.copied id ≡ false → DataGoes j (after_put c id at skip None) skips_value
    value_skip_goes not = plain j (ap (λ b. b && is_value_taken s.store fr map subscript) (map_copied_so false not)) refl _ Skipped _ refl refl refl refl (kept_itself s.store.live) refl

    -- taken, and others may write: no step
    value_never : (other : Value) → n.copied id ≡ true → entry_at s.store id at ≡ Some other → IsContest j puts_value
    value_never other was is_so =
        let taken : get vs at ≡ Some other = sym found_value ∙ is_so in
        record {
          contested = ap (λ b. b && is_value_taken s.store fr map subscript) (map_copied_so true was) ∙ value_taken_so (Some other) is_so;
          never = λ after edits.
              let none : edited m.cells next (edit_of (Writes (n.datum id) (PutValue at v))) ≡ None =
              ap (λ o. option_map (insert m.cells (n.datum id)) (option_and_then (written (PutValue at v)) o)) cell
              ∙ ap (λ o. option_map (insert m.cells (n.datum id)) (value_if_free vs at v o)) taken in
              cc;
        }

    map_shared_is : m.shared (n.datum id) ≡ n.copied id
    map_shared_is = shows.shared.below id (fresh_below id x live)

    -- what it sees of the map's value
    sees_value : (b : Bool) → n.copied id ≡ b → entry_seen (cell_at m (subject_of_data r j)) at ≡ (if b then None else entry_at s.store id at)
    sees_value b c = ap (λ o. entry_seen (cell_at m o) at) name_is ∙ ap (λ z. entry_seen (if z then None else get m.cells (n.datum id)) at) (map_shared_is ∙ c) ∙ ap (λ o. entry_seen (if b then None else o) at) cell ∙ seen b
      where
        seen : (b : Bool) → entry_seen (if b then None else Some (Maps vs)) at ≡ (if b then None else entry_at s.store id at)
        seen true = refl
        seen false = sym found_value

    map_alone : (d : Name) → subject_of_data r j ≡ Into d → m.shared d ≡ false → IsAlone m (n.holder (OfFrame a)) d
    map_alone d is not =
        let same : n.datum id ≡ d = same_into (n.datum id) d (sym name_is ∙ is) in
        let free : n.copied id ≡ false = sym map_shared_is ∙ ap m.shared same ∙ not in
        subst (IsAlone m (n.holder (OfFrame a))) same
        (alone_shown program typings s held_so n m shows a (Runs r) id x live (shows.shared.few id x live free) (ap (option_map (λ frame. Runs (running n.datum typings frame))) runs) holds)

    map_unread : (d : Name) → subject_of_data r j ≡ Reads d → IsClosed m d
    map_unread d is = let none : Into (n.datum id) ≡ Reads d = sym name_is ∙ is in cc

    abbrev wills_put_value : entry_seen (cell_at m (subject_of_data r j)) at ≡ None → DataWills j
    wills_put_value none = record {
      done = puts_value;
      is = places ∙ ap (λ o. Some (value_placed r skip (n.datum id) at v o)) none;
      closed = map_unread;
      alone = map_alone;
      target = (Maps vs, cell);
      child = refl;
    }

    abbrev wills_skip_value : (other : Value) → entry_seen (cell_at m (subject_of_data r j)) at ≡ Some other → DataWills j
    wills_skip_value other some = record {
      done = skips_value;
      is = places ∙ ap (λ o. Some (value_placed r skip (n.datum id) at v o)) some;
      closed = map_unread;
      alone = map_alone;
      target = tt;
      child = refl;
    }

    value_by_case : (b : Bool) → n.copied id ≡ b → (o : Option Value) → entry_at s.store id at ≡ o → (k : Context) → after_put c id at skip (if_absent o v) ≡ k → DataShows j k
    value_by_case true was None is_so k e = (wills_put_value (sees_value true was), inl (subst (λ z. DataGoes j z puts_value) e (free_value_goes is_so)))
    value_by_case true was (Some other) is_so k e = (wills_put_value (sees_value true was), inr (value_never other was is_so))
    value_by_case false was None is_so k e = (wills_put_value (sees_value false was ∙ is_so), inl (subst (λ z. DataGoes j z puts_value) e (free_value_goes is_so)))
    value_by_case false was (Some other) is_so k e = (wills_skip_value other (sees_value false was ∙ is_so), inl (subst (λ z. DataGoes j z skips_value) e (value_skip_goes was)))

  insert_value_shows : (map subscript from skip : ℕ) (k : Context) → AllYes (requires_data p.registers (on_data.InsertValue map subscript from skip) typing)
      → data_instr (on_data.InsertValue map subscript from skip) c ≡ Ok k → DataShows (on_data.InsertValue map subscript from skip) k
  insert_value_shows map subscript from skip k asked e =
      let at = there_then (slice_get fr.position.values subscript) WrongRegister _ k e in
      let v = there_then (slice_get fr.position.values from) WrongRegister _ k at.2 in
      let fits = must_then (suits_entry at.0 v.0 (datum_at c map)) WrongRegister _ k v.2 in
      let h = there_then (right_at fr.rights map) EmptyRegister _ k fits.1 in
      let may = ok_after (may_put at.0 v.0 (datum_of c h.0)) _ k h.2 in
      let q = passed writes_map (right_at typing map) asked.0 in
      let both = and_parts (is_write q.0.mode) (is_plain_map q.0.ty) q.2 in
      let one = reg map q.0 h.0 q.1 h.1 in
      let kinds = and_parts (is_map one.x.ty) (not (has_sums one.x.ty.map)) (ap is_plain_map one.ty ∙ both.1) in
      let no_sums : is_sums one.x.ty ≡ false = plain_no_sums (is_map one.x.ty) (has_sums one.x.ty.map) kinds.1 in
      let vs = map_content one.x kinds.0 (held_so.types.store.contents h.0 one.x one.live) in
      let i : DataInstr = on_data.InsertValue map subscript from skip in
      let cell : get m.cells (n.datum h.0) ≡ Some (Maps vs.0) = subst (λ z. get m.cells (n.datum h.0) ≡ Some (cell_of n.datum one.x.ty z)) vs.1 one.cell ∙ ap (λ b. Some (if b then Sums vs.0 else Maps vs.0)) no_sums in
      let writes_so = write_of map q.0 h.0 both.0 one in
      let seen : Option Cell = cell_at m (subject_of_data r i) in
      value_by_case map subscript from skip at.0 v.0 h.0 one.x vs.0 at.1 h.1 one.live vs.1 no_sums cell (ap writing writes_so)
      (map, subst (HasWrite (n.datum h.0)) (sym one.named_so) (both.0, refl))
      (ap (λ o. option_and_then (λ at. option_and_then (λ x. option_map (λ d. value_placed r skip d at x (entry_seen seen at)) (to_write (right_at r.rights map))) (ok (value_at r.position from))) (ok (ok_or o WrongRegister))) at.1
      ∙ ap (λ o. option_and_then (λ x. option_map (λ d. value_placed r skip d at.0 x (entry_seen seen at.0)) (to_write (right_at r.rights map))) (ok (ok_or o WrongRegister))) v.1
      ∙ ap (option_map (λ d. value_placed r skip d at.0 v.0 (entry_seen seen at.0))) writes_so)
      (n.copied h.0) refl (entry_at s.store h.0 at.0) refl k (same_ok _ k may.1)
    where
      plain_no_sums : (b c : Bool) → not c ≡ true → (b && c) ≡ false
      plain_no_sums b true e = cc
      plain_no_sums true false e = refl
      plain_no_sums false false e = refl

  add_value_shows : (map subscript from : ℕ) (k : Context) → AllYes (requires_data p.registers (on_data.AddValue map subscript from) typing)
      → data_instr (on_data.AddValue map subscript from) c ≡ Ok k → DataShows (on_data.AddValue map subscript from) k
  add_value_shows map subscript from k asked e =
      let at = there_then (slice_get fr.position.values subscript) WrongRegister _ k e in
      let v = ok_first (int_at fr.position from) _ k at.2 in
      let fits = must_then (suits_subscript at.0 (datum_at c map)) WrongRegister _ k v.2 in
      let h = there_then (right_at fr.rights map) EmptyRegister _ k fits.1 in
      let may = ok_after (may_add at.0 (datum_of c h.0)) _ k h.2 in
      let q = passed writes_sums (right_at typing map) asked.0 in
      let both = and_parts (is_write q.0.mode) (is_sums q.0.ty && same_scalar scalar.Int q.0.ty.scalar) q.2 in
      let one = reg map q.0 h.0 q.1 h.1 in
      let sums : is_sums one.x.ty ≡ true = ap is_sums one.ty ∙ (and_parts (is_sums q.0.ty) _ both.1).0 in
      let vs = map_content one.x (and_parts (is_map one.x.ty) (has_sums one.x.ty.map) sums).0 (held_so.types.store.contents h.0 one.x one.live) in
      let i : DataInstr = on_data.AddValue map subscript from in
      let cell : get m.cells (n.datum h.0) ≡ Some (Sums vs.0) = subst (λ z. get m.cells (n.datum h.0) ≡ Some (cell_of n.datum one.x.ty z)) vs.1 one.cell ∙ ap (λ b. Some (if b then Sums vs.0 else Maps vs.0)) sums in
      let found : entry_at s.store h.0 at.0 ≡ get vs.0 at.0 = entry_is h.0 one.x vs.0 at.0 one.live vs.1 in
      let sum : Value = sum_with (entry_at s.store h.0 at.0) v.0 in
      let new : Cell = Sums (insert vs.0 at.0 (sum_with (get vs.0 at.0) v.0)) in
      let new_is : new ≡ cell_of n.datum one.x.ty (store.Maps (insert (calls.entries_in one.x.content) at.0 sum)) =
      ap (λ o. Sums (insert vs.0 at.0 (sum_with o v.0))) (sym found) ∙ ap (λ z. Sums (insert (calls.entries_in z) at.0 sum)) (sym vs.1)
      ∙ ap (λ b. if b then Sums (insert (calls.entries_in one.x.content) at.0 sum) else Maps (insert (calls.entries_in one.x.content) at.0 sum)) (sym sums) in
      let x : Done = done r (at_next_place fr.position) r.rights (Writes (n.datum h.0) (Add at.0 v.0)) in (
        record {
          done = x;
          is = ap (λ o. option_and_then (λ at. option_and_then (λ n. option_map (λ d. done r (at_next_place r.position) r.rights (Writes d (Add at n))) (to_write (right_at r.rights map))) (ok (int_at r.position from))) (ok (ok_or o WrongRegister))) at.1
              ∙ ap (λ o. option_and_then (λ n. option_map (λ d. done r (at_next_place r.position) r.rights (Writes d (Add at.0 n))) (to_write (right_at r.rights map))) (ok o)) v.1
              ∙ ap (option_map (λ d. done r (at_next_place r.position) r.rights (Writes d (Add at.0 v.0)))) (write_of map q.0 h.0 both.0 one);
          closed = λ d at. cc;
          alone = λ d at not. cc;
          target = (Sums vs.0, cell);
          child = refl;
        },
        inl (subst (λ (z : Context). DataGoes i z x) (same_ok _ k may.1) (record {
          not_contested = refl;
          way = Completed;
          goes_on = refl;
          names = n.datum;
          agree = λ id less. refl;
          position = refl;
          rights = refl;
          after = insert m.cells (n.datum h.0) new;
          edits = ap (λ o. option_map (insert m.cells (n.datum h.0)) (option_and_then (written (Add at.0 v.0)) o)) cell;
          shown = put_shown i h.0 one.x vs.0 at.0 sum new one.live new_is;
          shared = put_shared i h.0 one.x vs.0 at.0 sum new one.live new_is;
        })),
      )

  get_value_shows : (to map subscript skip : ℕ) (k : Context) → AllYes (requires_data p.registers (on_data.GetValue to map subscript skip) typing)
      → data_instr (on_data.GetValue to map subscript skip) c ≡ Ok k → DataShows (on_data.GetValue to map subscript skip) k
  get_value_shows to map subscript skip k asked e =
      let v = there_then (slice_get fr.position.values to) WrongRegister _ k e in
      let at = there_then (slice_get fr.position.values subscript) WrongRegister _ k v.2 in
      let fits = must_then (suits_entry at.0 v.0 (datum_at c map)) WrongRegister _ k at.2 in
      let h = there_then (right_at fr.rights map) EmptyRegister _ k fits.1 in
      let may = ok_after (may_read_entry at.0 (scalar_of v.0) (datum_of c h.0)) _ k h.2 in
      let q = passed reads_closed_map (right_at typing map) asked.0 in
      let both = and_parts (is_closed_mode q.0.mode) (is_map q.0.ty) q.2 in
      let one = reg map q.0 h.0 q.1 h.1 in
      let i : DataInstr = on_data.GetValue to map subscript skip in
      let sub = subject i map q.0 h.0 refl refl both.0 one in
      let entry : entry_at s.store h.0 at.0 ≡ get (calls.entries_in one.x.content) at.0 = ap (option_and_then (λ (z : Datum). get (calls.entries_in z.content) at.0)) one.live in
      let entry_so : get (entries_in (cell_of n.datum one.x.ty one.x.content)) at.0 ≡ entry_at s.store h.0 at.0 = ap (λ vs. get vs at.0) (entries_by n.datum one.x.ty one.x.content) ∙ sym entry in
      let found : Option Value = entry_at s.store h.0 at.0 in
      let x : Done = done r (with_result fr.position to skip found) r.rights Nothing in (
        record {
          done = x;
          is = ap (λ o. option_and_then (λ at. option_map (λ z. done r (with_result r.position to skip (get (entries_in z) at)) r.rights Nothing) (cell_at m (subject_of_data r i))) (ok (ok_or o WrongRegister))) at.1
              ∙ ap (option_map (λ z. done r (with_result r.position to skip (get (entries_in z) at.0)) r.rights Nothing)) sub.is_read_so
              ∙ ap (λ o. Some (done r (with_result r.position to skip o) r.rights Nothing)) entry_so;
          closed = sub.closed;
          alone = sub.alone;
          target = tt;
          child = refl;
        },
        inl (subst (λ (z : Context). DataGoes i z x) (same_ok _ k may.1) (either found)),
      )
    where
      either : (found : Option Value) → DataGoes (on_data.GetValue to map subscript skip) (record c { position = with_result fr.position to skip found }) (done r (with_result fr.position to skip found) r.rights Nothing)
      either None = plain (on_data.GetValue to map subscript skip) refl refl _ Skipped _ refl refl refl refl (kept_itself s.store.live) refl
      either (Some y) = plain (on_data.GetValue to map subscript skip) refl refl _ Completed _ refl refl refl refl (kept_itself s.store.live) refl

  -- ---- each of them

  pub data_shows : (i : DataInstr) (k : Context) → slice_get p.code fr.position.place ≡ Some (instr.Data i) → data_instr i c ≡ Ok k → DataShows i k
  data_shows (on_data.New write read ty) k at e = new_shows write read ty k e
  data_shows (on_data.Store datum from) k at e = store_shows datum from k (met (on_data.Store datum from) at) e
  data_shows (on_data.Get to datum) k at e = get_shows to datum k (met (on_data.Get to datum) at) e
  data_shows (on_data.Insert by container subscript member skip) k at e = insert_shows by container subscript member skip k (met (on_data.Insert by container subscript member skip) at) e
  data_shows (on_data.Look by member container subscript skip) k at e = look_shows by member container subscript skip k (met (on_data.Look by member container subscript skip) at) e
  data_shows (on_data.Size to container) k at e = size_shows to container k (met (on_data.Size to container) at) e
  data_shows (on_data.SubscriptAt by to container index skip) k at e = subscript_shows by to container index skip k (met (on_data.SubscriptAt by to container index skip) at) e
  data_shows (on_data.InsertValue map subscript from skip) k at e = insert_value_shows map subscript from skip k (met (on_data.InsertValue map subscript from skip) at) e
  data_shows (on_data.AddValue map subscript from) k at e = add_value_shows map subscript from k (met (on_data.AddValue map subscript from) at) e
  data_shows (on_data.GetValue to map subscript skip) k at e = get_value_shows to map subscript skip k (met (on_data.GetValue to map subscript skip) at) e
  data_shows (on_data.CopyRead to from) k at e = copy_read_shows to from k (met (on_data.CopyRead to from) at) e
  data_shows (on_data.CopyWrite to from) k at e = copy_write_shows to from k (met (on_data.CopyWrite to from) at) e
  data_shows (on_data.DropRead register) k at e = drop_read_shows register k (met (on_data.DropRead register) at) e
  data_shows (on_data.DropWrite register) k at e = drop_write_shows register k (met (on_data.DropWrite register) at) e
