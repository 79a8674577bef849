-- Numbers and counts start small, and each event raises them by at most its size.
use Rattle.std.proofs.Common.{◌≡◌, ◌<◌, ◌≤◌, ◌+◌, ◌-◌, ◌*◌, ◌==◌, ℕ, zero, suc, Bool, true, false, cond, if◌then◌else◌, not, List, [], ◌∷◌, length, fold, drop, slice_get, nat_le, Option, Some, None, refl, arith, subst, sym}
use Rattle.std.specs.Prelude.{Ok}
use Rattle.std.specs.Option.{ok_or}
use Rattle.std.proofs.lemmas.Bool.{and_parts}
use Rattle.std.proofs.lemmas.Bool.Decides.{nat_tests}
use Rattle.std.specs.Cmp.{nat_cmp_total}
use Rattle.std.specs.FinMap as fin
use Rattle.std.specs.FinMap.{contains_key, get, insert, remove, len, len-empty, len-insert}
use Rattle.std.specs.Ordering.{nat_cmp}
use Rattle.tw_types.specs.declared.actor.Actor.{Actor}
use Rattle.tw_types.specs.declared.cause.Cause.TheVariants.{UnsetDatum, WrongRegister}
use Rattle.tw_types.specs.declared.data_type.Scalar.{Scalar}
use Rattle.tw_types.specs.declared.data_type.Scalar.TheVariants as scalar
use Rattle.tw_types.specs.declared.event.Event.{Event}
use Rattle.tw_types.specs.declared.event.Event.TheVariants.{Take, Local, Call, End, Ask, Deliver, Release}
use Rattle.tw_types.specs.declared.input.Input.{Input}
use Rattle.tw_types.specs.declared.param.Param.{Param}
use Rattle.tw_types.specs.declared.value.Value.{Value}
use Rattle.tw_types.specs.Value.{scalar_of}
use Rattle.tw_types.specs.Actor.{actor_cmp, number_in_kind}
use Rattle.tw_types.specs.DataType.{container_of, is_map, is_scalar, map_with, same_type, scalar_type}
use Rattle.tw_types.specs.Given.{Given, Single, Container, Entries, entered, given_for}
use Rattle.tw_types.specs.Layout.{ActorCounts}
use Rattle.tw_types.specs.Mode.{is_write}
use Rattle.tw_types.specs.ValueOrder.{Subscript, value_cmp}
use Rattle.tw_types.proofs.ValueOrder.{value_cmp_total}
use Rattle.tw_types.specs.Nesting.{NestedScalar}
use Rattle.tw_types.specs.Outcome.{Went}
use Rattle.tw_types.specs.Result.{must}
use Rattle.tw_types.specs.Store.{Members, Values, Content, Unset, Set, Contains, Maps, empty_content, Datum, Data, Store, added, drop_read_within, is_closed, is_unheld, members_of, new_datum, read_taken_by, settled_by, subscribers_cleared}
use Rattle.tw_types.specs.StoreCalls as store
use Rattle.tw_types.specs.StoreCalls.{changed, count_in, created, entry_at, inserted, member_at, members_in, value_put, entries_in, with_entry, one_read_more, one_write_less, one_write_more, read_copied, read_dropped, set_to, store_after, stored, with_member, write_copied, write_dropped, subscribed, with_subscriber}
use Rattle.tw_types.specs.StoreChecks.{may_be_read, may_copy_write, may_drop_read, may_drop_write, may_insert, may_add, may_look, may_put, may_read_entry, may_read_members, may_read_subscripts_by, may_retrieve, may_store}
use Rattle.tw_types.specs.Task.{Task}
use Rattle.tw_types.specs.declared.notice.Subscriber.{Subscriber}
use Rattle.tw_types.proofs.ActorOrder.{actor_cmp_total}
use Rattle.tw_types.proofs.Each.{Each, each_empty, each_insert, each_remove}
use Rattle.tw_types.proofs.Outcomes.{IfWent, went_of}
use Rattle.tw_types.proofs.Results.{WhereOk, ok_both, ok_of, ok_then}
use Rattle.tw_code.specs.declared.instr.DataInstr.{DataInstr}
use Rattle.tw_code.specs.declared.instr.DataInstr.TheVariants as on_data
use Rattle.tw_code.specs.declared.procedure.Procedure.{Procedure}
use Rattle.tw_code.specs.format.Program.{IsProgram}
use Rattle.tw_code.specs.machine.Arguments.{procedure_of}
use Rattle.tw_code.specs.machine.Bounds.{AreBelow, AreNumbersBelow, OpeningIsSmall, StepGrows, opening_bound, size_of}
use Rattle.tw_code.specs.machine.Data.{Context, after_insert, after_look, after_put, data_instr, datum_at, datum_of, if_absent, suits, suits_entry, suits_subscript, sum_with}
use Rattle.tw_code.proofs.Givens.{none_fit}
use Rattle.tw_code.specs.machine.Inputs.{are_entries, are_inputs_of, are_members, input_params, is_given_for, is_input_of}
use Rattle.tw_code.specs.machine.Machine.{RunningInstr, step}
use Rattle.tw_code.specs.machine.Opening.{Opened, closed_map, closed_scalar, main_params, nothing_opened, numbered, opened, opening, with_container, with_given, added_given, with_output}
use Rattle.tw_code.specs.machine.Position.{int_at, must_have_type, of_type_at, value_at}
use Rattle.tw_code.specs.machine.Rights.{Rights, held, must_be_empty}
use Rattle.tw_code.specs.machine.State.{Frame, Frames, State, context_of, filled, frame_of, values_in, frame_after_call, with_frame, with_rule, with_task, new_rule}
use Rattle.tw_code.proofs.Leaving.{take_leaves, local_leaves, call_leaves, end_leaves, ask_leaves, deliver_leaves, release_leaves}

-- ---- the store

-- counts and the number of members
abbrev HasCounts : ℕ → Datum → Type 0
HasCounts bound x = (x.reads < bound) × (x.writes < bound) × (count_in x.content < bound)

one_more_member : (members : Members) (subscript : Subscript) (member : ℕ) → len (insert members subscript member) ≤ len members + 1
one_more_member members subscript member = let l = len-insert value_cmp_total members subscript member in omega (arith, l, either (contains_key members subscript) (len members))
  where
    either : (b : Bool) (n : ℕ) → cond b n (n + 1) ≤ n + 1
    either true n = omega arith
    either false n = omega arith

one_more_value : (values : Values) (subscript : Subscript) (x : Value) → len (insert values subscript x) ≤ len values + 1
one_more_value values subscript x = let l = len-insert value_cmp_total values subscript x in omega (arith, l, either (contains_key values subscript) (len values))
  where
    either : (b : Bool) (n : ℕ) → cond b n (n + 1) ≤ n + 1
    either true n = omega arith
    either false n = omega arith

members_within : (content : Content) → len (members_in content) ≤ count_in content
members_within Unset = omega (arith, len-empty value_cmp ℕ)
members_within (Set x) = omega (arith, len-empty value_cmp ℕ)
members_within (Contains members) = omega arith
members_within (Maps values) = omega (arith, len-empty value_cmp ℕ)

values_within : (content : Content) → len (entries_in content) ≤ count_in content
values_within Unset = omega (arith, len-empty value_cmp Value)
values_within (Set x) = omega (arith, len-empty value_cmp Value)
values_within (Contains members) = omega (arith, len-empty value_cmp Value)
values_within (Maps values) = omega arith

no_members : (ty : NestedScalar) → count_in (empty_content ty) ≡ 0
no_members ty = by (is_scalar ty) (is_map ty)
  where
    by : (b c : Bool) → count_in (if b then Unset else if c then Maps fin.empty else Contains fin.empty) ≡ 0
    by true c = refl
    by false true = len-empty value_cmp Value
    by false false = len-empty value_cmp ℕ

-- a store that one call makes of another
record StoreGrown (s t : Store) : Type 0 where
  next : t.next ≤ s.next + 1
  counts : (bound : ℕ) → 0 < bound → Each (HasCounts bound) s.live → Each (HasCounts (bound + 1)) t.live

more_counts : (bound : ℕ) (live : Data) → Each (HasCounts bound) live → Each (HasCounts (bound + 1)) live
more_counts bound live all id x at = let h = all id x at in (omega (arith, h.0), omega (arith, h.1), omega (arith, h.2))

same_store : (s : Store) → StoreGrown s s
same_store s = record { next = omega arith; counts = λ bound some all. more_counts bound s.live all }

-- ---- freeing makes no count greater

module _ (bound : ℕ) where
  abbrev Keeps : (Data → ℕ → Data) → Type 0
  Keeps drop = (live : Data) (id : ℕ) → Each (HasCounts bound) live → Each (HasCounts bound) (drop live id)

  all_kept : (drop : Data → ℕ → Data) → Keeps drop → (ids : List ℕ) (live : Data) → Each (HasCounts bound) live → Each (HasCounts bound) (fold drop live ids)
  all_kept drop keeps [] live all = all
  all_kept drop keeps (id ∷ ids) live all = all_kept drop keeps ids (drop live id) (keeps live id all)

  settled_kept : (drop : Data → ℕ → Data) → Keeps drop → (live : Data) (id : ℕ) (x : Datum) → HasCounts bound x → Each (HasCounts bound) live → Each (HasCounts bound) (settled_by drop live id x)
  settled_kept drop keeps live id x few all = by (is_unheld x)
    where
      by : (b : Bool) → Each (HasCounts bound) (if b then fold drop (remove live id) (members_of x.content) else insert live id x)
      by true = all_kept drop keeps (members_of x.content) (remove live id) (each_remove nat_cmp_total (HasCounts bound) live all id)
      by false = each_insert nat_cmp_total (HasCounts bound) live all id x few

  taken_kept : (drop : Data → ℕ → Data) → Keeps drop → Keeps (λ live id. read_taken_by drop live id (get live id))
  taken_kept drop keeps live id all = found (get live id) refl
    where
      found : (o : Option Datum) → get live id ≡ o → Each (HasCounts bound) (read_taken_by drop live id o)
      found None at = all
      found (Some x) at = by (x.reads == 0)
        where
          less : Datum
          less = record x { reads = x.reads - 1 }

          by : (b : Bool) → Each (HasCounts bound) (if b then live else settled_by drop live id less)
          by true = all
          by false = let few = all id x at in settled_kept drop keeps live id less (omega (arith, few.0), few.1, few.2) all

  drops_keep : (depth : ℕ) → Keeps (drop_read_within depth)
  drops_keep zero = taken_kept (λ live _. live) (λ live id all. all)
  drops_keep (suc depth) = taken_kept (drop_read_within depth) (drops_keep depth)

-- ---- a datum changes

-- counts grow by one at most
abbrev Adds : (Datum → Datum) → Type 0
Adds f = (bound : ℕ) (x : Datum) → HasCounts bound x → HasCounts (bound + 1) (f x)

cleared_counts : (bound : ℕ) (x : Datum) → HasCounts bound x → HasCounts bound (subscribers_cleared x)
cleared_counts bound x few = by (is_closed x)
  where
    by : (b : Bool) → HasCounts bound (if b then record x { subscribers = [] } else x)
    by true = few
    by false = few

changed_grown : (s : Store) (id : ℕ) (f : Datum → Datum) → Adds f → StoreGrown s (changed s id f)
changed_grown s id f adds = by (get s.live id) refl
  where
    by : (o : Option Datum) → get s.live id ≡ o → StoreGrown s (changed s id f)
    by None at = rw at (same_store s)
    by (Some x) at = rw at (record { next = omega arith; counts = λ bound some all. each_insert nat_cmp_total (HasCounts (bound + 1)) s.live (more_counts bound s.live all) id (f x) (adds bound x (all id x at)) })

-- like `changed`, when the datum may be closed or freed by the change
after_grown : (s : Store) (id : ℕ) (f : Datum → Datum) → Adds f → StoreGrown s (store_after s id f)
after_grown s id f adds = by (get s.live id) refl
  where
    by : (o : Option Datum) → get s.live id ≡ o → StoreGrown s (store_after s id f)
    by None at = rw at (same_store s)
    by (Some x) at = rw at (record {
      next = omega arith;
      counts = λ bound some all. settled_kept (bound + 1) (drop_read_within 2) (drops_keep (bound + 1) 2) s.live id (subscribers_cleared (f x)) (cleared_counts (bound + 1) (f x) (adds bound x (all id x at))) (more_counts bound s.live all);
    })

-- ---- the calls of a store

created_grown : (s : Store) (ty : NestedScalar) → StoreGrown s (created s ty)
created_grown s ty = record {
  next = omega arith;
  counts = λ bound some all. each_insert nat_cmp_total (HasCounts (bound + 1)) s.live (more_counts bound s.live all) s.next (new_datum ty) (omega arith, omega arith, omega (arith, no_members ty));
}

stored_grown : (s : Store) (id : ℕ) (x : Value) → StoreGrown s (stored s id x)
stored_grown s id x = after_grown s id (set_to x) (λ bound d few. (omega (arith, few.0), omega (arith, few.1), omega arith))

inserted_grown : (s : Store) (id : ℕ) (subscript : Subscript) (member : ℕ) → StoreGrown s (inserted s id subscript member)
inserted_grown s id subscript member = changed_grown s id (with_member subscript member) (λ bound d few. (omega (arith, few.0), omega (arith, few.1), omega (arith, one_more_member (members_in d.content) subscript member, members_within d.content, few.2)))

put_grown : (s : Store) (id : ℕ) (subscript : Subscript) (x : Value) → StoreGrown s (value_put s id subscript x)
put_grown s id subscript x = changed_grown s id (with_entry subscript x) (λ bound d few. (omega (arith, few.0), omega (arith, few.1), omega (arith, one_more_value (entries_in d.content) subscript x, values_within d.content, few.2)))

read_copied_grown : (s : Store) (id : ℕ) → StoreGrown s (read_copied s id)
read_copied_grown s id = changed_grown s id one_read_more (λ bound d few. (omega (arith, few.0), omega (arith, few.1), omega (arith, few.2)))

write_copied_grown : (s : Store) (id : ℕ) → StoreGrown s (write_copied s id)
write_copied_grown s id = changed_grown s id one_write_more (λ bound d few. (omega (arith, few.0), omega (arith, few.1), omega (arith, few.2)))

read_dropped_grown : (s : Store) (id : ℕ) → StoreGrown s (read_dropped s id)
read_dropped_grown s id = record { next = omega arith; counts = λ bound some all. more_counts bound _ (drops_keep bound 3 s.live id all) }

write_dropped_grown : (s : Store) (id : ℕ) → StoreGrown s (write_dropped s id)
write_dropped_grown s id = after_grown s id one_write_less (λ bound d few. (omega (arith, few.0), omega (arith, few.1), omega (arith, few.2)))

-- ---- the instructions on data

insert_grown : (c : Context) (id : ℕ) (at : Subscript) (member register skip : ℕ) (found : Option ℕ) → StoreGrown c.store (after_insert c id at member register skip found).store
insert_grown c id at member register skip None = inserted_grown c.store id at member
insert_grown c id at member register skip (Some other) = same_store c.store

look_grown : (c : Context) (register skip : ℕ) (found : Option ℕ) → StoreGrown c.store (after_look c register skip found).store
look_grown c register skip None = same_store c.store
look_grown c register skip (Some member) = read_copied_grown c.store member

entry_grown : (c : Context) (id : ℕ) (at : Subscript) (skip : ℕ) (x : Option Value) → StoreGrown c.store (after_put c id at skip x).store
entry_grown c id at skip None = same_store c.store
entry_grown c id at skip (Some x) = put_grown c.store id at x

-- one line for each instruction
data_grown : (i : DataInstr) (c : Context) → WhereOk (data_instr i c) (λ e. StoreGrown c.store e.store)
data_grown (on_data.New write read ty) c =
    ok_then (must_be_empty c.rights write) (λ _. ok_then (must_be_empty c.rights read) (λ _. ok_then (must (not (write == read)) WrongRegister) (λ _. record { is = created_grown c.store ty })))
data_grown (on_data.Store datum from) c =
    ok_both (value_at c.position from) (λ x _. ok_then (must (suits x (datum_at c datum)) WrongRegister) (λ _. ok_both (held c.rights datum) (λ id _. ok_then (may_store x (datum_of c id)) (λ _. record { is = stored_grown c.store id x }))))
data_grown (on_data.Get to datum) c =
    ok_both (value_at c.position to) (λ old _. ok_then (must (suits old (datum_at c datum)) WrongRegister) (λ _. ok_both (held c.rights datum) (λ id _. ok_then (may_retrieve (datum_of c id)) (λ _. ok_both (ok_or (store.value_at c.store id) UnsetDatum) (λ x _. record { is = same_store c.store })))))
data_grown (on_data.Insert by container subscript member skip) c =
    ok_both (of_type_at c.position subscript by) (λ at _. ok_both (held c.rights container) (λ id _. ok_both (held c.rights member) (λ inner _. ok_then (may_insert by (datum_of c id) (datum_of c inner)) (λ _. record { is = insert_grown c id at inner member skip (member_at c.store id at) }))))
data_grown (on_data.Look by member container subscript skip) c =
    ok_both (of_type_at c.position subscript by) (λ at _. ok_then (must_be_empty c.rights member) (λ _. ok_both (held c.rights container) (λ id _. ok_then (may_look c.store id at) (λ _. record { is = look_grown c member skip (member_at c.store id at) }))))
data_grown (on_data.Size to container) c =
    ok_then (must_have_type c.position to scalar.Int) (λ _. ok_both (held c.rights container) (λ id _. ok_then (may_read_members (datum_of c id)) (λ _. record { is = same_store c.store })))
data_grown (on_data.SubscriptAt by to container index skip) c =
    ok_then (must_have_type c.position to by) (λ _. ok_both (int_at c.position index) (λ count _. ok_both (held c.rights container) (λ id _. ok_then (may_read_subscripts_by by (datum_of c id)) (λ _. record { is = same_store c.store }))))
data_grown (on_data.InsertValue register subscript from skip) c =
    ok_both (value_at c.position subscript) (λ at _. ok_both (value_at c.position from) (λ x _. ok_then (must (suits_entry at x (datum_at c register)) WrongRegister) (λ _. ok_both (held c.rights register) (λ id _. ok_then (may_put at x (datum_of c id)) (λ _. record { is = entry_grown c id at skip (if_absent (entry_at c.store id at) x) })))))
data_grown (on_data.AddValue register subscript from) c =
    ok_both (value_at c.position subscript) (λ at _. ok_both (int_at c.position from) (λ n _. ok_then (must (suits_subscript at (datum_at c register)) WrongRegister) (λ _. ok_both (held c.rights register) (λ id _. ok_then (may_add at (datum_of c id)) (λ _. record { is = put_grown c.store id at (sum_with (entry_at c.store id at) n) })))))
data_grown (on_data.GetValue to register subscript skip) c =
    ok_both (value_at c.position to) (λ old _. ok_both (value_at c.position subscript) (λ at _. ok_then (must (suits_entry at old (datum_at c register)) WrongRegister) (λ _. ok_both (held c.rights register) (λ id _. ok_then (may_read_entry at (scalar_of old) (datum_of c id)) (λ _. record { is = same_store c.store })))))
data_grown (on_data.CopyRead to from) c =
    ok_then (must_be_empty c.rights to) (λ _. ok_both (held c.rights from) (λ id _. ok_then (may_be_read (datum_of c id)) (λ _. record { is = read_copied_grown c.store id })))
data_grown (on_data.CopyWrite to from) c =
    ok_then (must_be_empty c.rights to) (λ _. ok_both (held c.rights from) (λ id _. ok_then (may_copy_write (datum_of c id)) (λ _. record { is = write_copied_grown c.store id })))
data_grown (on_data.DropRead right) c =
    ok_both (held c.rights right) (λ id _. ok_then (may_drop_read (datum_of c id)) (λ _. record { is = read_dropped_grown c.store id }))
data_grown (on_data.DropWrite right) c =
    ok_both (held c.rights right) (λ id _. ok_then (may_drop_write (datum_of c id)) (λ _. record { is = write_dropped_grown c.store id }))

-- ---- events

abbrev HasSpent : ℕ → Frame → Type 0
HasSpent bound frame = frame.spent < bound

-- a state that one event of this size makes of another
record Grown (size : ℕ) (s t : State) : Type 0 where
  some : 0 < size
  store : StoreGrown s.store t.store
  task : t.next_task ≤ s.next_task + 1
  rule : t.next_rule ≤ s.next_rule + 1
  spent : (bound : ℕ) → Each (HasSpent bound) s.frames → Each (HasSpent (bound + size)) t.frames

more_spent : (bound size : ℕ) (s : State) → Each (HasSpent bound) s.frames → Each (HasSpent (bound + size)) s.frames
more_spent bound size s all actor frame at = omega (arith, all actor frame at)

-- if no frame changes
same_frames : (s t : State) → StoreGrown s.store t.store → t.next_task ≤ s.next_task + 1 → t.next_rule ≤ s.next_rule + 1 → t.frames ≡ s.frames → Grown 1 s t
same_frames s t store task rule same = record {
  some = omega arith;
  store = store;
  task = task;
  rule = rule;
  spent = λ bound all. subst (Each (HasSpent (bound + 1))) (sym same) (more_spent bound 1 s all);
}

begun_spent : (program : List Procedure) (number : ℕ) (task : Task) (frame : Frame) → frame_of program number task ≡ Ok frame → frame.spent ≡ 0
begun_spent program number task frame = ok_of (frame_of program number task) (λ f. f.spent ≡ 0) frame
    (ok_both (procedure_of program task.procedure) (λ p _. ok_both (filled (values_in task.args) p.registers) (λ values _. record { is = refl })))

module _ (actor : Actor) (s : State) where
  -- a frame replaces another, whose count it exceeds by the size, or is new
  framed : (bound size : ℕ) (frame : Frame) → frame.spent < bound + size → Each (HasSpent bound) s.frames → Each (HasSpent (bound + size)) (insert s.frames actor frame)
  framed bound size frame few all = each_insert actor_cmp_total (HasSpent (bound + size)) s.frames (more_spent bound size s all) actor frame few

  -- the frame is after a RULE or PUT
  one_more : (at : RunningInstr) → get s.frames actor ≡ Some at.frame → (rights : Rights) (t : State) → Grown 1 s t → t.frames ≡ s.frames → Grown 1 s (with_frame t actor (frame_after_call at.frame rights))
  one_more at here rights t grown same = record {
    some = omega arith;
    store = grown.store;
    task = grown.task;
    rule = grown.rule;
    spent = λ bound all. subst (λ (m : Frames). Each (HasSpent (bound + 1)) (insert m actor (frame_after_call at.frame rights))) (sym same) (framed bound 1 (frame_after_call at.frame rights) (let few = all actor at.frame here in omega arith) all);
  }

one_subscriber_more : (s : Store) (id : ℕ) (subscriber : Subscriber) → StoreGrown s (subscribed s id subscriber)
one_subscriber_more s id subscriber = changed_grown s id (with_subscriber subscriber) (λ bound d few. (omega (arith, few.0), omega (arith, few.1), omega (arith, few.2)))

event_grown : (program : List Procedure) (layout : ActorCounts) (event : Event) (s : State) → IfWent (step program layout event s) (Grown (size_of event) s)
unfolding step
event_grown program layout (Take actor) s = take_leaves program actor s layout (λ task frame _ begun. record {
  some = omega arith;
  store = same_store s.store;
  task = omega arith;
  rule = omega arith;
  spent = λ bound all. framed actor s bound 1 frame (let none = begun_spent program task.0 task.1 frame begun in omega arith) all;
})
event_grown program layout (Local actor n) s = local_leaves program actor s n (λ frame at some here. record {
  some = grind (arith, nat_tests, some);
  store = same_store s.store;
  task = omega arith;
  rule = omega arith;
  spent = λ bound all. framed actor s bound n (record frame { position = at; spent = frame.spent + n }) (let few = all actor frame here in omega arith) all;
})
event_grown program layout (Call actor) s = call_leaves program actor s
    (λ at i c here went. record {
      some = omega arith;
      store = ok_of (data_instr i (context_of s at.frame)) (λ e. StoreGrown s.store e.store) c (data_grown i (context_of s at.frame)) went;
      task = omega arith;
      rule = omega arith;
      spent = λ bound all. framed actor s bound 1 _ (let few = all actor at.frame here.frame in omega arith) all;
    })
    (λ at action call here _. one_more actor s at here.frame call.rights (with_rule s (new_rule (number_in_kind actor) call.params call.task)) (same_frames s _ (same_store s.store) (omega arith) (omega arith) refl) refl)
    (λ at action call here _. one_more actor s at here.frame call.rights (with_task s call.task) (same_frames s _ (same_store s.store) (omega arith) (omega arith) refl) refl)
event_grown program layout (End actor) s = end_leaves program actor s (record {
  some = omega arith;
  store = same_store s.store;
  task = omega arith;
  rule = omega arith;
  spent = λ bound all. each_remove actor_cmp_total (HasSpent (bound + 1)) s.frames (more_spent bound 1 s all) actor;
})
event_grown program layout (Ask engine number parameter) s = ask_leaves s engine number parameter
    (λ rule id x _. same_frames s _ (same_store s.store) (omega arith) (omega arith) refl)
    (λ rule id x _. same_frames s _ (one_subscriber_more s.store id (record { rule = number; parameter = parameter })) (omega arith) (omega arith) refl)
event_grown program layout (Deliver server datum rule parameter) s = deliver_leaves s layout server (record { datum = datum; rule = rule; parameter = parameter })
    (λ _ _. same_frames s _ (same_store s.store) (omega arith) (omega arith) refl)
    (λ rule _ _. same_frames s _ (same_store s.store) (omega arith) (omega arith) refl)
event_grown program layout (Release engine number) s = release_leaves s program engine number (λ rule p _ _. same_frames s _ (same_store s.store) (omega arith) (omega arith) refl)

-- ---- the theorem on events

numbers_more : (bound : ℕ) (s t : State) (size : ℕ) → Grown size s t → AreNumbersBelow bound s → AreNumbersBelow (bound + 1) t
numbers_more bound s t size grown below = record { datum = omega (arith, grown.store.next, below.datum); task = omega (arith, grown.task, below.task); rule = omega (arith, grown.rule, below.rule) }

-- a number below a bound is below a greater one
pub numbers_wider : (bound more : ℕ) (s : State) → bound ≤ more → AreNumbersBelow bound s → AreNumbersBelow more s
numbers_wider bound more s h below = record { datum = omega (arith, below.datum); task = omega (arith, below.task); rule = omega (arith, below.rule) }

pub below_more : (bound more : ℕ) (s : State) → bound ≤ more → AreBelow bound s → AreBelow more s
below_more bound more s h below = record {
  numbers = numbers_wider bound more s h below.numbers;
  reads = λ id x e. omega (arith, below.reads id x e);
  writes = λ id x e. omega (arith, below.writes id x e);
  members = λ id x e. omega (arith, below.members id x e);
  spent = λ actor frame e. omega (arith, below.spent actor frame e);
}

all_more : (bound : ℕ) (s t : State) (size : ℕ) → Grown size s t → AreBelow bound s → AreBelow (bound + size) t
all_more bound s t size grown below =
    let counts : Each (HasCounts (bound + 1)) t.store.live = grown.store.counts bound (omega (arith, below.numbers.datum)) (λ id x e. (below.reads id x e, below.writes id x e, below.members id x e)) in
    let one = grown.some in
    record {
      numbers = numbers_wider (bound + 1) (bound + size) t (omega arith) (numbers_more bound s t size grown below.numbers);
      reads = λ id x e. omega (arith, (counts id x e).0);
      writes = λ id x e. omega (arith, (counts id x e).1);
      members = λ id x e. omega (arith, (counts id x e).2);
      spent = grown.spent bound below.spent;
    }

pub step_grows : (program : List Procedure) (layout : ActorCounts) (event : Event) → StepGrows program layout event
step_grows program layout event = record {
  numbers = λ bound s next below went. numbers_more bound s next (size_of event) (grown s next went) below;
  all = λ bound s next below went. all_more bound s next (size_of event) (grown s next went) below;
}
  where
    grown : (s next : State) → step program layout event s ≡ Went next → Grown (size_of event) s next
    grown s next went = went_of (step program layout event s) (Grown (size_of event) s) next (event_grown program layout event s) went

-- ---- the opening

abbrev IsFew : Datum → Type 0
IsFew x = (x.reads ≤ 1) × (x.writes ≤ 1) × (count_in x.content ≤ 100000)

-- a store in which at most so many data have been made
record IsFresh (made : ℕ) (s : Store) : Type 0 where
  next : s.next ≤ made + 1
  few : Each IsFew s.live

fresh_wider : (made more : ℕ) (s : Store) → made ≤ more → IsFresh made s → IsFresh more s
fresh_wider made more s h fresh = record { next = omega (arith, fresh.next); few = fresh.few }

fresh_added : (made : ℕ) (s : Store) (x : Datum) → IsFew x → IsFresh made s → IsFresh (made + 1) (added s x)
fresh_added made s x few fresh = record { next = omega (arith, fresh.next); few = each_insert nat_cmp_total IsFew s.live fresh.few s.next x few }

scalar_few : (x : Value) → IsFew (closed_scalar x)
scalar_few x = (omega arith, omega arith, omega arith)

fresh_scalars : (es : List (Subscript × Value)) (made : ℕ) (s : Store) → IsFresh made s → IsFresh (made + length es) (fold (λ (t : Store) (e : Subscript × Value). added t (closed_scalar e.1)) s es)
fresh_scalars [] made s fresh = fresh_wider made (made + 0) s (omega arith) fresh
fresh_scalars (e ∷ es) made s fresh = fresh_wider (made + 1 + length es) (made + length (e ∷ es)) _ (omega arith) (fresh_scalars es (made + 1) (added s (closed_scalar e.1)) (fresh_added made s (closed_scalar e.1) (scalar_few e.1) fresh))

numbered_few : (es : List (Subscript × Value)) (id : ℕ) → len (numbered id es) ≤ length es
numbered_few [] id = omega (arith, len-empty value_cmp ℕ)
numbered_few (e ∷ es) id = omega (arith, one_more_member (numbered (id + 1) es) e.0 id, numbered_few es (id + 1))

fresh_container : (made : ℕ) (s : Store) (by ty : Scalar) (es : List (Subscript × Value)) → length es ≤ 1000 → IsFresh made s → IsFresh (made + 1001) (with_container s by ty es)
fresh_container made s by ty es short fresh =
    fresh_wider (made + 1 + length es) (made + 1001) _ (omega arith) (fresh_scalars es (made + 1) _ (fresh_added made s _ (omega arith, omega arith, omega (arith, numbered_few es (s.next + 1))) fresh))

entered_few : (es : List (Subscript × Value)) → len (entered es) ≤ length es
entered_few [] = omega (arith, len-empty value_cmp Value)
entered_few (e ∷ es) = omega (arith, one_more_value (entered es) e.0 e.1, entered_few es)

fresh_given : (made : ℕ) (s : Store) (ty : NestedScalar) (given : Given) → is_given_for ty given ≡ true → IsFresh made s → IsFresh (made + 1001) (added_given s given)
fresh_given made s ty (Single x) h fresh = fresh_wider (made + 1) (made + 1001) _ (omega arith) (fresh_added made s _ (scalar_few x) fresh)
fresh_given made s ty (Container by scalar es) h fresh =
    let few = (and_parts (nat_le (length es) 1000) _ (and_parts (same_type ty (container_of by (scalar_type scalar))) (are_members es) h).1).0 in
    fresh_container made s by scalar es (grind (arith, nat_tests, few)) fresh
fresh_given made s ty (Entries sums by scalar es) h fresh =
    let few : length es ≤ 100000 = grind (arith, nat_tests, (and_parts (nat_le (length es) 100000) _ (and_parts (same_type ty (map_with sums by scalar)) (are_entries es) h).1).0) in
    fresh_wider (made + 1) (made + 1001) _ (omega arith) (fresh_added made s (closed_map sums by scalar es) (omega arith, omega arith, omega (arith, entered_few es, few)) fresh)

fresh_output : (made : ℕ) (o : Opened) (ty : NestedScalar) → IsFresh made o.store → IsFresh (made + 1001) (with_output o ty).store
fresh_output made o ty fresh = fresh_wider (made + 1) (made + 1001) _ (omega arith) (fresh_added made o.store (new_datum ty) (omega arith, omega arith, omega (arith, no_members ty)) fresh)

-- the greatest number of data that the parameters make
abbrev room_of : List Param → ℕ
room_of [] = 0
room_of (p ∷ params) = 1001 + room_of params

-- the data that the parameters from here on make
abbrev AreFresh : List Param → Type 0
AreFresh params = (inputs : List Input) (made : ℕ) (o : Opened) → are_inputs_of (input_params params) inputs ≡ true → IsFresh made o.store → IsFresh (made + room_of params) (opened o params inputs).store

module _ (p : Param) (params : List Param) (rest : AreFresh params) (made : ℕ) (o : Opened) (fresh : IsFresh made o.store) where
  more : (n : ℕ) (t : Store) → n ≤ made + 1001 → IsFresh (n + room_of params) t → IsFresh (made + room_of (p ∷ params)) t
  more n t h fresh = fresh_wider (n + room_of params) (made + room_of (p ∷ params)) t (omega arith) fresh

  given : (inputs : List Input) → are_inputs_of (p ∷ input_params params) inputs ≡ true → IsFresh (made + room_of (p ∷ params)) (opened (with_given o p.ty (slice_get inputs 0)) params (drop 1 inputs)).store
  given [] fit = more made _ (omega arith) (rest [] made o (none_fit (input_params params)) fresh)
  given (i ∷ inputs) fit =
      let parts = and_parts (is_input_of p.ty i) (are_inputs_of (input_params params) inputs) fit in
      more (made + 1001) _ (omega arith) (rest inputs (made + 1001) (with_given o p.ty (Some i)) parts.1 (fresh_given made o.store p.ty (given_for p.ty i) parts.0 fresh))

  by_mode : (inputs : List Input) (b : Bool) → are_inputs_of (cond (not b) (p ∷ input_params params) (input_params params)) inputs ≡ true
      → IsFresh (made + room_of (p ∷ params)) (cond b (opened (with_output o p.ty) params inputs) (opened (with_given o p.ty (slice_get inputs 0)) params (drop 1 inputs))).store
  by_mode inputs true fit = more (made + 1001) _ (omega arith) (rest inputs (made + 1001) (with_output o p.ty) fit (fresh_output made o p.ty fresh))
  by_mode inputs false fit = given inputs fit

fresh_opened : (params : List Param) → AreFresh params
fresh_opened [] inputs made o fit fresh = fresh_wider made (made + 0) _ (omega arith) fresh
fresh_opened (p ∷ params) inputs made o fit fresh = by_mode p params (fresh_opened params) made o fresh inputs (is_write p.mode) fit

few_params : (program : List Procedure) → IsProgram program → length (main_params program) ≤ 8
few_params [] h = omega arith
few_params (main ∷ others) h = h.1.0.params.0.1

small_room : (params : List Param) → room_of params ≡ 1001 * length params
small_room [] = refl
small_room (p ∷ params) = omega (arith, small_room params)

pub opening_is_small : (program : List Procedure) (inputs : List Input) → OpeningIsSmall program inputs
unfolding opening
opening_is_small program inputs within fit =
    let fresh = fresh_opened (main_params program) inputs 0 nothing_opened fit.fit
    (record { next = omega arith; few = each_empty nat_cmp IsFew }) in
    let room = small_room (main_params program) in
    let few = few_params program within in
    record {
      numbers = record { datum = omega (arith, fresh.next); task = omega arith; rule = omega arith };
      reads = λ id x e. omega (arith, (fresh.few id x e).0);
      writes = λ id x e. omega (arith, (fresh.few id x e).1);
      members = λ id x e. omega (arith, (fresh.few id x e).2);
      spent = each_empty actor_cmp (HasSpent opening_bound);
    }
