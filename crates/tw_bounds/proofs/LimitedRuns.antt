-- Each event does at most what the limit counts for it.
use Rattle.std.proofs.Common.{◌≡◌, ℕ, zero, suc, ◌+◌, ◌*◌, ◌<◌, ◌≤◌, ◌||◌, Bool, true, false, if◌then◌else◌, is_none, List, [], ◌∷◌, length, map, slice_get, Some, refl, sym, ap, ◌∙◌, subst, arith}
use Rattle.tw_bounds.proofs.Names.{Actor, ActorCounts, AreLimitedBounds, AreRight, Ask, AtMost, Bound, Call, DataInstr, Deliver, End, Event, Frame, IfWent, Instr, IsHeld, IsLargestBudget, IsProgram, IsRunningAt, LimitedBounds, LimitsRuns, Local, Procedure, Ready, Release, RightLeft, Rule, Scalar, Stage, State, Store, Take, Task, Typings, Waiting, Went, accepts, actor_cmp, actor_cmp-IsAntisymmetric, actor_cmp_total, adds_member, adds_texts, ask_leaves, at_stage, below_budget, called, context_of, data_instr, deliver_leaves, end_leaves, flows, frame_after_call, get, has_instr, if_both, if_ok, if_only, if_then, insert, instructions_by, instructions_in, is_on_data, is_running_at, is_text, is_text_scalar, kept_by, list_all, list_any, local_leaves, makes_datum, makes_rule, members_held, most_text_registers, most_texts, must, nat_cmp, nat_cmp-IsAntisymmetric, nat_cmp_total, nat_le, new_rule, number_in_kind, ok_of, one_each, opened_held, opening, option_map_or, outcome_of, put_called, reached_is_held, release_leaves, reported, rule_texts, same_Some, same_went, scalar_of, slice_get_within, sum_apart, sum_by-cons, sum_replaced, take_leaves, task_from, task_texts, tasks_by, tasks_in, texts_added, total, total-insert, total-remove, went_first, went_of}
use Rattle.tw_types.proofs.Maps.{get_here}
use Rattle.tw_code.specs.declared.instr.DataInstr.TheVariants as on_data
use Rattle.tw_code.specs.declared.instr.Instr.TheVariants as instr
use Rattle.tw_code.specs.machine.Machine.{RunningInstr, call_by, call_event, end_event, is_ret, local_event, run, running_instr_of, step}
use Rattle.tw_bounds.proofs.Holding.{Gains, no_gain, one_if}
use Rattle.tw_bounds.proofs.Moved.{DataGoes, data_goes, for_new, subscribed_gains, subscribed_next, types_fit}
use Rattle.tw_bounds.proofs.Reporting.{is_exact}
use Rattle.tw_bounds.proofs.TextsHeld.{frame_registers, registers_in, rule_within, task_within, texts_by_registers, texts_same}

-- ---- instructions of the program

any_at : {X : Type 0} (test : X → Bool) (xs : List X) (k : ℕ) (x : X) → slice_get xs k ≡ Some x → test x ≡ true → list_any test xs ≡ true
any_at test [] k x at passes = cc
any_at test (y ∷ xs) zero x at passes = let same = same_Some y x at in rw (same, passes) refl
any_at test (y ∷ xs) (suc k) x at passes = by (test y) (any_at test xs k x at passes)
  where
    by : (b : Bool) → list_any test xs ≡ true → (b || list_any test xs) ≡ true
    by true h = refl
    by false h = h

has_at : (test : Instr → Bool) (program : List Procedure) (k : ℕ) (p : Procedure) (place : ℕ) (i : Instr) → slice_get program k ≡ Some p → slice_get p.code place ≡ Some i → test i ≡ true → has_instr test program ≡ true
has_at test program k p place i here at passes = any_at (λ q. list_any test q.code) program k p here (any_at test p.code place i at passes)

abbrev each_if : Bool → ℕ → ℕ
each_if b limit = if b then limit else 0

one_more : (b : Bool) (limit : ℕ) → one_if b + each_if b limit ≡ each_if b (suc limit)
one_more true limit = omega arith
one_more false limit = refl

one_at_most : (b : Bool) → one_if b ≤ 1
one_at_most true = omega arith
one_at_most false = omega arith

some_one : (b : Bool) → b ≡ true → 1 ≤ one_if b
some_one true e = omega arith
some_one false e = cc

-- no procedure has more registers of texts
registers_few : (program : List Procedure) (k : ℕ) → registers_in (slice_get program k) ≤ most_text_registers program
registers_few [] k = omega arith
registers_few (p ∷ program) zero = omega arith
registers_few (p ∷ program) (suc k) = let rest = registers_few program k in omega (arith, rest)

-- ---- what is made by an event

record IsMade (program : List Procedure) (s t : State) : Type 0 where
  new_data : t.store.next ≤ s.store.next + one_if (has_instr makes_datum program)
  rules : t.next_rule ≤ s.next_rule + one_if (has_instr makes_rule program)
  members : members_held t.store ≤ members_held s.store + one_if (has_instr (is_on_data adds_member) program)
  texts : texts_by_registers program t ≤ texts_by_registers program s + most_texts program

-- counts the texts of the rules and tasks of a state
abbrev texts_apart : List Procedure → State → ℕ
texts_apart program s = total rule_texts s.rules + (total task_texts s.tasks + total (frame_registers program) s.frames)

-- an instruction adds at most two texts
two_at_most : (registers : List Scalar) (i : DataInstr) → texts_added registers i ≤ 2
two_at_most registers (on_data.New write read ty) = omega (arith, one_at_most (is_text_scalar ty))
two_at_most registers (on_data.Insert by container subscript member skip) = omega (arith, one_at_most (is_text by))
two_at_most registers (on_data.InsertValue map subscript from skip) = omega (arith, one_at_most (option_map_or is_text (slice_get registers subscript) false), one_at_most (option_map_or is_text (slice_get registers from) false))
two_at_most registers (on_data.AddValue map subscript from) = omega (arith, one_at_most (option_map_or is_text (slice_get registers subscript) false))
two_at_most registers i = omega arith

at_most_two : (n : ℕ) → n ≤ 2 → n ≤ one_if (nat_le 1 n) + one_if (nat_le 2 n)
at_most_two zero h = omega arith
at_most_two (suc zero) h = omega arith
at_most_two (suc (suc zero)) h = omega arith
at_most_two (suc (suc (suc n))) h = absurd (omega (arith, h))

-- each running task has values of its registers' types
abbrev HasTypes : List Procedure → State → Type 0
HasTypes program s = (a : Actor) (f : Frame) (p : Procedure) → get s.frames a ≡ Some f → slice_get program f.procedure ≡ Some p → map scalar_of f.position.values ≡ p.registers

-- each rule has at most the texts of its procedure's registers, and so has each waiting task
record AreFew (program : List Procedure) (s : State) : Type 0 where
  rules : (number : ℕ) (rule : Rule) → get s.rules number ≡ Some rule → rule_texts rule ≤ registers_in (slice_get program rule.procedure)
  tasks : (number : ℕ) (task : Task) → get s.tasks number ≡ Some task → task_texts task ≤ registers_in (slice_get program task.procedure)

module _ (program : List Procedure) (s : State) (fits : HasTypes program s) where
  abbrev Made : State → Type 0
  Made t = AreFew program t → IsMade program s t

  same_made : (t : State) → t.store.next ≡ s.store.next → t.next_rule ≡ s.next_rule → Gains 0 0 s.store t.store → texts_apart program t ≤ texts_apart program s + most_text_registers program → IsMade program s t
  same_made t e f gains few = record { new_data = omega (arith, e); rules = omega (arith, f); members = omega (arith, gains.new_members); texts = omega (arith, gains.new_texts, few) }

  same_store : (t : State) → t.store ≡ s.store → t.next_rule ≡ s.next_rule → texts_apart program t ≤ texts_apart program s + most_text_registers program → IsMade program s t
  same_store t e f few = same_made t (ap (λ (u : Store). u.next) e) f (subst (Gains 0 0 s.store) (sym e) (no_gain 0 0 s.store)) few

  -- a frame in place of another of its procedure
  same_frame : (a : Actor) (f g : Frame) → get s.frames a ≡ Some f → g.procedure ≡ f.procedure → total (frame_registers program) (insert s.frames a g) ≡ total (frame_registers program) s.frames
  same_frame a f g runs same =
      let r = sum_replaced actor_cmp actor_cmp_total actor_cmp-IsAntisymmetric (frame_registers program) s.frames a f g runs in
      omega (arith, r, ap (λ (k : ℕ). registers_in (slice_get program k)) same)

  -- a rule at another stage
  same_rule : (number : ℕ) (rule : Rule) (parameter : ℕ) (stage : Stage) → get s.rules number ≡ Some rule → total rule_texts (insert s.rules number (at_stage rule parameter stage)) ≡ total rule_texts s.rules
  same_rule number rule parameter stage pending =
      let r = sum_replaced nat_cmp nat_cmp_total nat_cmp-IsAntisymmetric rule_texts s.rules number rule (at_stage rule parameter stage) pending in
      omega (arith, r)

  module _ (a : Actor) where
    new_few : (i : DataInstr) (at : RunningInstr) → IsRunningAt program a s at → at.instr ≡ instr.Data i → for_new 1 i ≤ one_if (has_instr makes_datum program)
    new_few (on_data.New write read ty) at here e = some_one (has_instr makes_datum program) (has_at makes_datum program at.frame.procedure at.procedure at.frame.position.place (instr.Data (on_data.New write read ty)) here.procedure (here.instr ∙ ap Some e) refl)
    new_few i at here e = omega arith

    adds_few : (test : DataInstr → Bool) (i : DataInstr) (at : RunningInstr) → IsRunningAt program a s at → at.instr ≡ instr.Data i → (b : Bool) → test i ≡ b → one_if b ≤ one_if (has_instr (is_on_data test) program)
    adds_few test i at here e true passes = some_one (has_instr (is_on_data test) program) (has_at (is_on_data test) program at.frame.procedure at.procedure at.frame.position.place (instr.Data i) here.procedure (here.instr ∙ ap Some e) passes)
    adds_few test i at here e false passes = omega arith

    -- a test that the number passes is passed by an instruction of the program
    so_many : (least : ℕ) (i : DataInstr) (at : RunningInstr) → IsRunningAt program a s at → at.instr ≡ instr.Data i → (b : Bool) → nat_le least (texts_added at.procedure.registers i) ≡ b → one_if b ≤ one_if (list_any (adds_texts least) program)
    so_many least i at here e true passes =
        some_one (list_any (adds_texts least) program) (any_at (adds_texts least) program at.frame.procedure at.procedure here.procedure
        (any_at (is_on_data (λ j. nat_le least (texts_added at.procedure.registers j))) at.procedure.code at.frame.position.place (instr.Data i) (here.instr ∙ ap Some e) passes))
    so_many least i at here e false passes = omega arith

    texts_few : (i : DataInstr) (at : RunningInstr) → IsRunningAt program a s at → at.instr ≡ instr.Data i → texts_added at.procedure.registers i ≤ one_if (list_any (adds_texts 1) program) + one_if (list_any (adds_texts 2) program)
    texts_few i at here e =
        let n = texts_added at.procedure.registers i in
        let one = so_many 1 i at here e (nat_le 1 n) refl in
        let two = so_many 2 i at here e (nat_le 2 n) refl in
        omega (arith, at_most_two n (two_at_most at.procedure.registers i), one, two)

    by_instr : (at : RunningInstr) → IsRunningAt program a s at → (i : Instr) → at.instr ≡ i → IfWent (call_by program s a at i) Made
    by_instr at here (instr.Local i) e = record { is = tt }
    by_instr at here (instr.Data i) e =
        if_ok (data_instr i (context_of s at.frame)) (λ c went.
        let m = ok_of (data_instr i (context_of s at.frame)) (DataGoes i (context_of s at.frame)) c (data_goes i (context_of s at.frame)) went in
        let n = m.next 1 in
        let few = new_few i at here e in
        let member = adds_few adds_member i at here e (adds_member i) refl in
        let texts = ap (λ registers. texts_added registers i) (fits a at.frame at.procedure here.frame here.procedure) in
        let few_texts = texts_few i at here e in
        let frames = same_frame a at.frame (record at.frame { position = c.position; rights = c.rights; spent = at.frame.spent + 1 }) here.frame refl in
        record { is = λ after. record { new_data = omega (arith, n, few); rules = omega arith; members = omega (arith, m.gains.new_members, member); texts = omega (arith, m.gains.new_texts, texts, few_texts, frames) } })
    by_instr at here (instr.Rule action) e =
        if_ok (called program at.procedure.kind (context_of s at.frame) action) (λ call went.
        let one = some_one (has_instr makes_rule program) (has_at makes_rule program at.frame.procedure at.procedure at.frame.position.place (instr.Rule action) here.procedure (here.instr ∙ ap Some e) refl) in
        let rule : Rule = new_rule (number_in_kind a) call.params call.task in
        let frames = same_frame a at.frame (frame_after_call at.frame call.rights) here.frame refl in
        let rules = total-insert nat_cmp nat_cmp_total rule_texts s.rules s.next_rule rule in
        record {
          is = λ after.
              let few = after.rules s.next_rule rule (get_here nat_cmp_total nat_cmp-IsAntisymmetric s.rules s.next_rule rule) in
              record { new_data = omega arith; rules = omega arith; members = omega arith; texts = omega (arith, few, registers_few program rule.procedure) };
        })
    by_instr at here (instr.Put action) e =
        if_ok (put_called program at.procedure.kind (context_of s at.frame) action) (λ call went.
        let frames = same_frame a at.frame (frame_after_call at.frame call.rights) here.frame refl in
        let tasks = total-insert nat_cmp nat_cmp_total task_texts s.tasks s.next_task call.task in
        record {
          is = λ after.
              let few = after.tasks s.next_task call.task (get_here nat_cmp_total nat_cmp-IsAntisymmetric s.tasks s.next_task call.task) in
              same_store _ refl refl (omega (arith, few, registers_few program call.task.procedure));
        })
    by_instr at here instr.Ret e = record { is = tt }

    call_made : IfWent (call_event program a s) Made
    call_made = if_both (running_instr_of program a s) (λ at fits_place. by_instr at (is_running_at program a s at fits_place) at.instr refl)

  event_made : (layout : ActorCounts) (event : Event) → IfWent (step program layout event s) Made
  unfolding step
  event_made layout (Take a) = take_leaves program a s layout (λ e frame first begun after.
      let frames = total-insert actor_cmp actor_cmp_total (frame_registers program) s.frames a frame in
      let tasks = total-remove nat_cmp nat_cmp_total nat_cmp-IsAntisymmetric task_texts s.tasks e.0 in
      same_store _ refl refl (omega (arith, frames, tasks, registers_few program frame.procedure)))
  event_made layout (Local a n) = local_leaves program a s n (λ frame at some here after.
      let frames = same_frame a frame (record frame { position = at; spent = frame.spent + n }) here refl in
      same_store _ refl refl (omega (arith, frames)))
  event_made layout (Call a) = call_made a
  event_made layout (End a) = end_leaves program a s (λ after.
      let frames = total-remove actor_cmp actor_cmp_total actor_cmp-IsAntisymmetric (frame_registers program) s.frames a in
      same_store _ refl refl (omega (arith, frames)))
  event_made layout (Ask engine rule parameter) = ask_leaves s engine rule parameter
      (λ r id x u after. let rules = same_rule rule r parameter Ready u.pending in same_store _ refl refl (omega (arith, rules)))
      (λ r id x u after.
      let rules = same_rule rule r parameter Waiting u.pending in
      same_made _ (subscribed_next s.store id (record { rule = rule; parameter = parameter })) refl (subscribed_gains s.store id (record { rule = rule; parameter = parameter })) (omega (arith, rules)))
  event_made layout (Deliver server datum rule parameter) = deliver_leaves s layout server (record { datum = datum; rule = rule; parameter = parameter })
      (λ has none after. same_store _ refl refl (omega arith))
      (λ r has pending after. let rules = same_rule rule r parameter Ready pending in same_store _ refl refl (omega (arith, rules)))
  event_made layout (Release engine rule) = release_leaves s program engine rule (λ r p pending ready after.
      let rules = sum_apart nat_cmp nat_cmp_total nat_cmp-IsAntisymmetric rule_texts s.rules rule r pending in
      let tasks = total-insert nat_cmp nat_cmp_total task_texts s.tasks s.next_task (task_from p.kind r) in
      same_store _ refl refl (omega (arith, rules, tasks)))

-- ---- what is executed by an event

module _ (program : List Procedure) (typings : Typings) (is : IsProgram program) (are : AreRight program typings) (most : ℕ) (largest : IsLargestBudget program most) where
  -- what a task has executed is less than the largest budget
  spent_few : (s : State) → IsHeld program typings s → (a : Actor) (f : Frame) → get s.frames a ≡ Some f → f.spent < most
  spent_few s held a f runs =
      let p = held.types.procedures.frames a f runs in
      let accepted = accepts program typings is are f.procedure p.0 p.1 in
      let w = held.budgets.within a f p.0 accepted.budget.0 runs p.1 accepted.budget.1 in
      let below = below_budget (flows p.0.code) accepted.sound accepted.budget.0 f.spent f.position.place f.position.loops w in
      let up = largest.each f.procedure p.0 accepted.budget.0 (slice_get_within program f.procedure p.0 p.1) p.1 accepted.budget.1 in
      omega (arith, below, up)

  abbrev Ran : Actor → ℕ → State → Type 0
  Ran a n t = (g : Frame) × (get t.frames a ≡ Some g) × (n ≤ g.spent)

  module _ (s : State) (held : IsHeld program typings s) where
    some_fit : (a : Actor) (f : Frame) → get s.frames a ≡ Some f → 1 ≤ most
    some_fit a f runs = let h = spent_few s held a f runs in omega arith

    ran : (a : Actor) (n : ℕ) → IfWent (local_event program a n s) (Ran a n)
    ran a n = local_leaves program a s n (λ frame at some here.
        let g : Frame = record frame { position = at; spent = frame.spent + n } in
        (g, get_here actor_cmp_total actor_cmp-IsAntisymmetric s.frames a g, omega arith))

    called_once : (a : Actor) → IfWent (call_event program a s) (λ t. 1 ≤ most)
    called_once a = if_both (running_instr_of program a s) (λ at fits_place. let here = is_running_at program a s at fits_place in by at (some_fit a at.frame here.frame) at.instr)
      where
        by : (at : RunningInstr) → 1 ≤ most → (i : Instr) → IfWent (call_by program s a at i) (λ t. 1 ≤ most)
        by at one (instr.Local i) = record { is = tt }
        by at one (instr.Data i) = if_ok (data_instr i (context_of s at.frame)) (λ c went. record { is = one })
        by at one (instr.Rule action) = if_ok (called program at.procedure.kind (context_of s at.frame) action) (λ call went. record { is = one })
        by at one (instr.Put action) = if_ok (put_called program at.procedure.kind (context_of s at.frame) action) (λ call went. record { is = one })
        by at one instr.Ret = record { is = tt }

    ended_once : (a : Actor) → IfWent (end_event program a s) (λ t. 1 ≤ most)
    ended_once a = if_both (running_instr_of program a s) (λ at fits_place.
        if_only (is_ret at.instr) (λ ret.
        if_then (outcome_of (must (list_all is_none at.frame.rights) RightLeft)) (λ _.
        record { is = some_fit a at.frame (is_running_at program a s at fits_place).frame })))

    event_runs : (layout : ActorCounts) (event : Event) (t : State) → IsHeld program typings t → step program layout event s ≡ Went t → instructions_by event ≤ most
    unfolding step
    event_runs layout (Take a) t after e = omega arith
    event_runs layout (Local a n) t after e =
        let r = went_of (local_event program a n s) (Ran a n) t (ran a n) e in
        let h = spent_few t after a r.0 r.1 in
        omega (arith, r.2, h)
    event_runs layout (Call a) t after e = went_of (call_event program a s) (λ u. 1 ≤ most) t (called_once a) e
    event_runs layout (End a) t after e = went_of (end_event program a s) (λ u. 1 ≤ most) t (ended_once a) e
    event_runs layout (Ask engine rule parameter) t after e = omega arith
    event_runs layout (Deliver server datum rule parameter) t after e = omega arith
    event_runs layout (Release engine rule) t after e = omega arith

  -- ---- along a run

  record IsFew (limit : ℕ) (events : List Event) (s t : State) : Type 0 where
    instructions : instructions_in events ≤ limit * most
    new_data : t.store.next ≤ s.store.next + one_each makes_datum program limit
    rules : t.next_rule ≤ s.next_rule + one_each makes_rule program limit
    members : members_held t.store ≤ members_held s.store + one_each (is_on_data adds_member) program limit
    texts : texts_by_registers program t ≤ texts_by_registers program s + limit * most_texts program

  run_few : (limit : ℕ) (layout : ActorCounts) (events : List Event) (s t : State) → IsHeld program typings s → length events ≤ limit → run program layout events s ≡ Went t → IsFew limit events s t
  unfolding run
  run_few limit layout [] s t held fits e =
      let data_same = ap (λ (u : State). u.store.next) (same_went s t e) in
      let rules_same = ap (λ (u : State). u.next_rule) (same_went s t e) in
      let members_same = ap (λ (u : State). members_held u.store) (same_went s t e) in
      let texts_same = ap (texts_by_registers program) (same_went s t e) in
      record { instructions = omega arith; new_data = omega (arith, data_same); rules = omega (arith, rules_same); members = omega (arith, members_same); texts = omega (arith, texts_same) }
  run_few zero layout (event ∷ events) s t held fits e = absurd (omega arith)
  run_few (suc limit) layout (event ∷ events) s t held fits e =
      let one = went_first (step program layout event s) (run program layout events) t e in
      let after = kept_by program typings layout event s one.0 is are held one.1 in
      let runs = event_runs s held layout event one.0 after one.1 in
      let few : AreFew program one.0 = record { rules = rule_within program typings is are one.0 after; tasks = task_within program typings is are one.0 after } in
      let made = went_of (step program layout event s) (λ u. AreFew program u → IsMade program s u) one.0 (event_made program s (λ a f p runs here. types_fit p.registers f.position.values (held.types.values a f p runs here)) layout event) one.1 few in
      let rest = run_few limit layout events one.0 t after (omega arith) one.2 in
      record {
        instructions = omega (arith, runs, rest.instructions, sum_by-cons instructions_by event events);
        new_data = omega (arith, made.new_data, rest.new_data, one_more (has_instr makes_datum program) limit);
        rules = omega (arith, made.rules, rest.rules, one_more (has_instr makes_rule program) limit);
        members = omega (arith, made.members, rest.members, one_more (has_instr (is_on_data adds_member) program) limit);
        texts = omega (arith, made.texts, rest.texts);
      }

takes_few : (events : List Event) → tasks_in events ≤ length events
takes_few [] = omega arith
takes_few (event ∷ events) = let rest = takes_few events in let one = at_most_one event in omega (arith, rest, one, sum_by-cons tasks_by event events)
  where
    at_most_one : (e : Event) → tasks_by e ≤ 1
    at_most_one (Take a) = omega arith
    at_most_one (Local a n) = omega arith
    at_most_one (Call a) = omega arith
    at_most_one (End a) = omega arith
    at_most_one (Ask engine rule parameter) = omega arith
    at_most_one (Deliver server datum rule parameter) = omega arith
    at_most_one (Release engine rule) = omega arith

-- a number that is reported as at most n is n
number_is : (bound : Bound) (m n : ℕ) → bound ≡ reported (Some m) → bound ≡ AtMost n → m ≡ n
number_is bound m n is at = same_Some m n (is_exact (Some m) n (sym is ∙ at))

pub limits_run : (program : List Procedure) (typings : Typings) → IsProgram program → AreRight program typings → (limit : ℕ) (bounds : LimitedBounds) → AreLimitedBounds program limit bounds → LimitsRuns program limit bounds
limits_run program typings is are limit bounds b = record {
  within = λ inputs layout events s given fits e.
      let few = run_few program typings is are b.most b.largest limit layout events (opening program inputs) s (opened_held program typings is are inputs given) fits e in
      record {
        tasks = λ n at. let same = number_is bounds.tasks limit n b.tasks at in let f = takes_few events in omega (arith, same, f, fits);
        instructions = λ n at. let same = number_is bounds.instructions (limit * b.most) n b.instructions at in omega (arith, same, few.instructions);
        new_data = λ n at. let same = number_is bounds.data (one_each makes_datum program limit) n b.new_data at in omega (arith, same, few.new_data);
        rules = λ n at. let same = number_is bounds.rules (one_each makes_rule program limit) n b.rules at in omega (arith, same, few.rules);
        members = λ n at. let same = number_is bounds.members (one_each (is_on_data adds_member) program limit) n b.members at in omega (arith, same, few.members);
        bytes = λ n at.
            let same = number_is bounds.bytes (4096 * (limit * most_texts program)) n b.bytes at in
            let first = texts_same program typings is are (opening program inputs) (opened_held program typings is are inputs given) in
            let last = texts_same program typings is are s (reached_is_held program typings is are inputs layout events s given e) in
            omega (arith, same, few.texts, first, last);
        few = λ n at. let same = number_is bounds.events limit n b.events at in omega (arith, same, fits);
      };
}
