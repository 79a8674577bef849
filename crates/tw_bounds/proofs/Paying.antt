-- Each event is paid for by what a state still owes.
use Rattle.std.proofs.Common.{◌≡◌, ℕ, zero, suc, ◌+◌, ◌*◌, ◌<◌, ◌≤◌, ◌==◌, Bool, true, false, not, ◌&&◌, is_none, List, [], ◌∷◌, length, map, slice_get, slice_set, Option, Some, None, refl, sym, ap, ◌∙◌, subst, arith}
use Rattle.tw_bounds.proofs.Names.{Action, Actor, ActorCounts, AreBounds, AreRight, Ask, Call, Closed, Completed, DataInstr, Deliver, Each, End, Event, Flow, Frame, Free, IfWent, Instr, IsHeld, IsProgram, IsRunningAt, IsSound, Local, Loop, LoopsFit, Param, Position, Procedure, Ready, Ref, Release, RightLeft, Rule, Stage, State, Store, Take, Task, Typings, Unasked, Val, Waiting, Weights, Went, Write, WrongCall, accepts, actor_cmp, actor_cmp-IsAntisymmetric, actor_cmp_total, adds_member, ask_leaves, at_stage, best, bound_at, called, context_of, cost_in, data_instr, deliver_leaves, each_insert, each_remove, filled, first_stage, fits_next, flow_of, flows, frame_after_call, frame_of, get, greatest_cost, if_both, if_enabled, if_ok, if_only, if_then, if_there, insert, instructions_by, is_closed_mode, is_in, is_running_at, left_too, list_all, members_held, mul-le-mul_left, must, nat_cmp, nat_cmp-IsAntisymmetric, nat_cmp_total, new_rule, number_in_kind, ok_both, ok_of, ok_there, option_map, outcome_of, params_in, params_of, put_called, release_leaves, rule_events, rule_events_by, same_Some, slice_get-map, sum_apart, sum_new, sum_replaced, task_from, tasks_by, text_registers, texts_added, texts_stored, total, values_in, weight_added, went_first, went_of, with_stage}
use Rattle.std.specs.Prelude.{Ok, filter, if◌then◌else◌}
use Rattle.tw_types.specs.declared.param.Mode.{Mode}
use Rattle.tw_types.proofs.Best.{best_waits}
use Rattle.tw_code.specs.declared.instr.DataInstr.TheVariants as on_data
use Rattle.tw_code.specs.declared.instr.Instr.TheVariants as instr
use Rattle.tw_code.specs.machine.Machine.{RunningInstr, ask_event, call_by, deliver_event, release_event, call_event, end_event, is_ret, local_event, local_step, local_steps, running_instr_of, step, take_event}
use Rattle.tw_code.proofs.Placed.{IsCalled, called_is, put_called_is}
use Rattle.tw_budget.proofs.Shortened.{fits_last}
use Rattle.tw_soundness.proofs.Asked.{noted}
use Rattle.tw_soundness.proofs.TaskEvents.{fresh_rule, fresh_task}
use Rattle.tw_bounds.proofs.Numbers.{costs_true, greatest_same, mapped_some, num_at, of_known, weight_at, weight_in, weight_num, weighted}
use Rattle.tw_bounds.proofs.GreatestCost.{left, left_last, pays, stop_at}
use Rattle.tw_bounds.proofs.Holding.{Gains, one_if}
use Rattle.tw_bounds.proofs.Moved.{DataGoes, GoesBy, StepsBy, by_way, data_goes, for_new, step_goes, subscribed_gains, subscribed_next, types_fit}
use Rattle.tw_bounds.proofs.Reached.{greatest_is}

-- the weight of an instruction on data pays for what it adds to the store
new_is : (weights : Weights) (i : DataInstr) → for_new weights.datum i + weights.member * one_if (adds_member i) ≡ weight_added weights i
new_is weights (on_data.New write read ty) = omega arith
new_is weights (on_data.Insert by container subscript member skip) = omega arith
new_is weights (on_data.InsertValue map subscript from skip) = omega arith
new_is weights (on_data.AddValue map subscript from) = omega arith
new_is weights i = omega arith

-- the weight of the data and rules made so far, and of what the store holds
abbrev pub weight_stored : Weights → State → ℕ
weight_stored weights s = weights.datum * s.store.next + weights.rule * s.next_rule + weights.member * members_held s.store + weights.text * texts_stored s.store

-- the weight of what a later store holds
held_paid : (weights : Weights) (members texts : ℕ) (s t : Store) → Gains members texts s t
    → weights.member * members_held t + weights.text * texts_stored t ≤ weights.member * members_held s + weights.text * texts_stored s + weights.member * members + weights.text * texts
held_paid weights members texts s t gains =
    let m = mul-le-mul_left weights.member gains.new_members in
    let x = mul-le-mul_left weights.text gains.new_texts in
    let n : weights.member * (members_held s + members) ≡ weights.member * members_held s + weights.member * members = omega arith in
    let y : weights.text * (texts_stored s + texts) ≡ weights.text * texts_stored s + weights.text * texts = omega arith in
    omega (arith, m, x, n, y)

none_is : {A : Type 0} (o : Option A) → is_none o ≡ true → o ≡ None
none_is None e = refl
none_is (Some x) e = cc

and_second : (a b : Bool) → (a && b) ≡ true → b ≡ true
and_second true b e = e
and_second false b e = cc

flow_there : (code : List Instr) (place : ℕ) (i : Instr) → slice_get code place ≡ Some i → slice_get (flows code) place ≡ Some (flow_of i)
flow_there code place i here = slice_get-map flow_of code place ∙ ap (option_map flow_of) here

-- ---- the events of a rule that are to come

abbrev pub stage_owes : Stage → ℕ
stage_owes Free = 0
stage_owes Unasked = 2
stage_owes Waiting = 1
stage_owes Ready = 0

abbrev pub stages_owe : List Stage → ℕ
stages_owe [] = 0
stages_owe (stage ∷ stages) = stage_owes stage + stages_owe stages

first_owe : (params : List Param) → stages_owe (map (λ p. first_stage p.mode) params) ≡ 2 * length (filter (λ p. is_closed_mode p.mode) params)
first_owe [] = refl
first_owe (p ∷ params) = by p.mode (first_owe params)
  where
    by : (mode : Mode) → stages_owe (map (λ q. first_stage q.mode) params) ≡ 2 * length (filter (λ q. is_closed_mode q.mode) params)
        → stage_owes (first_stage mode) + stages_owe (map (λ q. first_stage q.mode) params) ≡ 2 * length (if is_closed_mode mode then p ∷ filter (λ q. is_closed_mode q.mode) params else filter (λ q. is_closed_mode q.mode) params)
    by Val h = omega arith
    by Closed h = omega arith
    by Ref h = omega arith
    by Write h = omega arith

set_owe : (stages : List Stage) (k : ℕ) (old new : Stage) → slice_get stages k ≡ Some old → stages_owe (slice_set stages k new) + stage_owes old ≡ stages_owe stages + stage_owes new
set_owe [] k old new e = cc
set_owe (stage ∷ stages) zero old new e = let same : stage_owes stage ≡ stage_owes old = ap stage_owes (same_Some stage old e) in omega arith
set_owe (stage ∷ stages) (suc k) old new e = let h = set_owe stages k old new e in omega arith

times_two : (d a b c e : ℕ) → a + b ≡ c + e → d * a + d * b ≡ d * c + d * e
times_two d a b c e h =
    let l : d * (a + b) ≡ d * a + d * b = omega arith in
    let r : d * (c + e) ≡ d * c + d * e = omega arith in
    sym l ∙ ap (λ (n : ℕ). d * n) h ∙ r

-- ---- what a state owes

module _ (program : List Procedure) (weights : Weights) (bounds : List (Option ℕ)) where
  -- by a task that runs: its registers of texts, and what is left to it
  abbrev pub owed_in : Option Procedure → Frame → ℕ
  owed_in None f = 0
  owed_in (Some p) f = weights.text * text_registers p.registers + left (weight_at program weights bounds p.registers p.code) (flows p.code) f.position.place f.position.loops

  abbrev pub frame_owes : Frame → ℕ
  frame_owes f = owed_in (slice_get program f.procedure) f

  -- by one that waits, and by a rule's
  abbrev pub task_owes : Task → ℕ
  task_owes task = num_at bounds task.procedure

  abbrev pub rule_owes : Rule → ℕ
  rule_owes rule = weights.rule_event * (1 + stages_owe rule.stages) + num_at bounds rule.procedure

  abbrev pub owes : State → ℕ
  owes s = total frame_owes s.frames + (total task_owes s.tasks + total rule_owes s.rules)

  abbrev pub paid : Event → ℕ
  paid event = weights.task * tasks_by event + weights.instr * instructions_by event + weights.rule_event * rule_events_by event

  abbrev pub HasBound : ℕ → Type 0
  HasBound q = (b : ℕ) × (bound_at bounds q ≡ Some b)

  -- each task that runs, waits or is a rule's has a bound
  pub record AreBounded (s : State) : Type 0 where
    pub frames : Each (λ f. HasBound f.procedure) s.frames
    pub tasks : Each (λ task. HasBound task.procedure) s.tasks
    pub rules : Each (λ rule. HasBound rule.procedure) s.rules

  pub record IsPaid (event : Event) (s t : State) : Type 0 where
    pub bounded : AreBounded t
    pub by : paid event + weight_stored weights t + owes t ≤ weight_stored weights s + owes s

-- ---- a task that runs

module _ (program : List Procedure) (p : Procedure) (sound : IsSound (flows p.code)) (weights : Weights) (bounds : List (Option ℕ)) where
  abbrev cost : ℕ → ℕ
  cost place = weight_at program weights bounds p.registers p.code place

  abbrev left_at : Position → ℕ
  left_at at = left cost (flows p.code) at.place at.loops

  pub record Fits (at : Position) : Type 0 where
    pub inside : at.place < length (flows p.code)
    pub loops : LoopsFit (flows p.code) at.place at.loops

  -- an instruction is paid
  pub one_paid : (at to : Position) (i : Instr) → Fits at → slice_get p.code at.place ≡ Some i → GoesBy (flow_of i) at to → weight_num program weights bounds p.registers i + left_at to ≤ left_at at
  one_paid at to i fit here g =
      let flow = flow_there p.code at.place i here in
      let h = pays cost (flows p.code) sound at.place (flow_of i) at.loops g.way (record { place = to.place; loops = g.loops }) flow fit.loops g.goes in
      let c : cost at.place ≡ weight_num program weights bounds p.registers i = ap (weight_in program weights bounds p.registers) here in
      left_too (λ loops. weight_num program weights bounds p.registers i + left cost (flows p.code) to.place loops ≤ left_at at) g.loops to.loops g.left
      (λ paid. omega (arith, paid, left_last cost (flows p.code) to.place g.loops)) (omega arith)

  fits_on : (at to : Position) (i : Instr) → Fits at → slice_get p.code at.place ≡ Some i → GoesBy (flow_of i) at to → Fits to
  fits_on at to i fit here g =
      let st = fits_next (flows p.code) sound at.place (flow_of i) at.loops g.way (record { place = to.place; loops = g.loops }) (flow_there p.code at.place i here) fit.loops g.goes in
      record { inside = st.0; loops = left_too (LoopsFit (flows p.code) to.place) g.loops to.loops g.left (fits_last (flows p.code) to.place g.loops) st.1 }

  -- several local steps are paid for
  pub steps_paid : (n : ℕ) (at to : Position) → Fits at → local_steps n p.code at ≡ Went to → weights.instr * n + left_at to ≤ left_at at
  steps_paid zero at to fit e =
      let same : left_at at ≡ left_at to = ap (λ (o : Position). left_at o) (same_position at to e) in
      omega arith
    where
      same_position : (a b : Position) → Went a ≡ Went b → a ≡ b
      same_position a b e = cc
  steps_paid (suc n) at to fit e =
      let one = went_first (local_step p.code at) (local_steps n p.code) to e in
      let by = went_of (local_step p.code at) (StepsBy p.code at) one.0 (step_goes p.code at) one.1 in
      let h = one_paid at one.0 (instr.Local by.step) fit by.here by.goes in
      let rest = steps_paid n one.0 to (fits_on at one.0 (instr.Local by.step) fit by.here by.goes) one.2 in
      omega arith

-- ---- events

module _ (program : List Procedure) (typings : Typings) (is : IsProgram program) (are : AreRight program typings) (weights : Weights) (bounds : List (Option ℕ)) (all : AreBounds program weights bounds) where
  sound_at : (k : ℕ) (p : Procedure) → slice_get program k ≡ Some p → IsSound (flows p.code)
  sound_at k p here = (accepts program typings is are k p here).sound

  -- a task owes its price, its registers of texts, and what is left at its first place
  pub starts : (k b : ℕ) (p : Procedure) → slice_get program k ≡ Some p → bound_at bounds k ≡ Some b → weights.task + weights.text * text_registers p.registers + greatest_cost (weight_at program weights bounds p.registers p.code) (flows p.code) 0 ≡ num_at bounds k
  starts k b p here is_bound =
      let o = all.each k p b here is_bound in
      let same = greatest_same (flows p.code) (cost_in o.costs) (weight_at program weights bounds p.registers p.code) o.walk (costs_true program weights bounds p.registers p.code o.costs o.are) o.greatest_cost in
      let d = greatest_is (weight_at program weights bounds p.registers p.code) (flows p.code) (sound_at k p here) o.walk same in
      omega (arith, o.sum, d, of_known bounds k b is_bound)

  -- a procedure that is called has a bound
  rule_bound : (k b place : ℕ) (p : Procedure) (action : Action) → slice_get program k ≡ Some p → bound_at bounds k ≡ Some b → slice_get p.code place ≡ Some (instr.Rule action) → HasBound program weights bounds action.procedure
  rule_bound k b place p action here is_bound at =
      let o = all.each k p b here is_bound in
      let n = weighted program weights bounds p.registers p.code o.costs o.are place (instr.Rule action) at in
      let m = mapped_some (bound_at bounds action.procedure) n.0 _ n.1 in
      (m.0, m.1)

  put_bound : (k b place : ℕ) (p : Procedure) (action : Action) → slice_get program k ≡ Some p → bound_at bounds k ≡ Some b → slice_get p.code place ≡ Some (instr.Put action) → HasBound program weights bounds action.procedure
  put_bound k b place p action here is_bound at =
      let o = all.each k p b here is_bound in
      let n = weighted program weights bounds p.registers p.code o.costs o.are place (instr.Put action) at in
      let m = mapped_some (bound_at bounds action.procedure) n.0 _ n.1 in
      (m.0, m.1)

  module _ (s : State) (held : IsHeld program typings s) (bounded : AreBounded program weights bounds s) where
    abbrev Fr : Frame → Type 0
    Fr f = HasBound program weights bounds f.procedure

    abbrev Ta : Task → Type 0
    Ta task = HasBound program weights bounds task.procedure

    abbrev Ru : Rule → Type 0
    Ru rule = HasBound program weights bounds rule.procedure

    -- with another frame
    framed : (a : Actor) (f g : Frame) → get s.frames a ≡ Some f → g.procedure ≡ f.procedure → Each Fr (insert s.frames a g)
    framed a f g runs same = each_insert actor_cmp_total Fr s.frames bounded.frames a g (subst (HasBound program weights bounds) (sym same) (bounded.frames a f runs))

    abbrev Paid : Event → State → Type 0
    Paid event t = IsPaid program weights bounds event s t

    fits_there : (a : Actor) (f : Frame) (p : Procedure) → get s.frames a ≡ Some f → (here : slice_get program f.procedure ≡ Some p) → Fits program p (sound_at f.procedure p here) weights bounds f.position
    fits_there a f p runs here =
        let budget = (accepts program typings is are f.procedure p here).budget in
        let w = held.budgets.within a f p budget.0 runs here budget.1 in
        record { inside = w.inside; loops = w.fits }

    owes_is : (f : Frame) (p : Procedure) → slice_get program f.procedure ≡ Some p → frame_owes program weights bounds f ≡ weights.text * text_registers p.registers + left (weight_at program weights bounds p.registers p.code) (flows p.code) f.position.place f.position.loops
    owes_is f p here = ap (λ o. owed_in program weights bounds o f) here

    -- a frame takes the place of another
    replaced : (a : Actor) (f g : Frame) → get s.frames a ≡ Some f → total (frame_owes program weights bounds) (insert s.frames a g) + frame_owes program weights bounds f ≡ frame_owes program weights bounds g + total (frame_owes program weights bounds) s.frames
    replaced a f g runs = sum_replaced actor_cmp actor_cmp_total actor_cmp-IsAntisymmetric (frame_owes program weights bounds) s.frames a f g runs

    -- Take
    begun_so : (number : ℕ) (task : Task) (frame : Frame) → frame_of program number task ≡ Ok frame
        → (p : Procedure) × (slice_get program task.procedure ≡ Some p) × (frame.procedure ≡ task.procedure) × (frame.position.place ≡ 0) × (frame.position.loops ≡ [])
    begun_so number task frame = ok_of (frame_of program number task) (λ f. (p : Procedure) × (slice_get program task.procedure ≡ Some p) × (f.procedure ≡ task.procedure) × (f.position.place ≡ 0) × (f.position.loops ≡ [])) frame
        (ok_there (slice_get program task.procedure) WrongCall (λ p here. ok_both (filled (values_in task.args) p.registers) (λ values _. record { is = (p, here, refl, refl, refl) })))

    take_paid : (layout : ActorCounts) (a : Actor) → IfWent (take_event program layout a s) (Paid (Take a))
    take_paid layout a =
        if_only (is_in layout a && is_none (get s.frames a)) (λ both.
        if_enabled (best a s.tasks) (λ e first.
        if_ok (frame_of program e.0 e.1) (λ frame goes.
        let free = none_is (get s.frames a) (and_second (is_in layout a) (is_none (get s.frames a)) both) in
        let b = begun_so e.0 e.1 frame goes in
        let own = owes_is frame b.0 (ap (slice_get program) b.2 ∙ b.1) in
        let at_start = ap (λ (n : ℕ). left (weight_at program weights bounds b.0.registers b.0.code) (flows b.0.code) n frame.position.loops) b.3 ∙ ap (λ l. left (weight_at program weights bounds b.0.registers b.0.code) (flows b.0.code) 0 l) b.4 in
        let known = bounded.tasks e.0 e.1 (best_waits a s.tasks e first) in
        let whole = starts e.1.procedure known.0 b.0 b.1 known.1 in
        let frames = sum_new actor_cmp actor_cmp_total actor_cmp-IsAntisymmetric (frame_owes program weights bounds) s.frames a frame free in
        let tasks = sum_apart nat_cmp nat_cmp_total nat_cmp-IsAntisymmetric (task_owes program weights bounds) s.tasks e.0 e.1 (best_waits a s.tasks e first) in
        record { is = record { by = omega arith; bounded = record { frames = each_insert actor_cmp_total Fr s.frames bounded.frames a frame (subst (HasBound program weights bounds) (sym b.2) known); tasks = each_remove nat_cmp_total Ta s.tasks bounded.tasks e.0; rules = bounded.rules } } })))

    -- Local
    local_paid : (a : Actor) (n : ℕ) → IfWent (local_event program a n s) (Paid (Local a n))
    local_paid a n =
        if_only (not (n == 0)) (λ some.
        if_enabled (get s.frames a) (λ f runs.
        if_there (slice_get program f.procedure) WrongCall (λ p here.
        if_both (local_steps n p.code f.position) (λ to went.
        let h = steps_paid program p (sound_at f.procedure p here) weights bounds n f.position to (fits_there a f p runs here) went in
        let g : Frame = record f { position = to; spent = f.spent + n } in
        let r = replaced a f g runs in
        let x = owes_is f p here in
        let y = owes_is g p here in
        record { is = record { by = omega arith; bounded = record { frames = framed a f g runs refl; tasks = bounded.tasks; rules = bounded.rules } } }))))

    -- Call
    call_paid : (a : Actor) → IfWent (call_event program a s) (Paid (Call a))
    call_paid a = if_both (running_instr_of program a s) (λ at fits_place. by at (is_running_at program a s at fits_place) at.instr refl)
      where
        by : (at : RunningInstr) → IsRunningAt program a s at → (i : Instr) → at.instr ≡ i → IfWent (call_by program s a at i) (Paid (Call a))
        by at here (instr.Local i) e = record { is = tt }
        by at here (instr.Data i) e =
            if_ok (data_instr i (context_of s at.frame)) (λ c went.
            let m = ok_of (data_instr i (context_of s at.frame)) (DataGoes i (context_of s at.frame)) c (data_goes i (context_of s at.frame)) went in
            let h = one_paid program at.procedure (sound_at at.frame.procedure at.procedure here.procedure) weights bounds at.frame.position c.position (instr.Data i) (fits_there a at.frame at.procedure here.frame here.procedure) (here.instr ∙ ap Some e) m.goes in
            let g : Frame = record at.frame { position = c.position; rights = c.rights; spent = at.frame.spent + 1 } in
            let r = replaced a at.frame g here.frame in
            let x = owes_is at.frame at.procedure here.procedure in
            let y = owes_is g at.procedure here.procedure in
            let n = m.next weights.datum in
            let new = new_is weights i in
            let texts = ap (λ registers. texts_added registers i) (types_fit at.procedure.registers at.frame.position.values (held.types.values a at.frame at.procedure here.frame here.procedure)) in
            let gains = subst (λ (n : ℕ). Gains (one_if (adds_member i)) n s.store c.store) texts m.gains in
            let held = held_paid weights (one_if (adds_member i)) (texts_added at.procedure.registers i) s.store c.store gains in
            record { is = record { by = omega arith; bounded = record { frames = framed a at.frame g here.frame refl; tasks = bounded.tasks; rules = bounded.rules } } })
        by at here (instr.Rule action) e =
            if_ok (called program at.procedure.kind (context_of s at.frame) action) (λ call went.
            let m = ok_of (called program at.procedure.kind (context_of s at.frame) action) (IsCalled program at.procedure.kind action) call (called_is program at.procedure.kind (context_of s at.frame) action) went in
            let g : Frame = frame_after_call at.frame call.rights in
            let h = one_paid program at.procedure (sound_at at.frame.procedure at.procedure here.procedure) weights bounds at.frame.position g.position (instr.Rule action) (fits_there a at.frame at.procedure here.frame here.procedure) (here.instr ∙ ap Some e) (by_way Completed refl) in
            let r = replaced a at.frame g here.frame in
            let x = owes_is at.frame at.procedure here.procedure in
            let y = owes_is g at.procedure here.procedure in
            let rule : Rule = new_rule (number_in_kind a) call.params call.task in
            let rules = sum_new nat_cmp nat_cmp_total nat_cmp-IsAntisymmetric (rule_owes program weights bounds) s.rules s.next_rule rule (fresh_rule program typings s held) in
            let params : call.params ≡ params_of program action.procedure = m.params ∙ sym (ap params_in m.is) in
            let stages : 1 + stages_owe (map (λ q. first_stage q.mode) call.params) ≡ rule_events (params_of program action.procedure) =
            ap (λ ps. 1 + stages_owe (map (λ q. first_stage q.mode) ps)) params ∙ ap (λ (n : ℕ). 1 + n) (first_owe (params_of program action.procedure)) in
            let rule_event = ap (λ (n : ℕ). weights.rule_event * n) stages in
            let n : num_at bounds call.task.procedure ≡ num_at bounds action.procedure = ap (num_at bounds) m.number in
            let own = bounded.frames a at.frame here.frame in
            let callee = subst (HasBound program weights bounds) (sym m.number) (rule_bound at.frame.procedure own.0 at.frame.position.place at.procedure action here.procedure own.1 (here.instr ∙ ap Some e)) in
            record { is = record { by = omega arith; bounded = record { frames = framed a at.frame g here.frame refl; tasks = bounded.tasks; rules = each_insert nat_cmp_total Ru s.rules bounded.rules s.next_rule rule callee } } })
        by at here (instr.Put action) e =
            if_ok (put_called program at.procedure.kind (context_of s at.frame) action) (λ call went.
            let m = ok_of (put_called program at.procedure.kind (context_of s at.frame) action) (IsCalled program at.procedure.kind action) call (put_called_is program at.procedure.kind (context_of s at.frame) action) went in
            let g : Frame = frame_after_call at.frame call.rights in
            let h = one_paid program at.procedure (sound_at at.frame.procedure at.procedure here.procedure) weights bounds at.frame.position g.position (instr.Put action) (fits_there a at.frame at.procedure here.frame here.procedure) (here.instr ∙ ap Some e) (by_way Completed refl) in
            let r = replaced a at.frame g here.frame in
            let x = owes_is at.frame at.procedure here.procedure in
            let y = owes_is g at.procedure here.procedure in
            let tasks = sum_new nat_cmp nat_cmp_total nat_cmp-IsAntisymmetric (task_owes program weights bounds) s.tasks s.next_task call.task (fresh_task program typings s held) in
            let n : num_at bounds call.task.procedure ≡ num_at bounds action.procedure = ap (num_at bounds) m.number in
            let own = bounded.frames a at.frame here.frame in
            let callee = subst (HasBound program weights bounds) (sym m.number) (put_bound at.frame.procedure own.0 at.frame.position.place at.procedure action here.procedure own.1 (here.instr ∙ ap Some e)) in
            record { is = record { by = omega arith; bounded = record { frames = framed a at.frame g here.frame refl; tasks = each_insert nat_cmp_total Ta s.tasks bounded.tasks s.next_task call.task callee; rules = bounded.rules } } })
        by at here instr.Ret e = record { is = tt }

    -- End
    end_paid : (a : Actor) → IfWent (end_event program a s) (Paid (End a))
    end_paid a =
        if_both (running_instr_of program a s) (λ at fits_place.
        if_only (is_ret at.instr) (λ ret.
        if_then (outcome_of (must (list_all is_none at.frame.rights) RightLeft)) (λ _.
        let here = is_running_at program a s at fits_place in
        let fit = fits_there a at.frame at.procedure here.frame here.procedure in
        let frames = sum_apart actor_cmp actor_cmp_total actor_cmp-IsAntisymmetric (frame_owes program weights bounds) s.frames a at.frame here.frame in
        let x = owes_is at.frame at.procedure here.procedure in
        let h = ret_left at.procedure at.frame.position at.instr here.instr ret in
        record { is = record { by = omega arith; bounded = record { frames = each_remove actor_cmp_total Fr s.frames bounded.frames a; tasks = bounded.tasks; rules = bounded.rules } } })))
      where
        at_ret : (i : Instr) → is_ret i ≡ true → i ≡ instr.Ret
        at_ret (instr.Local i) e = cc
        at_ret (instr.Data i) e = cc
        at_ret (instr.Rule action) e = cc
        at_ret (instr.Put action) e = cc
        at_ret instr.Ret e = refl

        greatest_left : (cost : ℕ → ℕ) (code : List Flow) (place : ℕ) (loops : List Loop) → greatest_cost cost code place ≤ left cost code place loops
        greatest_left cost code place [] = omega arith
        greatest_left cost code place (inner ∷ outer) = omega arith

        ret_left : (p : Procedure) (at : Position) (i : Instr) → slice_get p.code at.place ≡ Some i → is_ret i ≡ true → weights.instr ≤ left (weight_at program weights bounds p.registers p.code) (flows p.code) at.place at.loops
        ret_left p at i here ret =
            let own : slice_get p.code at.place ≡ Some instr.Ret = here ∙ ap Some (at_ret i ret) in
            let d = stop_at (weight_at program weights bounds p.registers p.code) (flows p.code) at.place (flow_there p.code at.place instr.Ret own) in
            let c : weight_at program weights bounds p.registers p.code at.place ≡ weights.instr = ap (weight_in program weights bounds p.registers) own in
            let l = greatest_left (weight_at program weights bounds p.registers p.code) (flows p.code) at.place at.loops in
            omega arith

    -- a rule stays as it is, except for a stage
    staged : (number : ℕ) (rule : Rule) (parameter : ℕ) (old stage : Stage) → get s.rules number ≡ Some rule → slice_get rule.stages parameter ≡ Some old
        → total (rule_owes program weights bounds) (insert s.rules number (at_stage rule parameter stage)) + weights.rule_event * stage_owes old ≡ total (rule_owes program weights bounds) s.rules + weights.rule_event * stage_owes stage
    staged number rule parameter old stage pending at =
        let r = sum_replaced nat_cmp nat_cmp_total nat_cmp-IsAntisymmetric (rule_owes program weights bounds) s.rules number rule (at_stage rule parameter stage) pending in
        let e = set_owe rule.stages parameter old stage at in
        let t = times_two weights.rule_event (1 + stages_owe (slice_set rule.stages parameter stage)) (stage_owes old) (1 + stages_owe rule.stages) (stage_owes stage) (omega (arith, e)) in
        omega (arith, r, t)

    rules_staged : (number : ℕ) (rule : Rule) (parameter : ℕ) (stage : Stage) → get s.rules number ≡ Some rule → AreBounded program weights bounds (with_stage s number rule parameter stage)
    rules_staged number rule parameter stage pending = record { frames = bounded.frames; tasks = bounded.tasks; rules = each_insert nat_cmp_total Ru s.rules bounded.rules number (at_stage rule parameter stage) (bounded.rules number rule pending) }

    -- Release
    release_paid : (engine number : ℕ) → IfWent (release_event program engine number s) (Paid (Release engine number))
    release_paid engine number = release_leaves s program engine number (λ rule p pending _.
        let rules = sum_apart nat_cmp nat_cmp_total nat_cmp-IsAntisymmetric (rule_owes program weights bounds) s.rules number rule pending in
        let tasks = sum_new nat_cmp nat_cmp_total nat_cmp-IsAntisymmetric (task_owes program weights bounds) s.tasks s.next_task (task_from p.kind rule) (fresh_task program typings s held) in
        record { by = omega arith; bounded = record { frames = bounded.frames; tasks = each_insert nat_cmp_total Ta s.tasks bounded.tasks s.next_task (task_from p.kind rule) (bounded.rules number rule pending); rules = each_remove nat_cmp_total Ru s.rules bounded.rules number } })

    ask_paid : (engine number parameter : ℕ) → IfWent (ask_event engine number parameter s) (Paid (Ask engine number parameter))
    ask_paid engine number parameter = ask_leaves s engine number parameter
        (λ rule id x u. let r = staged number rule parameter Unasked Ready u.pending u.stage in record { by = omega arith; bounded = rules_staged number rule parameter Ready u.pending })
        (λ rule id x u. let r = staged number rule parameter Unasked Waiting u.pending u.stage in let n = subscribed_next s.store id (record { rule = number; parameter = parameter }) in let g = held_paid weights 0 0 s.store _ (subscribed_gains s.store id (record { rule = number; parameter = parameter })) in record { by = omega (arith, ap (λ (n : ℕ). weights.datum * n) n, g); bounded = let b = rules_staged number rule parameter Waiting u.pending in record { frames = b.frames; tasks = b.tasks; rules = b.rules } })

    deliver_paid : (layout : ActorCounts) (server datum rule parameter : ℕ) → IfWent (deliver_event layout server (record { datum = datum; rule = rule; parameter = parameter }) s) (Paid (Deliver server datum rule parameter))
    deliver_paid layout server datum rule parameter = deliver_leaves s layout server (record { datum = datum; rule = rule; parameter = parameter })
        (λ has none. let k = noted s.store.live s.notices s.rules (record { datum = datum; rule = rule; parameter = parameter }) held.notices has in let never : None ≡ Some k.rule = sym none ∙ k.is in cc)
        (λ r has pending.
        let k = noted s.store.live s.notices s.rules (record { datum = datum; rule = rule; parameter = parameter }) held.notices has in
        let same : k.rule ≡ r = same_Some k.rule r (sym k.is ∙ pending) in
        let waits : slice_get r.stages parameter ≡ Some Waiting = subst (λ (q : Rule). slice_get q.stages parameter ≡ Some Waiting) same k.stage in
        let h = staged rule r parameter Waiting Ready pending waits in
        record { by = omega arith; bounded = let b = rules_staged rule r parameter Ready pending in record { frames = b.frames; tasks = b.tasks; rules = b.rules } })

    -- each event is paid
    pub event_paid : (layout : ActorCounts) (event : Event) → IfWent (step program layout event s) (Paid event)
    unfolding step
    event_paid layout (Take actor) = take_paid layout actor
    event_paid layout (Local actor n) = local_paid actor n
    event_paid layout (Call actor) = call_paid actor
    event_paid layout (End actor) = end_paid actor
    event_paid layout (Ask engine rule parameter) = ask_paid engine rule parameter
    event_paid layout (Deliver server datum rule parameter) = deliver_paid layout server datum rule parameter
    event_paid layout (Release engine rule) = release_paid engine rule
