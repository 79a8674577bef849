-- Along a run from the opening, what is owed pays for all.
use Rattle.tw_bounds.proofs.Names.{ActorCounts, AreBounds, AreInputsOf, AreRight, AreRunBounds, Ask, Call, Deliver, End, Event, Input, IsBoundOfMain, IsHeld, IsProgram, IsRunWithin, IsWithinBound, List, Local, Option, Procedure, Release, RunBounds, Some, State, Take, Typings, Weights, Went, [], actor_cmp, ap, arith, bound_at, bytes_alone, data_alone, each_empty, each_insert, empty, events_alone, get-empty, instructions_alone, instructions_by, instructions_in, kept_by, length, members_alone, nat_cmp, nat_cmp-IsAntisymmetric, nat_cmp_total, opened_held, reached_is_held, refl, rule_events_by, rule_events_in, rules_alone, same_went, subst, suc, sum_by-cons, sum_new, tasks_alone, tasks_by, tasks_in, texts_held, total-empty, weight_made, went_first, went_of, zero, ℕ, ◌*◌, ◌+◌, ◌∷◌, ◌≡◌, ◌≤◌}
use Rattle.tw_code.specs.machine.Machine.{run, step}
use Rattle.tw_code.specs.machine.Opening.{Opened, main_params, main_task, nothing_opened, opened, opening, opening_of, reached}
use Rattle.tw_bounds.proofs.Numbers.{num_at, of_known}
use Rattle.tw_bounds.proofs.Reporting.{main_bound}
use Rattle.tw_bounds.proofs.Paying.{AreBounded, HasBound, IsPaid, event_paid, frame_owes, owes, rule_owes, task_owes, weight_stored}
use Rattle.tw_bounds.proofs.TextsHeld.{texts_owed}

times : (d x a b : ℕ) → x ≡ a + b → d * x ≡ d * a + d * b
times d x a b e = rw e (omega arith)

module _ (program : List Procedure) (typings : Typings) (is : IsProgram program) (are : AreRight program typings) (weights : Weights) (bounds : List (Option ℕ)) (all : AreBounds program weights bounds) where
  -- what a state owes after the events
  record ArePaid (events : List Event) (s t : State) : Type 0 where
    bounded : AreBounded program weights bounds t
    by : weights.task * tasks_in events + weights.instr * instructions_in events + weights.rule_event * rule_events_in events + weight_stored weights t + owes program weights bounds t ≤ weight_stored weights s + owes program weights bounds s

  run_paid : (layout : ActorCounts) (events : List Event) (s t : State) → IsHeld program typings s → AreBounded program weights bounds s → run program layout events s ≡ Went t → ArePaid events s t
  unfolding run
  run_paid layout [] s t held bounded e =
      let same = ap (λ (u : State). weight_stored weights u + owes program weights bounds u) (same_went s t e) in
      record { bounded = subst (AreBounded program weights bounds) (same_went s t e) bounded; by = omega arith }
  run_paid layout (event ∷ events) s t held bounded e =
      let one = went_first (step program layout event s) (run program layout events) t e in
      let now = went_of (step program layout event s) (IsPaid program weights bounds event s) one.0 (event_paid program typings is are weights bounds all s held bounded layout event) one.1 in
      let rest = run_paid layout events one.0 t (kept_by program typings layout event s one.0 is are held one.1) now.bounded one.2 in
      let tasks = times weights.task _ _ _ (sum_by-cons tasks_by event events) in
      let instrs = times weights.instr _ _ _ (sum_by-cons instructions_by event events) in
      let follows = times weights.rule_event _ _ _ (sum_by-cons rule_events_by event events) in
      record { bounded = rest.bounded; by = omega (arith, now.by, rest.by) }

  -- in the opening main's bound is owed
  opened_owes : (o : Opened) → owes program weights bounds (opening_of o) ≡ num_at bounds 0
  opened_owes o =
      let frames = total-empty actor_cmp (frame_owes program weights bounds) in
      let rules = total-empty nat_cmp (rule_owes program weights bounds) in
      let tasks = total-empty nat_cmp (task_owes program weights bounds) in
      let main = sum_new nat_cmp nat_cmp_total nat_cmp-IsAntisymmetric (task_owes program weights bounds) empty 1 (main_task o.rights) (get-empty nat_cmp 1) in
      omega (arith, frames, rules, tasks, main)

  opening_owes : (inputs : List Input) → owes program weights bounds (opening program inputs) ≡ num_at bounds 0
  unfolding opening
  opening_owes inputs = opened_owes (opened nothing_opened (main_params program) inputs)

  opening_bounded : (o : Opened) (b : ℕ) → bound_at bounds 0 ≡ Some b → AreBounded program weights bounds (opening_of o)
  opening_bounded o b main = record {
    frames = each_empty actor_cmp (λ f. HasBound program weights bounds f.procedure);
    tasks = each_insert nat_cmp_total (λ task. HasBound program weights bounds task.procedure) empty (each_empty nat_cmp (λ task. HasBound program weights bounds task.procedure)) 1 (main_task o.rights) (b, main);
    rules = each_empty nat_cmp (λ rule. HasBound program weights bounds rule.procedure);
  }

  opened_bounded : (inputs : List Input) (b : ℕ) → bound_at bounds 0 ≡ Some b → AreBounded program weights bounds (opening program inputs)
  unfolding opening
  opened_bounded inputs b main = opening_bounded (opened nothing_opened (main_params program) inputs) b main

  pub within : (b : ℕ) → bound_at bounds 0 ≡ Some b → IsWithinBound program weights b
  within b main inputs layout events s given e =
      let every = run_paid layout events (opening program inputs) s (opened_held program typings is are inputs given) (opened_bounded inputs b main) e in
      let first = opening_owes inputs in
      let known = of_known bounds 0 b main in
      let owed = texts_owed program typings is are weights bounds all s (reached_is_held program typings is are inputs layout events s given e) every.bounded in
      omega (arith, every.by, owed, times weights.text (texts_held s) _ _ refl, times weights.text (texts_held (opening program inputs)) _ _ refl)

-- each event that succeeds is at least one step
one_step : (program : List Procedure) (layout : ActorCounts) (event : Event) (s t : State) → step program layout event s ≡ Went t → 1 ≤ tasks_by event + instructions_by event + rule_events_by event
unfolding step
one_step program layout (Take actor) s t e = omega arith
one_step program layout (Local actor zero) s t e = cc
one_step program layout (Local actor (suc n)) s t e = omega arith
one_step program layout (Call actor) s t e = omega arith
one_step program layout (End actor) s t e = omega arith
one_step program layout (Ask engine rule parameter) s t e = omega arith
one_step program layout (Deliver server datum rule parameter) s t e = omega arith
one_step program layout (Release engine rule) s t e = omega arith

counted : (program : List Procedure) (layout : ActorCounts) (events : List Event) (s t : State) → run program layout events s ≡ Went t → length events ≤ tasks_in events + instructions_in events + rule_events_in events
unfolding run
counted program layout [] s t e = omega arith
counted program layout (event ∷ events) s t e =
    let one = went_first (step program layout event s) (run program layout events) t e in
    let now = one_step program layout event s one.0 one.1 in
    let rest = counted program layout events one.0 t one.2 in
    omega (arith, now, rest, sum_by-cons tasks_by event events, sum_by-cons instructions_by event events, sum_by-cons rule_events_by event events)

pub few_events : (program : List Procedure) (typings : Typings) → IsProgram program → AreRight program typings → (steps : ℕ) → IsBoundOfMain program events_alone steps
    → (inputs : List Input) (layout : ActorCounts) (events : List Event) (s : State) → AreInputsOf program inputs → reached program inputs layout events ≡ Went s → length events ≤ steps
few_events program typings is are steps main inputs layout events s given e =
    let f = within program typings is are events_alone main.0 main.1 steps main.2 inputs layout events s given e in
    omega (arith, counted program layout events (opening program inputs) s e, f)

-- one kind alone
module _ (program : List Procedure) (typings : Typings) (is : IsProgram program) (are : AreRight program typings) (inputs : List Input) (layout : ActorCounts) (events : List Event) (s : State) (given : AreInputsOf program inputs) (e : reached program inputs layout events ≡ Went s) where
  by_main : (weights : Weights) (n : ℕ) → IsBoundOfMain program weights n → weights.task * tasks_in events + weights.instr * instructions_in events + weights.rule_event * rule_events_in events + weight_made weights s ≤ weight_made weights (opening program inputs) + n
  by_main weights n main = within program typings is are weights main.0 main.1 n main.2 inputs layout events s given e

  pub run_within : (bounds : RunBounds) → AreRunBounds program bounds → IsRunWithin program bounds inputs events s
  run_within bounds b = record {
    tasks = λ n at. let h = by_main tasks_alone n (main_bound program tasks_alone bounds.tasks.items n b.tasks at) in omega arith;
    instructions = λ n at. let h = by_main instructions_alone n (main_bound program instructions_alone bounds.instructions.items n b.instructions at) in omega arith;
    new_data = λ n at. let h = by_main data_alone n (main_bound program data_alone bounds.data.items n b.new_data at) in omega arith;
    rules = λ n at. let h = by_main rules_alone n (main_bound program rules_alone bounds.rules.items n b.rules at) in omega arith;
    members = λ n at. let h = by_main members_alone n (main_bound program members_alone bounds.members.items n b.members at) in omega arith;
    bytes = λ n at. let h = by_main bytes_alone n (main_bound program bytes_alone bounds.bytes.items n b.bytes at) in omega arith;
    events = λ n at. few_events program typings is are n (main_bound program events_alone bounds.events.items n b.events at) inputs layout events s given e;
  }
