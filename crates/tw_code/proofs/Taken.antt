-- The numbers that a run takes are distinct, and each is main's or was made by a PUT or a Release.
use Rattle.std.proofs.Common.{◌≡◌, ℕ, ◌+◌, ◌<◌, ◌≤◌, ◌==◌, ◌⊎◌, inl, inr, Bool, true, false, if◌then◌else◌, List, [], ◌∷◌, ◌++◌, Some, None, refl, sym, ap, subst, ◌∙◌, arith}
use Rattle.std.proofs.lemmas.Bool.{cases_Bool, eq-eqb, eqb-true, eqb-false, ne_eqb, or_cases, or_left, or_right}
use Rattle.std.proofs.lemmas.List.Folds.{list_any-append}
use Rattle.std.specs.Cmp.{nat_cmp_total}
use Rattle.std.specs.FinMap.{get, get-empty, empty, insert, nat_cmp-IsAntisymmetric, remove}
use Rattle.std.specs.Ordering.{nat_cmp}
use Rattle.tw_types.specs.declared.event.Event.{Event}
use Rattle.tw_types.specs.declared.event.Event.TheVariants.{Take, Local, Call, End, Ask, Deliver, Release}
use Rattle.tw_types.specs.declared.input.Input.{Input}
use Rattle.tw_types.specs.Distinct.{is_among, AreDistinct}
use Rattle.tw_types.specs.Layout.{ActorCounts}
use Rattle.tw_types.specs.Outcome.{Outcome, Went, NotEnabled, Trap}
use Rattle.tw_types.specs.Rule.{task_from}
use Rattle.tw_types.specs.Task.{Task, Tasks}
use Rattle.tw_types.proofs.Best.{best_waits}
use Rattle.tw_types.proofs.Outcomes.{IfWent, went_of}
use Rattle.tw_types.proofs.Parts.{before_removal, put_or_before}
use Rattle.tw_code.specs.declared.procedure.Procedure.{Procedure}
use Rattle.tw_code.specs.machine.History.{if_succeeded, put_between, puts, taken_by, takes}
use Rattle.tw_code.specs.machine.Machine.{step}
use Rattle.tw_code.specs.machine.Once.{TakesOnce}
use Rattle.tw_code.specs.machine.Opening.{opening}
use Rattle.tw_code.specs.machine.State.{State}
use Rattle.tw_code.proofs.Leaving.{take_leaves, local_leaves, call_leaves, end_leaves, ask_leaves, deliver_leaves, release_leaves}

-- ---- numbers among others

among_one : (n m : ℕ) → is_among n (m ∷ []) ≡ true → m ≡ n
among_one n m h = elim (or_cases (m == n) false h) [ inl e ↦ eqb-true m n e | inr e ↦ cc ]

among_either : (ns ms : List ℕ) (n : ℕ) → is_among n (ns ++ ms) ≡ true → (is_among n ns ≡ true) ⊎ (is_among n ms ≡ true)
among_either ns ms n h = or_cases (is_among n ns) (is_among n ms) (sym (list_any-append (λ m. m == n) ns ms) ∙ h)

among_first : (ns ms : List ℕ) (n : ℕ) → is_among n ns ≡ true → is_among n (ns ++ ms) ≡ true
among_first ns ms n h = list_any-append (λ m. m == n) ns ms ∙ or_left (is_among n ns) (is_among n ms) h

among_second : (ns ms : List ℕ) (n : ℕ) → is_among n ms ≡ true → is_among n (ns ++ ms) ≡ true
among_second ns ms n h = list_any-append (λ m. m == n) ns ms ∙ or_right (is_among n ns) (is_among n ms) h

among_neither : (ns ms : List ℕ) (n : ℕ) → is_among n ns ≡ false → (is_among n ms ≡ true → ⊥) → is_among n (ns ++ ms) ≡ false
among_neither ns ms n h other = elim (cases_Bool (is_among n (ns ++ ms))) [
  | inl e ↦ elim (among_either ns ms n e) [ inl f ↦ cc | inr f ↦ absurd (other f) ]
  | inr e ↦ e
]

both_distinct : (ns ms : List ℕ) → AreDistinct ns → AreDistinct ms → ((n : ℕ) → is_among n ns ≡ true → is_among n ms ≡ true → ⊥) → AreDistinct (ns ++ ms)
both_distinct [] ms d e apart = e
both_distinct (n ∷ ns) ms d e apart = (
  among_neither ns ms n d.0 (apart n (or_left (n == n) (is_among n ns) (eq-eqb n n refl))),
  both_distinct ns ms d.1 e (λ k h. apart k (or_right (n == k) (is_among k ns) h)),
)

-- ---- one event

abbrev Waits : State → ℕ → Type 0
Waits s n = (task : Task) × (get s.tasks n ≡ Some task)

-- each task that waits has an earlier number than the next one
abbrev HasEarlier : State → Type 0
HasEarlier s = (n : ℕ) (task : Task) → get s.tasks n ≡ Some task → n < s.next_task

-- an event takes these: they waited, and no longer do. Each task that waits then waited before, or the event put it.
record Iterations (taken : List ℕ) (s t : State) : Type 0 where
  numbers : s.next_task ≤ t.next_task
  waits : (n : ℕ) → Waits t n → Waits s n ⊎ (is_among n (put_between s t) ≡ true)
  gone : (n : ℕ) → is_among n taken ≡ true → Waits s n × (Waits t n → ⊥)
  distinct : AreDistinct taken

-- a task that an event puts has the next number
put_next : (s t : State) (n : ℕ) → s.next_task ≤ t.next_task → is_among n (put_between s t) ≡ true → (s.next_task ≡ n) × (n < t.next_task)
put_next s t n grown = by (s.next_task == t.next_task) refl
  where
    by : (b : Bool) → (s.next_task == t.next_task) ≡ b → is_among n (if b then [] else s.next_task ∷ []) ≡ true → (s.next_task ≡ n) × (n < t.next_task)
    by true e h = cc
    by false e h =
        let is = among_one n s.next_task h in
        let more = eqb-false s.next_task t.next_task e in
        (is, omega arith)

earlier_still : (taken : List ℕ) (s t : State) → Iterations taken s t → HasEarlier s → HasEarlier t
earlier_still taken s t turn h n task at = elim (turn.waits n (task, at)) [
  | inl before ↦ let below = h n before.0 before.1 in let grown = turn.numbers in omega arith
  | inr now ↦ (put_next s t n turn.numbers now).1
]

module _ (s : State) where
  -- no task is added or removed
  same_tasks : (t : State) → t.tasks ≡ s.tasks → t.next_task ≡ s.next_task → Iterations [] s t
  same_tasks t same next = record {
    numbers = omega arith;
    waits = λ n h. inl (h.0, sym (ap (λ (m : Tasks). get m n) same) ∙ h.1);
    gone = λ n h. cc;
    distinct = tt;
  }

  -- one is added
  one_put : (t : State) (task : Task) → t.tasks ≡ insert s.tasks s.next_task task → t.next_task ≡ s.next_task + 1 → Iterations [] s t
  one_put t task more next = record {
    numbers = omega arith;
    waits = λ n h. elim (put_or_before nat_cmp_total nat_cmp-IsAntisymmetric s.tasks s.next_task task n h.0 (sym (ap (λ (m : Tasks). get m n) more) ∙ h.1)) [
      | inl here ↦ inr (put_here n here.0)
      | inr before ↦ inl (h.0, before)
    ];
    gone = λ n h. cc;
    distinct = tt;
  }
    where
      put_here : (n : ℕ) → n ≡ s.next_task → is_among n (put_between s t) ≡ true
      put_here n is = rw (ne_eqb s.next_task t.next_task (λ e. omega arith), eq-eqb s.next_task n (sym is)) refl

  -- one is removed
  one_taken : (t : State) (e : ℕ × Task) → get s.tasks e.0 ≡ Some e.1 → t.tasks ≡ remove s.tasks e.0 → t.next_task ≡ s.next_task → Iterations (e.0 ∷ []) s t
  one_taken t e waited less next = record {
    numbers = omega arith;
    waits = λ n h. inl (h.0, (left n h).1);
    gone = λ n h. let is = among_one n e.0 h in ((e.1, subst (λ k. get s.tasks k ≡ Some e.1) is waited), λ still. (left n still).0 (sym is));
    distinct = (refl, tt);
  }
    where
      left : (n : ℕ) (h : Waits t n) → (n ≡ e.0 → ⊥) × (get s.tasks n ≡ Some h.0)
      left n h = before_removal nat_cmp_total nat_cmp-IsAntisymmetric s.tasks e.0 n h.0 (sym (ap (λ (m : Tasks). get m n) less) ∙ h.1)

  event_turns : (program : List Procedure) (layout : ActorCounts) (event : Event) → IfWent (step program layout event s) (Iterations (taken_by event s) s)
  unfolding step
  event_turns program layout (Take actor) = take_leaves program actor s layout (λ e frame first _. rw first (one_taken _ e (best_waits actor s.tasks e first) refl refl))
  event_turns program layout (Local actor n) = local_leaves program actor s n (λ frame at _ _. same_tasks _ refl refl)
  event_turns program layout (Call actor) = call_leaves program actor s (λ at i c _ _. same_tasks _ refl refl) (λ at action call _ _. same_tasks _ refl refl) (λ at action call _ _. one_put _ call.task refl refl)
  event_turns program layout (End actor) = end_leaves program actor s (same_tasks _ refl refl)
  event_turns program layout (Ask engine rule parameter) = ask_leaves s engine rule parameter (λ rule id x _. same_tasks _ refl refl) (λ rule id x _. same_tasks _ refl refl)
  event_turns program layout (Deliver server datum rule parameter) = deliver_leaves s layout server (record { datum = datum; rule = rule; parameter = parameter }) (λ _ _. same_tasks _ refl refl) (λ rule _ _. same_tasks _ refl refl)
  event_turns program layout (Release engine rule) = release_leaves s program engine rule (λ rule p _ _. one_put _ (task_from p.kind rule) refl refl)

-- ---- runs

-- the tasks that a run from here takes, if it puts these
record Follows (taken put : List ℕ) (s : State) : Type 0 where
  waited : (n : ℕ) → is_among n taken ≡ true → Waits s n ⊎ (is_among n put ≡ true)
  later : (n : ℕ) → is_among n put ≡ true → s.next_task ≤ n
  distinct : AreDistinct taken

nothing_follows : (s : State) → Follows [] [] s
nothing_follows s = record { waited = λ n h. cc; later = λ n h. cc; distinct = tt }

-- an event, and the events after it
joined : (now taken put : List ℕ) (s t : State) → HasEarlier s → Iterations now s t → Follows taken put t → Follows (now ++ taken) (put_between s t ++ put) s
joined now taken put s t h turn rest = record {
  waited = λ n among. elim (among_either now taken n among) [
    | inl first ↦ inl (turn.gone n first).0
    | inr second ↦ elim (rest.waited n second) [
      | inl waits ↦ elim (turn.waits n waits) [ inl before ↦ inl before | inr here ↦ inr (among_first (put_between s t) put n here) ]
      | inr here ↦ inr (among_second (put_between s t) put n here)
    ]
  ];
  later = λ n among. elim (among_either (put_between s t) put n among) [
    | inl first ↦ let is = (put_next s t n turn.numbers first).0 in omega arith
    | inr second ↦ let above = rest.later n second in let grown = turn.numbers in omega arith
  ];
  distinct = both_distinct now taken turn.distinct rest.distinct (λ n first second. elim (rest.waited n second) [
    | inl waits ↦ (turn.gone n first).1 waits
    | inr here ↦
        let waited = (turn.gone n first).0 in
        let below = h n waited.0 waited.1 in
        let above = rest.later n here in
        let grown = turn.numbers in
        absurd (omega arith)
  ]);
}

module _ (program : List Procedure) (layout : ActorCounts) where
  run_follows : (events : List Event) (s : State) → HasEarlier s → Follows (takes program layout events s) (puts program layout events s) s
  run_follows [] s h = nothing_follows s
  run_follows (event ∷ events) s h = by (step program layout event s) (λ t e. went_of (step program layout event s) (Iterations (taken_by event s) s) t (event_turns s program layout event) e) (λ t later. run_follows events t later)
    where
      by : (o : Outcome State) → ((t : State) → o ≡ Went t → Iterations (taken_by event s) s t) → ((t : State) → HasEarlier t → Follows (takes program layout events t) (puts program layout events t) t)
          → Follows (if_succeeded o (λ t. taken_by event s ++ takes program layout events t)) (if_succeeded o (λ t. put_between s t ++ puts program layout events t)) s
      by (Went t) turn rest = joined (taken_by event s) (takes program layout events t) (puts program layout events t) s t h (turn t refl) (rest t (earlier_still (taken_by event s) s t (turn t refl) h))
      by NotEnabled turn rest = nothing_follows s
      by (Trap cause) turn rest = nothing_follows s

-- only main waits
main_waits : (program : List Procedure) (inputs : List Input) (n : ℕ) (task : Task) → get (opening program inputs).tasks n ≡ Some task → n ≡ 1
unfolding opening
main_waits program inputs n task at = elim (put_or_before nat_cmp_total nat_cmp-IsAntisymmetric empty 1 _ n task at) [
  | inl here ↦ here.0
  | inr before ↦ let none : None ≡ Some task = sym (get-empty nat_cmp n) ∙ before in cc
]

opening_next : (program : List Procedure) (inputs : List Input) → (opening program inputs).next_task ≡ 2
unfolding opening
opening_next program inputs = refl

-- for any program
pub takes_once : (program : List Procedure) (inputs : List Input) (layout : ActorCounts) (events : List Event) → TakesOnce program inputs layout events
takes_once program inputs layout events =
    let follows = run_follows program layout events (opening program inputs) (λ n task at. let one = main_waits program inputs n task at in let next = opening_next program inputs in omega arith) in
    record {
      distinct = follows.distinct;
      put = λ n among. elim (follows.waited n among) [
        | inl waits ↦ or_left (1 == n) _ (eq-eqb 1 n (sym (main_waits program inputs n waits.0 waits.1)))
        | inr here ↦ or_right (1 == n) _ here
      ];
    }
