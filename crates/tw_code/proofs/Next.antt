-- A due event is enabled, and some event is due for an actor of the layout while a run isn't quiet.
use Rattle.std.proofs.Common.{[], ◌≡◌, ◌≢◌, ◌⊎◌, inl, inr, ℕ, ◌<◌, ◌≤◌, ◌==◌, true, false, ◌&&◌, ◌||◌, nat_lt, List, ◌∷◌, length, is_some, Option, Some, None, refl, sym, ap, subst, ◌∙◌, arith, nat_cmp}
use Rattle.std.proofs.lemmas.Bool.{cases_Bool, eq-eqb, eqb-true}
use Rattle.std.proofs.lemmas.Bool.Decides.{nat_tests}
use Rattle.std.proofs.lemmas.Nat.{mod_below}
use Rattle.std.proofs.lemmas.Option.{same_Some}
use Rattle.std.specs.Cmp.{nat_cmp_total, tied_itself}
use Rattle.std.specs.declared.cmp.Ordering.{Ordering}
use Rattle.std.specs.FinMap.{FinMap, get, entries, values, len, len-entries, empty_of_len, get-empty}
use Rattle.std.specs.FinSet as set
use Rattle.std.specs.List.{list_any}
use Rattle.std.specs.Option.{ok_or}
use Rattle.std.specs.Ordering.{is_eq, eq_by_cmp}
use Rattle.tw_types.specs.declared.actor.Actor.{Actor}
use Rattle.tw_types.specs.declared.actor.Actor.TheVariants.{Engine, Server, Worker}
use Rattle.tw_types.specs.declared.actor.Kind.{Kind}
use Rattle.tw_types.specs.declared.actor.Kind.TheVariants.{Control, Leaf}
use Rattle.tw_types.specs.declared.cause.Cause.TheVariants.{FreedDatum}
use Rattle.tw_types.specs.declared.event.Event.{Event}
use Rattle.tw_types.specs.declared.event.Event.TheVariants.{Take, Ask, Deliver, Release}
use Rattle.tw_types.specs.declared.input.Input.{Input}
use Rattle.tw_types.specs.declared.notice.Notice.{Notice}
use Rattle.tw_types.specs.Actor.{actor_cmp, is_in, may_take}
use Rattle.tw_types.specs.Layout.{ActorCounts, IsLayout}
use Rattle.tw_types.specs.Notices.{Notices, notice_cmp}
use Rattle.tw_types.specs.Outcome.{Went, NotEnabled}
use Rattle.tw_types.specs.Rule.{Rule, has_unasked, is_releasable, next_ask, next_release}
use Rattle.tw_types.specs.Store.{server_of}
use Rattle.tw_types.specs.Task.{Task, is_for, is_eligible, best}
use Rattle.tw_types.proofs.ActorOrder.{actor_cmp_total}
use Rattle.tw_types.proofs.NoticeOrder.{notice_cmp_total, notice_cmp-IsAntisymmetric}
use Rattle.tw_types.proofs.Totals.{IsEntry, get_entry}
use Rattle.tw_code.specs.accepting.Needs.{up_to, HasTargets}
use Rattle.tw_code.specs.declared.procedure.Procedure.{Procedure}
use Rattle.tw_code.specs.machine.Arguments.{procedure_of}
use Rattle.tw_code.specs.machine.Due.{instr_here, event_of, take_of, first_of, IsDueFree, IsDueFor, IsDue}
use Rattle.tw_code.specs.machine.Enabled.{SomeEnabled}
use Rattle.tw_code.specs.machine.Ending.{is_quiet}
use Rattle.tw_code.specs.machine.Machine.{step}
use Rattle.tw_code.specs.machine.Opening.{reached}
use Rattle.tw_code.specs.machine.State.{Frame, State, frame_of}
use Rattle.tw_code.proofs.Ever.{GoesOrTraps, is_enabled, went_after, frame_moves}
use Rattle.tw_code.proofs.Found.{IsUnaskedAt, MayBeReleased, any_entry, ask_found, ask_there, best_there, own_rule_there, release_found, release_there}
use Rattle.tw_code.proofs.Placed.{count_of, IsPlaced, reached_placed}

-- ---- due events are enabled

module _ (program : List Procedure) (layout : ActorCounts) (s : State) where
  abbrev Moves : Event → Type 0
  Moves event = GoesOrTraps (step program layout event s)

  take_moves : (actor : Actor) (t : ℕ × Task) → is_in layout actor ≡ true → get s.frames actor ≡ None → best actor s.tasks ≡ Some t → Moves (Take actor)
  unfolding step
  take_moves actor t there free is = rw (there, free, is) (went_after (frame_of program t.0 t.1) _)

  ask_moves : IsPlaced program layout s → (engine number parameter : ℕ) → get s.frames (Engine engine) ≡ None → next_ask engine s.rules ≡ Some (number, parameter) → Moves (Ask engine number parameter)
  unfolding step
  ask_moves h engine number parameter free is =
      let found = ask_found engine number parameter s.rules is in
      let there = own_rule_there engine (IsUnaskedAt parameter) number s.rules found in
      let right = (h.rules number found.rule there).asks parameter found.has in
      rw (free, there, found.own, found.has, right.1) (went_after (ok_or (get s.store.live right.0) FreedDatum) _)

  release_moves : (engine number : ℕ) → get s.frames (Engine engine) ≡ None → next_release engine s.rules ≡ Some number → Moves (Release engine number)
  unfolding step
  release_moves engine number free is =
      let found = release_found engine number s.rules is in
      rw (free, own_rule_there engine MayBeReleased number s.rules found, found.own, found.has) (went_after (procedure_of program found.rule.procedure) _)

  deliver_moves : (server : ℕ) (n : Notice) → nat_lt server layout.servers ≡ true → server_of layout.servers n.datum ≡ server → set.contains s.notices n ≡ true → Moves (Deliver server n.datum n.rule n.parameter)
  unfolding step
  deliver_moves server n there own waits = let owns : (server_of layout.servers n.datum == server) ≡ true = eq-eqb _ _ own in rw (there, owns, waits) tt

  module _ (h : IsPlaced program layout s) where
    take_due : (actor : Actor) (event : Event) → is_in layout actor ≡ true → get s.frames actor ≡ None → (o : Option (ℕ × Task)) → best actor s.tasks ≡ o → take_of actor o ≡ Some event → Moves event
    take_due actor event there free None is due = cc
    take_due actor event there free (Some t) is due = subst Moves (same_Some (Take actor) event due) (take_moves actor t there free is)

    engine_due : (engine : ℕ) (event : Event) → is_in layout (Engine engine) ≡ true → get s.frames (Engine engine) ≡ None
        → (ask : Option (ℕ × ℕ)) → next_ask engine s.rules ≡ ask → (release : Option ℕ) → next_release engine s.rules ≡ release → first_of engine ask release (best (Engine engine) s.tasks) ≡ Some event → Moves event
    engine_due engine event there free (Some q) asks release releases due = subst Moves (same_Some _ event due) (ask_moves h engine q.0 q.1 free asks)
    engine_due engine event there free None asks (Some number) releases due = subst Moves (same_Some _ event due) (release_moves engine number free releases)
    engine_due engine event there free None asks None releases due = take_due (Engine engine) event there free (best (Engine engine) s.tasks) refl due

    free_due : (actor : Actor) (event : Event) → is_in layout actor ≡ true → get s.frames actor ≡ None → IsDueFree layout actor s event → Moves event
    free_due (Engine engine) event there free due = engine_due engine event there free (next_ask engine s.rules) refl (next_release engine s.rules) refl due
    free_due (Server server) event there free due = subst Moves (sym due.is) (deliver_moves server due.notice there due.own due.waits)
    free_due (Worker worker) event there free due = take_due (Worker worker) event there free (best (Worker worker) s.tasks) refl due

    by_frame : (actor : Actor) (event : Event) → is_in layout actor ≡ true → (o : Option Frame) → get s.frames actor ≡ o → IsDueFor program layout actor s o event → Moves event
    by_frame actor event there (Some frame) is due = subst Moves (sym due) (frame_moves program layout actor s frame is)
    by_frame actor event there None is due = free_due actor event there is due

    -- each event that is due for an actor of the layout
    due_moves : (actor : Actor) (event : Event) → is_in layout actor ≡ true → IsDue program layout actor s event → step program layout event s ≢ NotEnabled
    due_moves actor event there due = is_enabled (step program layout event s) (by_frame actor event there (get s.frames actor) refl due)

-- ---- while a run isn't quiet, something is due

pub record SomeDue (program : List Procedure) (layout : ActorCounts) (s : State) : Type 0 where
  pub actor : Actor
  pub event : Event
  pub there : is_in layout actor ≡ true
  pub due : IsDue program layout actor s event

-- a map that isn't empty has an entry
some_entry : {K X : Type 0} {R : K → K → Ordering} (m : FinMap R X) → (len m == 0) ≡ false → (e : K × X) × IsEntry e (entries m)
some_entry {K = K} {X = X} m h = by (entries m) (len-entries m)
  where
    by : (es : List (K × X)) → len m ≡ length es → (e : K × X) × IsEntry e es
    by [] is = let zero_is : (len m == 0) ≡ true = eq-eqb (len m) 0 is in cc
    by (e ∷ es) is = (e, inl refl)

no_notice : (s : Notices) → set.items s ≡ [] → set.len s ≡ 0
no_notice s is = ap set.len (set.same_set notice_cmp_total notice_cmp-IsAntisymmetric s set.empty (λ q. set.contains-items s q ∙ ap (list_any (eq_by_cmp notice_cmp q)) is ∙ sym (set.contains-empty notice_cmp q))) ∙ set.len-empty notice_cmp

some_notice : (s : Notices) → (set.len s == 0) ≡ false → (n : Notice) × (set.contains s n ≡ true)
some_notice s h = by (set.items s) refl
  where
    by : (ns : List Notice) → set.items s ≡ ns → (n : Notice) × (set.contains s n ≡ true)
    by [] is = let zero_is : (set.len s == 0) ≡ true = eq-eqb (set.len s) 0 (no_notice s is) in cc
    by (n ∷ ns) is = (n, set.contains-items s n ∙ ap (list_any (eq_by_cmp notice_cmp n)) is ∙ ap (λ r. is_eq r || list_any (eq_by_cmp notice_cmp n) ns) (tied_itself notice_cmp_total n))

-- ---- who takes a task

number_for : Option ℕ → ℕ
number_for None = 0
number_for (Some number) = number

is_for_it : (target : Option ℕ) → is_for target (number_for target) ≡ true
unfolding number_for
is_for_it None = refl
is_for_it (Some number) = eq-eqb number number refl

number_below : (target : Option ℕ) (count : ℕ) → 1 ≤ count → up_to target ≤ count → nat_lt (number_for target) count ≡ true
unfolding number_for
number_below None count some h = grind (arith, nat_tests, some)
number_below (Some number) count some h = grind (arith, nat_tests, h)

-- ---- an engine or a worker without a frame

engine_finds : (engine : ℕ) (ask : Option (ℕ × ℕ)) (release : Option ℕ) (task : Option (ℕ × Task)) → is_some ask ≡ true ⊎ (is_some release ≡ true ⊎ is_some task ≡ true) → (event : Event) × (first_of engine ask release task ≡ Some event)
engine_finds engine (Some q) release task h = (Ask engine q.0 q.1, refl)
engine_finds engine None (Some number) task h = (Release engine number, refl)
engine_finds engine None None (Some t) h = (Take (Engine engine), refl)
engine_finds engine None None None (inl h) = cc
engine_finds engine None None None (inr (inl h)) = cc
engine_finds engine None None None (inr (inr h)) = cc

worker_finds : (actor : Actor) (task : Option (ℕ × Task)) → is_some task ≡ true → (event : Event) × (take_of actor task ≡ Some event)
worker_finds actor None h = cc
worker_finds actor (Some t) h = (Take actor, refl)

module _ (program : List Procedure) (layout : ActorCounts) (counts : IsLayout layout) (s : State) (h : IsPlaced program layout s) where
  abbrev Due : Type 0
  Due = SomeDue program layout s

  frame_due : (e : Actor × Frame) → IsEntry e (entries s.frames) → Due
  frame_due e i =
      let here = get_entry actor_cmp actor_cmp_total s.frames e i in
      record { actor = e.0; event = event_of e.0 (instr_here program e.1); there = (h.frames e.0 e.1 here).there; due = subst (λ o. IsDueFor program layout e.0 s o (event_of e.0 (instr_here program e.1))) (sym here) refl }

  module _ (no_frame : len s.frames ≡ 0) where
    free : (actor : Actor) (event : Event) → is_in layout actor ≡ true → IsDueFree layout actor s event → Due
    free actor event there due =
        let none : get s.frames actor ≡ None = ap (λ frames. get frames actor) (empty_of_len s.frames no_frame) ∙ get-empty actor_cmp actor in
        record { actor = actor; event = event; there = there; due = subst (λ o. IsDueFor program layout actor s o event) (sym none) due }

    engine_free : (engine : ℕ) → nat_lt engine layout.engines ≡ true → is_some (next_ask engine s.rules) ≡ true ⊎ (is_some (next_release engine s.rules) ≡ true ⊎ is_some (best (Engine engine) s.tasks) ≡ true) → Due
    engine_free engine there finds = let event = engine_finds engine _ _ _ finds in free (Engine engine) event.0 there event.1

    task_due : (e : ℕ × Task) → IsEntry e (entries s.tasks) → Due
    task_due e i = by e.1.kind refl (h.tasks e.0 e.1 (get_entry nat_cmp nat_cmp_total s.tasks e i)).target
      where
        by : (kind : Kind) → e.1.kind ≡ kind → up_to e.1.target ≤ count_of layout e.1.kind → Due
        by Control is below =
            let few : up_to e.1.target ≤ layout.engines = subst (λ kind. up_to e.1.target ≤ count_of layout kind) is below in
            let eligible : is_eligible (Engine (number_for e.1.target)) e.1 ≡ true = ap (λ kind. may_take (Engine (number_for e.1.target)) kind && is_for e.1.target (number_for e.1.target)) is ∙ is_for_it e.1.target in
            engine_free (number_for e.1.target) (number_below e.1.target layout.engines counts.some_engine few) (inr (inr (best_there (Engine (number_for e.1.target)) s.tasks e i eligible)))
        by Leaf is below =
            let few : up_to e.1.target ≤ layout.workers = subst (λ kind. up_to e.1.target ≤ count_of layout kind) is below in
            let eligible : is_eligible (Worker (number_for e.1.target)) e.1 ≡ true = ap (λ kind. may_take (Worker (number_for e.1.target)) kind && is_for e.1.target (number_for e.1.target)) is ∙ is_for_it e.1.target in
            let event = worker_finds (Worker (number_for e.1.target)) _ (best_there (Worker (number_for e.1.target)) s.tasks e i eligible) in
            free (Worker (number_for e.1.target)) event.0 (number_below e.1.target layout.workers counts.some_worker few) event.1

    notice_due : (n : Notice) → set.contains s.notices n ≡ true → Due
    notice_due n waits =
        let server = server_of layout.servers n.datum in
        let below : server < layout.servers = mod_below n.datum layout.servers counts.some_server in
        free (Server server) (Deliver server n.datum n.rule n.parameter) (grind (arith, nat_tests, below)) (record { notice = n; waits = waits; own = refl; is = refl })

    rule_due : (e : ℕ × Rule) → IsEntry e (entries s.rules) → (has_unasked e.1 ≡ true) ⊎ (is_releasable e.1 ≡ true) → Due
    rule_due e i next =
        let below = (h.rules e.0 e.1 (get_entry nat_cmp nat_cmp_total s.rules e i)).engine in
        engine_free e.1.engine (grind (arith, nat_tests, below)) (elim next [
          | inl u ↦ inl (ask_there e.1.engine s.rules e i (eq-eqb e.1.engine e.1.engine refl) u)
          | inr r ↦ inr (inl (release_there e.1.engine s.rules e i (eq-eqb e.1.engine e.1.engine refl) r))
        ])

  something_due : is_quiet s ≡ false → Due
  something_due busy = elim (cases_Bool (len s.frames == 0)) [
    | inr some ↦ let e = some_entry s.frames some in frame_due e.0 e.1
    | inl no_frame ↦ let free = eqb-true (len s.frames) 0 no_frame in elim (cases_Bool (len s.tasks == 0)) [
      | inr some ↦ let e = some_entry s.tasks some in task_due free e.0 e.1
      | inl no_task ↦ elim (cases_Bool (set.len s.notices == 0)) [
        | inr some ↦ let n = some_notice s.notices some in notice_due free n.0 n.1
        | inl no_notice ↦ elim (cases_Bool (list_any has_unasked (values s.rules))) [
          | inl some ↦ let e = any_entry has_unasked (entries s.rules) some in rule_due free e.0 e.1 (inl e.2)
          | inr no_ask ↦ elim (cases_Bool (list_any is_releasable (values s.rules))) [
            | inl some ↦ let e = any_entry is_releasable (entries s.rules) some in rule_due free e.0 e.1 (inr e.2)
            | inr no_release ↦ let quiet : is_quiet s ≡ true = rw (no_frame, no_task, no_notice, no_ask, no_release) refl in cc
          ]
        ]
      ]
    ]
  ]

-- ---- if nothing is due for an actor

-- ---- in each state that a run reaches, of any program

module _ (program : List Procedure) (inputs : List Input) (layout : ActorCounts) (events : List Event) (targets : HasTargets program layout) (s : State) (e : reached program inputs layout events ≡ Went s) where
  -- an event that is due for an actor of the layout is enabled
  pub due_enabled : (actor : Actor) (event : Event) → is_in layout actor ≡ true → IsDue program layout actor s event → step program layout event s ≢ NotEnabled
  due_enabled = due_moves program layout s (reached_placed program inputs layout events targets s e)

  -- while the state isn't quiet, some event is due for one
  pub some_due : IsLayout layout → is_quiet s ≡ false → SomeDue program layout s
  some_due counts busy = something_due program layout counts s (reached_placed program inputs layout events targets s e) busy

pub some_enabled : (program : List Procedure) (inputs : List Input) (layout : ActorCounts) (events : List Event) → SomeEnabled program inputs layout events
some_enabled program inputs layout events counts targets s e busy =
    let d = some_due program inputs layout events targets s e counts busy in
    (d.event, due_enabled program inputs layout events targets s e d.actor d.event d.there d.due)
