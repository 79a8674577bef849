-- Steps of an actor without a task: the lines of the table, from the events of the parts.
use Rattle.tw_pool.proofs.Names.{Actor, ActorCounts, Arg, Ask, Bool, Deliver, Engine, Event, EventTakes, FitsWord, Frame, FrameFits, FrameView, HasNoAsk, HasNoRelease, HasState, HistoryView, Input, IsAskOfOpen, IsDueFree, IsFree, IsHeld, IsKept, IsSome, IsTurnBy, Issues, JobView, Line, List, MayTakeNow, None, Notice, Notices, Option, Parts, PoolView, Procedure, Release, Server, Some, State, Take, TakesMemory, TakesTexts, Task, TaskOf, Turn, TurnsFree, TypedProgram, Went, Worker, [], and_parts, ap, append-nil, arith, bare_arg, bare_frame, bare_task, best, best_mapped, entry_by, eqb-true, events_of, false, first_of, get, get_mapped, inl, inr, is_among, is_in, issued_to, job_of, length, nat_lt, next_ask, next_ask_mapped, next_release, next_release_mapped, oldest_notice, only_if, option_map, queue_at, reached_is_held, refl, same_Some, same_went, server_of, slice_get, state_of, subst, sym, take_of, true, typings_of, went_after, went_only, with_events, ℕ, ◌&&◌, ◌++◌, ◌+◌, ◌<◌, ◌==◌, ◌^◌, ◌∙◌, ◌∷◌, ◌≡◌}
use Rattle.std.specs.declared.alloc.AllocError.{AllocError}
use Rattle.std.specs.declared.result.Result.TheVariants.{Ok}
use Rattle.std.specs.FinSet as set
use Rattle.tw_code.specs.machine.Machine.{step}
use Rattle.tw_code.proofs.Found.{ask_found, own_rule_there, release_found}
use Rattle.tw_soundness.proofs.Asked.{Noted, noted}
use Rattle.tw_pool_state.specs.Events.{Succeeds, IsTaken, IsTried, Makes, Untouched}
use Rattle.tw_pool.specs.declared.answer.Turn.TheVariants.{Idle, NoMemory, Run, Went as Made}
use Rattle.tw_pool.proofs.Fitting.{few_parameters, low_datum, small_numbers}
use Rattle.tw_pool.proofs.Keeping.{ask_frames, deliver_frames, made_free, made_issued, no_task, own_count, release_frames, still}

-- as what a pool is seen
abbrev pub viewed : TypedProgram → List Input → ActorCounts → Bool → HistoryView → PoolView
viewed verified inputs layout stopped traced = record { program = verified; inputs = inputs; layout = layout; limit = traced.limit; stopped = stopped; history = traced.events }

-- the result of an attempt, by whether an event was due
pub tried_none : {A : Type 0} (due : Option A) (Done : A → Type 0) (Same : Type 0) (o : Option A) → o ≡ None → IsTried {E = AllocError} due Done Same (Ok o) → (due ≡ None) × Same
tried_none due Done Same o is h = subst (λ x. IsTried {E = AllocError} due Done Same (Ok x)) is h

pub tried_some : {A : Type 0} (due : Option A) (Done : A → Type 0) (Same : Type 0) (o : Option A) (x : A) → o ≡ Some x → IsTried {E = AllocError} due Done Same (Ok o) → (due ≡ Some x) × Done x
tried_some due Done Same o x is h = subst (λ y. IsTried {E = AllocError} due Done Same (Ok y)) is h

pub taken_none : {A : Type 0} (due : Option A) (Done : A → JobView → Type 0) (Same : Type 0) (o : Option JobView) → o ≡ None → IsTaken {E = AllocError} due Done Same (Ok o) → (due ≡ None) × Same
taken_none due Done Same o is h = subst (λ x. IsTaken {E = AllocError} due Done Same (Ok x)) is h

pub taken_some : {A : Type 0} (due : Option A) (Done : A → JobView → Type 0) (Same : Type 0) (o : Option JobView) (job : JobView) → o ≡ Some job → IsTaken {E = AllocError} due Done Same (Ok o) → (x : A) × (due ≡ Some x) × Done x job
taken_some due Done Same o job is h = subst (λ y. IsTaken {E = AllocError} due Done Same (Ok y)) is h

-- the notice that is delivered is of this server
delivery : (program : List Procedure) (layout : ActorCounts) (server : ℕ) (n : Notice) (s t : State) → step program layout (Deliver server n.datum n.rule n.parameter) s ≡ Went t → (set.contains s.notices n ≡ true) × (server_of layout.servers n.datum ≡ server)
unfolding step
delivery program layout server n s t e =
    let here = went_after (only_if (nat_lt server layout.servers && (server_of layout.servers n.datum == server))) _ t e in
    let has = went_after (only_if (set.contains s.notices n)) _ t here.1 in
    let both = and_parts (nat_lt server layout.servers) (server_of layout.servers n.datum == server) (went_only _ here.0) in
    (went_only (set.contains s.notices n) has.0, eqb-true (server_of layout.servers n.datum) server both.1)

module _ (verified : TypedProgram) (inputs : List Input) (layout : ActorCounts) (stopped : Bool) (traced : HistoryView) (old : Parts) (h : IsKept verified inputs layout traced.limit traced.events old) (w : PoolView) (seen : viewed verified inputs layout stopped traced ≡ w) where
  abbrev pub state : State
  state = state_of old h.notices

  pub has_state : HasState w state
  has_state = subst (λ (x : PoolView). HasState x state) seen h.replays

  law : IsHeld verified.program (typings_of verified) state
  law = reached_is_held verified.program (typings_of verified) h.parts.runnable.is h.parts.runnable.right inputs layout traced.events state h.given h.replays

  pub room_here : length w.history < w.limit → length traced.events < traced.limit
  room_here room = subst (λ (x : PoolView). length x.history < x.limit) (sym seen) room

  free_here : (actor : Actor) → IsFree w actor → get state.frames actor ≡ None
  free_here actor free = free state has_state

  -- events that are recorded
  pub appended : (es : List Event) (now : HistoryView) → now ≡ record { events = traced.events ++ es; limit = traced.limit } → viewed verified inputs layout stopped now ≡ with_events w es
  appended es now pushed = ap (viewed verified inputs layout stopped) pushed ∙ ap (λ (x : PoolView). with_events x es) seen

  pub kept_traced : (event : Event) (now : HistoryView) (new : Parts) → now ≡ record { events = traced.events ++ event ∷ []; limit = traced.limit } → IsKept verified inputs layout traced.limit (traced.events ++ event ∷ []) new
      → IsKept verified inputs layout now.limit now.events new
  kept_traced event now new pushed kept = subst (λ (t : HistoryView). IsKept verified inputs layout t.limit t.events new) (sym pushed) kept

  pub kept_as : (es : List Event) (now : HistoryView) (new : Parts) → now ≡ record { events = traced.events ++ es; limit = traced.limit } → IsKept verified inputs layout traced.limit (traced.events ++ es) new → IsKept verified inputs layout now.limit now.events new
  kept_as es now new pushed kept = subst (λ (t : HistoryView). IsKept verified inputs layout t.limit t.events new) (sym pushed) kept

  pub line_traced : (line : State → Line) (answer : Turn) (es : List Event) (now : HistoryView) → now ≡ record { events = traced.events ++ es; limit = traced.limit } → line state answer es → IsTurnBy line w answer (viewed verified inputs layout stopped now)
  line_traced line answer es now pushed is = record { state = state; has_state = has_state; events = es; is = is; appended = appended es now pushed }

  -- no event is recorded
  pub line_still : (line : State → Line) (answer : Turn) → line state answer [] → IsTurnBy line w answer (viewed verified inputs layout stopped traced)
  line_still line answer is = record { state = state; has_state = has_state; events = []; is = is; appended = seen ∙ ap (λ es. record w { history = es }) (sym (append-nil w.history)) }

  -- if the event may allocate at once
  wanted : (event : Event) → EventTakes verified.program state event → TakesMemory w [] event
  wanted event takes = record {
    state = state;
    has_state = subst (λ es. HasState (record w { history = es }) state) (sym (append-nil w.history)) has_state;
    takes = subst (λ (x : PoolView). EventTakes x.program.program state event) seen takes;
  }

  pub kept_still : (new : Parts) → Untouched old new → IsKept verified inputs layout traced.limit traced.events new
  kept_still new u = still verified inputs layout traced.limit traced.events old h new u

  -- ---- a server

  pub deliver_none : (server : ℕ) → queue_at old.store.queues server ≡ [] → (due : Event) → IsDueFree w.layout (Server server) state due → ⊥
  deliver_none server empty due d = none_there d.notice (sym (h.parts.queued.all d.notice) ∙ d.waits) (own d.notice d.own)
    where
      own : (n : Notice) → server_of w.layout.servers n.datum ≡ server → server_of (length old.store.queues) n.datum ≡ server
      own n e = ap (λ k. server_of k n.datum) (h.parts.servers ∙ ap (λ (x : PoolView). x.layout.servers) seen) ∙ e

      none_there : (n : Notice) → is_among n (queue_at old.store.queues (server_of (length old.store.queues) n.datum)) ≡ true → server_of (length old.store.queues) n.datum ≡ server → ⊥
      none_there n has at = let no : false ≡ true = sym (ap (λ q. is_among n q) (ap (queue_at old.store.queues) at ∙ empty)) ∙ has in cc

  module _ (server : ℕ) (low : server < w.layout.servers) (room : length w.history < w.limit) (free : IsFree w (Server server)) where
    low_here : server < layout.servers
    low_here = subst (λ (x : PoolView). server < x.layout.servers) (sym seen) low

    pub deliver_idle : queue_at old.store.queues server ≡ [] → TurnsFree w state (Server server) Idle []
    deliver_idle empty = inr (deliver_none server empty, (refl, refl))

    module _ (n : Notice) (new : Parts) (makes : Makes verified layout (Deliver server n.datum n.rule n.parameter) old new) where
      goes : Succeeds verified layout (Deliver server n.datum n.rule n.parameter) old h.notices new
      goes = makes h.notices h.parts

      waits : (set.contains state.notices n ≡ true) × (server_of layout.servers n.datum ≡ server)
      waits = delivery verified.program layout server n state (state_of new goes.left) goes.step_is

      known : Noted state.rules n
      known = noted state.store.live state.notices state.rules n law.notices waits.0

      pub deliver_fits : FitsWord (Deliver server n.datum n.rule n.parameter)
      deliver_fits =
          let few = h.parts.runnable.counts.few_servers in
          let parameter = few_parameters verified.program (typings_of verified) h.parts.runnable.is state law n.rule known.rule known.is n.parameter _ known.stage in
          let datum = low_datum verified.program (typings_of verified) h.parts.runnable.is state law n.rule known.rule known.is n.parameter n.datum known.arg in
          let rule = law.numbers.rules n.rule known.rule known.is in
          let small = small_numbers verified.program inputs layout traced.events state h.parts.runnable.is h.given (omega (arith, h.within, h.few)) h.replays in
          (omega (arith, low_here, few), (omega (arith, datum, small.datum, h.within, h.few), omega (arith, rule, small.rule, h.within, h.few), parameter))

      pub deliver_kept : IsKept verified inputs layout traced.limit (traced.events ++ Deliver server n.datum n.rule n.parameter ∷ []) new
      deliver_kept = made_free verified inputs layout traced.limit traced.events old h (Deliver server n.datum n.rule n.parameter) new goes (room_here room) (free_here (Server server) free)
          (deliver_frames verified.program layout state (state_of new goes.left) server n goes.step_is)

      pub deliver_line : slice_get (queue_at old.store.queues server) 0 ≡ Some n → TurnsFree w state (Server server) Made (Deliver server n.datum n.rule n.parameter ∷ [])
      deliver_line oldest = inl (
        Deliver server n.datum n.rule n.parameter,
        record { notice = n; waits = waits.0; own = ap (λ (x : PoolView). server_of x.layout.servers n.datum) (sym seen) ∙ waits.1; is = refl },
        subst (λ (x : PoolView). oldest_notice x server ≡ Some n) seen (ap (λ qs. slice_get (queue_at qs server) 0) (sym h.queues) ∙ oldest),
        (refl, refl),
      )

  -- ---- an engine

  module _ (engine : ℕ) (low : engine < w.layout.engines) (room : length w.history < w.limit) (free : IsFree w (Engine engine)) where
    engine_low : engine < 4
    engine_low = let here = subst (λ (x : PoolView). engine < x.layout.engines) (sym seen) low in let few = h.parts.runnable.counts.few_engines in omega (arith, here, few)

    pub slot_free : get old.running_tasks.tasks (Engine engine) ≡ None
    slot_free = no_task old h.notices (Engine engine) (free_here (Engine engine) free)

    pub asks_none : next_ask engine old.rules.rules ≡ None → HasNoAsk w engine
    asks_none e s at = ap (λ (t : State). next_ask engine t.rules) (same_went s state (sym at ∙ has_state)) ∙ next_ask_mapped bare_arg engine old.rules.rules ∙ e

    pub releases_none : next_release engine old.rules.rules ≡ None → HasNoRelease w engine
    releases_none e s at = ap (λ (t : State). next_release engine t.rules) (same_went s state (sym at ∙ has_state)) ∙ next_release_mapped bare_arg engine old.rules.rules ∙ e

    pub next_task_small : old.next_task < 2 ^ 63
    next_task_small =
        let small = small_numbers verified.program inputs layout traced.events state h.parts.runnable.is h.given (omega (arith, h.within, h.few)) h.replays in
        omega (arith, small.task, h.within, h.few)

    module _ (rule parameter : ℕ) (due : next_ask engine old.rules.rules ≡ Some (rule, parameter)) where
      asked : next_ask engine state.rules ≡ Some (rule, parameter)
      asked = next_ask_mapped bare_arg engine old.rules.rules ∙ due

      ask_due : IsDueFree w.layout (Engine engine) state (Ask engine rule parameter)
      ask_due = ap (λ o. first_of engine o (next_release engine state.rules) (best (Engine engine) state.tasks)) asked

      ask_refused : IsAskOfOpen state rule parameter → TurnsFree w state (Engine engine) (NoMemory None) []
      ask_refused takes = inl (Ask engine rule parameter, ask_due, tt, inr (wanted (Ask engine rule parameter) takes, (refl, refl)))

      module _ (new : Parts) (makes : Makes verified layout (Ask engine rule parameter) old new) where
        ask_goes : Succeeds verified layout (Ask engine rule parameter) old h.notices new
        ask_goes = makes h.notices h.parts

        pub ask_fits : FitsWord (Ask engine rule parameter)
        ask_fits =
            let found = ask_found engine rule parameter state.rules asked in
            let at = own_rule_there engine _ rule state.rules found in
            let number = law.numbers.rules rule found.rule at in
            let few = few_parameters verified.program (typings_of verified) h.parts.runnable.is state law rule found.rule at parameter _ found.has in
            let small = small_numbers verified.program inputs layout traced.events state h.parts.runnable.is h.given (omega (arith, h.within, h.few)) h.replays in
            (engine_low, (omega (arith, number, small.rule, h.within, h.few), few))

        pub ask_kept : IsKept verified inputs layout traced.limit (traced.events ++ Ask engine rule parameter ∷ []) new
        ask_kept = made_free verified inputs layout traced.limit traced.events old h (Ask engine rule parameter) new ask_goes (room_here room) (free_here (Engine engine) free)
            (ask_frames verified.program layout state (state_of new ask_goes.left) engine rule parameter ask_goes.step_is)

        pub ask_line : TurnsFree w state (Engine engine) Made (Ask engine rule parameter ∷ [])
        ask_line = inl (Ask engine rule parameter, ask_due, tt, inl (refl, refl))

    pub ask_refused_for : IsSome (next_ask engine old.rules.rules) → ((q : ℕ × ℕ) (ns : Notices) → next_ask engine old.rules.rules ≡ Some q → IsAskOfOpen (state_of old ns) q.0 q.1)
        → TurnsFree w state (Engine engine) (NoMemory None) []
    ask_refused_for some takes = by (next_ask engine old.rules.rules) refl some
      where
        by : (o : Option (ℕ × ℕ)) → next_ask engine old.rules.rules ≡ o → IsSome o → TurnsFree w state (Engine engine) (NoMemory None) []
        by None e is = cc
        by (Some q) e is = ask_refused q.0 q.1 e (takes q h.notices e)

    module _ (none : HasNoAsk w engine) (rule : ℕ) (due : next_release engine old.rules.rules ≡ Some rule) where
      released : next_release engine state.rules ≡ Some rule
      released = next_release_mapped bare_arg engine old.rules.rules ∙ due

      release_due : IsDueFree w.layout (Engine engine) state (Release engine rule)
      release_due = ap (λ o. first_of engine o (next_release engine state.rules) (best (Engine engine) state.tasks)) (none state has_state) ∙ ap (λ o. first_of engine None o (best (Engine engine) state.tasks)) released

      release_refused : TurnsFree w state (Engine engine) (NoMemory None) []
      release_refused = inl (Release engine rule, release_due, tt, inr (wanted (Release engine rule) tt, (refl, refl)))

      module _ (new : Parts) (makes : Makes verified layout (Release engine rule) old new) where
        release_goes : Succeeds verified layout (Release engine rule) old h.notices new
        release_goes = makes h.notices h.parts

        pub release_fits : FitsWord (Release engine rule)
        release_fits =
            let found = release_found engine rule state.rules released in
            let at = own_rule_there engine _ rule state.rules found in
            let number = law.numbers.rules rule found.rule at in
            let small = small_numbers verified.program inputs layout traced.events state h.parts.runnable.is h.given (omega (arith, h.within, h.few)) h.replays in
            (engine_low, omega (arith, number, small.rule, h.within, h.few))

        pub release_kept : IsKept verified inputs layout traced.limit (traced.events ++ Release engine rule ∷ []) new
        release_kept = made_free verified inputs layout traced.limit traced.events old h (Release engine rule) new release_goes (room_here room) (free_here (Engine engine) free)
            (release_frames verified.program layout state (state_of new release_goes.left) engine rule release_goes.step_is)

        pub release_line : TurnsFree w state (Engine engine) Made (Release engine rule ∷ [])
        release_line = inl (Release engine rule, release_due, tt, inl (refl, refl))

    pub release_refused_for : HasNoAsk w engine → IsSome (next_release engine old.rules.rules) → TurnsFree w state (Engine engine) (NoMemory None) []
    release_refused_for none some = by (next_release engine old.rules.rules) refl some
      where
        by : (o : Option ℕ) → next_release engine old.rules.rules ≡ o → IsSome o → TurnsFree w state (Engine engine) (NoMemory None) []
        by None e is = cc
        by (Some rule) e is = release_refused none rule e

  -- ---- an issued job

  -- with these events recorded, and a task of the actor's that is issued under its number
  module _ (actor : Actor) (es : List Event) (new : Parts) (kept : IsKept verified inputs layout traced.limit (traced.events ++ es) new) (f : FrameView) (is_running : get new.running_tasks.tasks actor ≡ Some f)
      (by_number : f.event_no ≡ length (events_of actor (traced.events ++ es))) where
    abbrev after : State
    after = state_of new kept.notices

    after_here : HasState (with_events w es) after
    after_here = subst (λ (x : PoolView). HasState (with_events x es) after) seen kept.replays

    fits : FrameFits verified new.store.places actor f
    fits = kept.parts.rights_fit.frames actor f is_running

    is_issued : issued_to (with_events w es) after actor ≡ Some (job_of f)
    is_issued =
        let runs : get after.frames actor ≡ Some (bare_frame f) = get_mapped bare_frame new.running_tasks.tasks actor ∙ ap (option_map bare_frame) is_running in
        subst (λ (x : PoolView). issued_to (with_events x es) after actor ≡ Some (job_of f)) seen
        (ap (option_map (λ (g : Frame). record { program = verified; task = g.task; procedure = g.procedure; actor = actor; event_no = length (events_of actor (traced.events ++ es)); position = g.position })) runs
        ∙ ap Some (λ i. record { program = sym fits.program i; task = f.task; procedure = f.procedure; actor = sym fits.own i; event_no = sym by_number i; position = f.position }))

    pub lends : Issues w actor es (Run (job_of f)) es
    lends = (after, after_here, job_of f, is_issued, (refl, refl))

  -- ---- a task is taken

  module _ (actor : Actor) (there : is_in w.layout actor ≡ true) (room : length w.history < w.limit) (free : IsFree w actor) (first : MayTakeNow w actor) where
    pub there_here : is_in layout actor ≡ true
    there_here = subst (λ (x : PoolView). is_in x.layout actor ≡ true) (sym seen) there

    pub taker_free : get old.running_tasks.tasks actor ≡ None
    taker_free = no_task old h.notices actor (free_here actor free)

    due_is : (a : Actor) → MayTakeNow w a → (o : Option (ℕ × Task)) → best a state.tasks ≡ o → (due : Event) → IsDueFree w.layout a state due → take_of a o ≡ Some due
    due_is (Engine engine) none o is due h =
        sym (ap (λ x. first_of engine x (next_release engine state.rules) (best (Engine engine) state.tasks)) (none.0 state has_state) ∙ ap (λ x. first_of engine None x (best (Engine engine) state.tasks)) (none.1 state has_state)
        ∙ ap (take_of (Engine engine)) is) ∙ h
    due_is (Server server) none o is due h = elim none [ ]
    due_is (Worker worker) none o is due h = sym (ap (take_of (Worker worker)) is) ∙ h

    is_due : (a : Actor) → MayTakeNow w a → (e : ℕ × Task) → best a state.tasks ≡ Some e → IsDueFree w.layout a state (Take a)
    is_due (Engine engine) none e is =
        ap (λ x. first_of engine x (next_release engine state.rules) (best (Engine engine) state.tasks)) (none.0 state has_state) ∙ ap (λ x. first_of engine None x (best (Engine engine) state.tasks)) (none.1 state has_state)
        ∙ ap (take_of (Engine engine)) is
    is_due (Server server) none e is = elim none [ ]
    is_due (Worker worker) none e is = ap (take_of (Worker worker)) is

    best_is : best actor state.tasks ≡ option_map (entry_by bare_task) (best actor old.tasks.tasks)
    best_is = best_mapped bare_arg actor old.tasks.tasks

    pub take_idle : best actor old.tasks.tasks ≡ None → TurnsFree w state actor Idle []
    take_idle none = inr ((λ due d. let no : None ≡ Some due = due_is actor first None (best_is ∙ ap (option_map (entry_by bare_task)) none) due d in cc), (refl, refl))

    pub take_refused : TakesTexts verified.program (best actor old.tasks.tasks) → TurnsFree w state actor (NoMemory None) []
    take_refused takes =
        let is : best actor state.tasks ≡ Some (entry_by bare_task takes.e) = best_is ∙ ap (option_map (entry_by bare_task)) takes.is in
        inl (
          Take actor,
          is_due actor first (entry_by bare_task takes.e) is,
          tt,
          inr (wanted (Take actor) (record { e = entry_by bare_task takes.e; is = is; texts = takes.texts }), (refl, refl)),
        )

    module _ (t : ℕ × TaskOf Arg) (is : best actor old.tasks.tasks ≡ Some t) (new : Parts) (makes : Makes verified layout (Take actor) old new) (f : FrameView) (is_running : get new.running_tasks.tasks actor ≡ Some f)
        (number : f.event_no ≡ length (events_of actor traced.events) + 1) where
      take_goes : Succeeds verified layout (Take actor) old h.notices new
      take_goes = makes h.notices h.parts

      by_number : f.event_no ≡ length (events_of actor (traced.events ++ Take actor ∷ []))
      by_number = number ∙ sym (own_count actor traced.events (Take actor) refl)

      pub take_kept : IsKept verified inputs layout traced.limit (traced.events ++ Take actor ∷ []) new
      take_kept = made_issued verified inputs layout traced.limit traced.events old h (Take actor) new take_goes (room_here room)
          (λ g at. ap (λ (x : FrameView). x.event_no) (same_Some g f (sym at ∙ is_running)) ∙ by_number)

      pub take_line : TurnsFree w state actor (Run (job_of f)) (Take actor ∷ [])
      take_line = inl (Take actor, is_due actor first (entry_by bare_task t) (best_is ∙ ap (option_map (entry_by bare_task)) is), tt, inl (lends actor (Take actor ∷ []) new take_kept f is_running by_number))
