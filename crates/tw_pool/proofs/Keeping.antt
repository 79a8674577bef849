-- The invariant of a pool's parts holds after one more event, and after no change.
use Rattle.tw_pool.proofs.Names.{Actor, ActorCounts, AreIssued, AreParts, Ask, Bool, Deliver, Event, FrameView, Input, IsKept, IsReached, List, None, Notice, Notices, Option, Parts, Procedure, Release, Right, RunningView, Some, State, TypedProgram, Went, [], actor_of, ap, arith, ask_leaves, bare_frame, bare_rule, bare_task, cond, deliver_leaves, events_of, false, get, get_mapped, length, length-append, map as each, mapped, no_notices, opening, option_map, queues_after, refl, release_leaves, run_more, same_actor, state_of, subst, sym, true, went_of, ℕ, ◌++◌, ◌+◌, ◌<◌, ◌∙◌, ◌∷◌, ◌≡◌, ◌≢◌}
use Rattle.tw_code.specs.machine.Machine.{ask_event, deliver_event, release_event, step}
use Rattle.tw_pool_state.specs.Events.{Succeeds, Untouched}
use Rattle.tw_pool.proofs.Queueing.{queues_more}
use Rattle.tw_pool.proofs.Counting.{itself, of_more, the_same}

-- ---- who made an event more

pub others_count : (actor : Actor) (history : List Event) (e : Event) → same_actor (actor_of e) actor ≡ false → length (events_of actor (history ++ e ∷ [])) ≡ length (events_of actor history)
others_count actor history e other =
    let more = ap (λ es. length es) (of_more actor history e ∙ ap (λ b. events_of actor history ++ cond b (e ∷ []) []) other) in
    let long = length-append (events_of actor history) [] in
    omega (arith, more, long)

pub own_count : (actor : Actor) (history : List Event) (e : Event) → actor_of e ≡ actor → length (events_of actor (history ++ e ∷ [])) ≡ length (events_of actor history) + 1
own_count actor history e is =
    let yes : same_actor (actor_of e) actor ≡ true = ap (λ a. same_actor a actor) is ∙ itself actor in
    let more = ap (λ es. length es) (of_more actor history e ∙ ap (λ b. events_of actor history ++ cond b (e ∷ []) []) yes) in
    let long = length-append (events_of actor history) (e ∷ []) in
    omega (arith, more, long)

-- ---- an actor without a task

nothing : {X Y : Type 0} (f : X → Y) (o : Option X) → option_map f o ≡ None → o ≡ None
nothing f None e = refl
nothing f (Some x) e = cc

pub no_task : (p : Parts) (notices : Notices) (actor : Actor) → get (state_of p notices).frames actor ≡ None → get p.running_tasks.tasks actor ≡ None
no_task p notices actor e = nothing bare_frame (get p.running_tasks.tasks actor) (sym (get_mapped bare_frame p.running_tasks.tasks actor) ∙ e)

-- ---- the running tasks after these events

module _ (program : List Procedure) (layout : ActorCounts) (s t : State) where
  pub ask_frames : (engine rule parameter : ℕ) → step program layout (Ask engine rule parameter) s ≡ Went t → t.frames ≡ s.frames
  unfolding step
  ask_frames engine rule parameter e = went_of (ask_event engine rule parameter s) (λ (u : State). u.frames ≡ s.frames) t (ask_leaves s {P = λ (u : State). u.frames ≡ s.frames} engine rule parameter (λ _ _ _ _. refl) (λ _ _ _ _. refl)) e

  pub deliver_frames : (server : ℕ) (n : Notice) → step program layout (Deliver server n.datum n.rule n.parameter) s ≡ Went t → t.frames ≡ s.frames
  unfolding step
  deliver_frames server n e = went_of (deliver_event layout server n s) (λ (u : State). u.frames ≡ s.frames) t (deliver_leaves s {P = λ (u : State). u.frames ≡ s.frames} layout server n (λ _ _. refl) (λ _ _ _. refl)) e

  pub release_frames : (engine rule : ℕ) → step program layout (Release engine rule) s ≡ Went t → t.frames ≡ s.frames
  unfolding step
  release_frames engine rule e = went_of (release_event program engine rule s) (λ (u : State). u.frames ≡ s.frames) t (release_leaves s {P = λ (u : State). u.frames ≡ s.frames} program engine rule (λ _ _ _ _. refl)) e

-- ---- the parts

module _ (verified : TypedProgram) (inputs : List Input) (layout : ActorCounts) (limit : ℕ) (history : List Event) (old : Parts) (h : IsKept verified inputs layout limit history old) where
  -- one event more
  pub one_more : (event : Event) (new : Parts) → Succeeds verified layout event old h.notices new → length history < limit → AreIssued (history ++ event ∷ []) new.running_tasks.tasks → IsKept verified inputs layout limit (history ++ event ∷ []) new
  one_more event new goes room lent =
      let long = length-append history (event ∷ []) in
      record {
        given = h.given;
        few = h.few;
        within = omega (arith, long, room);
        notices = goes.left;
        replays = run_more verified.program layout history event (opening verified.program inputs) (state_of old h.notices) (state_of new goes.left) h.replays goes.step_is;
        parts = goes.parts;
        queues = goes.queues ∙ (ap (queues_after verified.program event (state_of old h.notices)) h.queues
            ∙ sym (queues_more verified.program layout history event (opening verified.program inputs) (state_of old h.notices) (state_of new goes.left) (no_notices layout) h.replays goes.step_is));
        lent = lent;
      }

  -- the others' tasks were issued before
  others_issued : (event : Event) (new : Parts) → Succeeds verified layout event old h.notices new
      → ((f : FrameView) → get new.running_tasks.tasks (actor_of event) ≡ Some f → f.event_no ≡ length (events_of (actor_of event) (history ++ event ∷ []))) → AreIssued (history ++ event ∷ []) new.running_tasks.tasks
  others_issued event new goes own actor f at = by (same_actor (actor_of event) actor) refl
    where
      by : (b : Bool) → same_actor (actor_of event) actor ≡ b → f.event_no ≡ length (events_of actor (history ++ event ∷ []))
      by true same =
          let who = the_same (actor_of event) actor same in
          own f (ap (get new.running_tasks.tasks) who ∙ at) ∙ ap (λ a. length (events_of a (history ++ event ∷ []))) who
      by false other =
          let apart : actor ≢ actor_of event = λ e. let yes : true ≡ false = sym (itself actor) ∙ ap (λ a. same_actor a actor) e ∙ other in cc in
          h.lent actor f (sym (goes.others actor apart) ∙ at) ∙ sym (others_count actor history event other)

  -- an event of an actor that has no task, before and after
  pub made_free : (event : Event) (new : Parts) (goes : Succeeds verified layout event old h.notices new) → length history < limit
      → get (state_of old h.notices).frames (actor_of event) ≡ None → (state_of new goes.left).frames ≡ (state_of old h.notices).frames → IsKept verified inputs layout limit (history ++ event ∷ []) new
  made_free event new goes room free same =
      let none : get new.running_tasks.tasks (actor_of event) ≡ None = no_task new goes.left (actor_of event) (ap (λ m. get m (actor_of event)) same ∙ free) in
      one_more event new goes room (others_issued event new goes (λ f at. let no : None ≡ Some f = sym none ∙ at in cc))

  -- an event whose actor's task is issued under its number
  pub made_issued : (event : Event) (new : Parts) (goes : Succeeds verified layout event old h.notices new) → length history < limit
      → ((f : FrameView) → get new.running_tasks.tasks (actor_of event) ≡ Some f → f.event_no ≡ length (events_of (actor_of event) (history ++ event ∷ []))) → IsKept verified inputs layout limit (history ++ event ∷ []) new
  made_issued event new goes room own = one_more event new goes room (others_issued event new goes own)

  module _ (new : Parts) (u : Untouched old new) where
    pub same_state : state_of new h.notices ≡ state_of old h.notices
    same_state = λ i. record {
      store = u.store.store i;
      rules = mapped bare_rule (u.rules i);
      next_rule = u.next_rule i;
      tasks = mapped bare_task (u.tasks i);
      next_task = u.next_task i;
      frames = mapped bare_frame (u.running_tasks i).tasks;
      notices = h.notices;
      outputs = each (λ (right : Right). right.id) (u.outputs i);
    }

    still_parts : AreParts verified layout new h.notices
    still_parts = record {
      runnable = h.parts.runnable;
      law = subst (IsReached verified.program layout) (sym same_state) h.parts.law;
      queued = rw (u.store.queues) h.parts.queued;
      servers = ap length u.store.queues ∙ h.parts.servers;
      layout_is = ap (λ (r : RunningView). r.layout) u.running_tasks ∙ h.parts.layout_is;
      rights_fit = rw (u.store.places, u.running_tasks, u.tasks, u.rules, u.outputs) h.parts.rights_fit;
    }

    -- nothing was touched
    pub still : IsKept verified inputs layout limit history new
    still = record {
      given = h.given;
      few = h.few;
      within = h.within;
      notices = h.notices;
      replays = h.replays ∙ ap Went (sym same_state);
      parts = still_parts;
      queues = u.store.queues ∙ h.queues;
      lent = subst (λ (r : RunningView). AreIssued history r.tasks) (sym u.running_tasks) h.lent;
    }
