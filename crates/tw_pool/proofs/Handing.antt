-- Steps with a `Done`: the lines of the table, from the events of the parts.
use Rattle.tw_pool.proofs.Names.{Actor, ActorCounts, Answers, AreIssued, AreParts, Bool, Call, CallTakes, DoneView, End, Event, EventTakes, FitsWord, Frame, FrameView, HasPlace, HasState, HistoryView, Input, Instr, InstrTakes, IsAtAllocating, IsKept, IsOwedBy, IsTurnBy, Issues, JobView, Limit, Line, List, Local, None, Notices, Option, OrNoMemory, Over, Parts, PoolView, Procedure, Run, Served, Some, State, TakesMemory, Turn, TypedProgram, Went, [], actor_cmp, actor_of, ap, append-nil, append_assoc, arith, bare_frame, below_more, cond, end_leaves, events_of, false, get, get-insert, get-remove, get_mapped, inl, insert, instr_after, instr_here, is_in, is_last, issued_to, job_of, length, length-append, nat_tests, no_notices, not, opened_held, opening, opening_bound, opening_is_small, option_and_then, option_map, queues_after, queues_along, reached, refl, run_more, same_Some, same_actor, slice_get, small_along, state_of, steps_of, subst, sym, true, typings_of, went_of, with_events, ℕ, ◌&&◌, ◌*◌, ◌++◌, ◌+◌, ◌<◌, ◌==◌, ◌^◌, ◌∙◌, ◌∷◌, ◌≡◌, ◌≢◌, ◌≤◌}
use Rattle.tw_types.proofs.Orders.{other_key, own_key}
use Rattle.std.specs.Prelude.{IfSome, MatchOption, option_to_list}
use Rattle.tw_types.proofs.ActorOrder.{actor_cmp_total, actor_cmp-IsAntisymmetric}
use Rattle.tw_code.specs.declared.instr.Instr.TheVariants as instr
use Rattle.tw_code.specs.accepting.Walk.{greatest_budget}
use Rattle.tw_code.specs.machine.Machine.{end_event, step}
use Rattle.tw_pool_state.specs.Coming.{frame_after, issued_as}
use Rattle.tw_pool_state.specs.Events.{Succeeds, IsIssued, IsOwed, IsSmall, Makes, MakesAfter, IsAtInstr, with_done}
use Rattle.tw_pool_state.proofs.Goings.{issued_parts, issued_state}
use Rattle.tw_pool.proofs.Queueing.{queues_more}
use Rattle.tw_pool.proofs.Counting.{AreBy, has_place, itself, others_same, the_same}
use Rattle.tw_pool.proofs.Freely.{has_state, lends, line_traced, room_here, state, viewed}
use Rattle.tw_pool.proofs.Keeping.{no_task}

-- ---- lists of one actor's events

-- an instruction that takes memory of this store may take some
takes_some : (i : Instr) (s : Served) (f : FrameView) → CallTakes i s f → InstrTakes i s.store (bare_frame f)
takes_some (instr.Local i) s f takes = takes
takes_some (instr.Data d) s f takes = (s.data_room, takes)
takes_some (instr.Rule action) s f takes = tt
takes_some (instr.Put action) s f takes = tt
takes_some instr.Ret s f takes = takes

pub steps_by : (actor : Actor) (done : DoneView) → AreBy actor (steps_of actor done)
steps_by actor done = by (done.steps == 0) refl
  where
    by : (b : Bool) → (done.steps == 0) ≡ b → AreBy actor (steps_of actor done)
    by true is = rw is tt
    by false is = rw is (refl, tt)

then_by : (actor : Actor) (es : List Event) (e : Event) → AreBy actor es → actor_of e ≡ actor → AreBy actor (es ++ e ∷ [])
then_by actor [] e all is = (is, tt)
then_by actor (d ∷ es) e all is = (all.0, then_by actor es e all.1 is)

-- ---- seats

get_other : {X : Type 0} (f : X) (m : _) (a q : Actor) → q ≢ a → get (insert {R = actor_cmp} m a f) q ≡ get m q
get_other f m a q h = get-insert actor_cmp_total m a f q ∙ ap (λ t. cond t (Some f) (get m q)) (other_key actor_cmp-IsAntisymmetric q a h)

get_own : {X : Type 0} (f : X) (m : _) (a : Actor) → get (insert {R = actor_cmp} m a f) a ≡ Some f
get_own f m a = get-insert actor_cmp_total m a f a ∙ ap (λ t. cond t (Some f) (get m a)) (own_key actor_cmp_total a)

-- ---- parts to which events lead

pub record AreAt (verified : TypedProgram) (inputs : List Input) (layout : ActorCounts) (history : List Event) (p : Parts) : Type 0 where
  pub notices : Notices
  pub replays : reached verified.program inputs layout history ≡ Went (state_of p notices)
  pub parts : AreParts verified layout p notices
  pub queues : p.store.queues ≡ queues_along verified.program layout history (opening verified.program inputs) (no_notices layout)

then_at : (verified : TypedProgram) (inputs : List Input) (layout : ActorCounts) (history : List Event) (p new : Parts) (at : AreAt verified inputs layout history p) (e : Event) → Succeeds verified layout e p at.notices new
    → AreAt verified inputs layout (history ++ e ∷ []) new
then_at verified inputs layout history p new at e goes = record {
  notices = goes.left;
  replays = run_more verified.program layout history e (opening verified.program inputs) (state_of p at.notices) (state_of new goes.left) at.replays goes.step_is;
  parts = goes.parts;
  queues = goes.queues ∙ (ap (queues_after verified.program e (state_of p at.notices)) at.queues
      ∙ sym (queues_more verified.program layout history e (opening verified.program inputs) (state_of p at.notices) (state_of new goes.left) (no_notices layout) at.replays goes.step_is));
}

end_frames : (program : List Procedure) (layout : ActorCounts) (actor : Actor) (s t : State) → step program layout (End actor) s ≡ Went t → get t.frames actor ≡ None
unfolding step
end_frames program layout actor s t e = went_of (end_event program actor s) (λ (u : State). get u.frames actor ≡ None) t
    (end_leaves program actor s {P = λ (u : State). get u.frames actor ≡ None} (get-remove actor_cmp_total s.frames actor actor ∙ ap (λ b. cond b None (get s.frames actor)) (own_key actor_cmp_total actor))) e

module _ (verified : TypedProgram) (inputs : List Input) (layout : ActorCounts) (stopped : Bool) (traced : HistoryView) (old : Parts) (h : IsKept verified inputs layout traced.limit traced.events old) (w : PoolView) (seen : viewed verified inputs layout stopped traced ≡ w)
    (actor : Actor) (there : is_in w.layout actor ≡ true) (room : length w.history < w.limit) (done : DoneView) (owed : IsOwedBy w actor done) where
  abbrev here : State
  here = state verified inputs layout stopped traced old h w seen

  pub room_now : length traced.events < traced.limit
  room_now = room_here verified inputs layout stopped traced old h w seen room

  pub has_slot : HasPlace actor
  has_slot = has_place layout actor h.parts.runnable.counts (subst (λ (x : PoolView). is_in x.layout actor ≡ true) (sym seen) there)

  -- the task of the job
  pub record IsIts (f : FrameView) : Type 0 where
    pub is_running : get old.running_tasks.tasks actor ≡ Some f
    pub own : done.before ≡ job_of f
    pub program : done.before.program ≡ verified

  issued_now : issued_to (viewed verified inputs layout stopped traced) here actor ≡ Some done.before
  issued_now = subst (λ (x : PoolView). issued_to x here actor ≡ Some done.before) (sym seen) (owed here (has_state verified inputs layout stopped traced old h w seen))

  pub its : (f : FrameView) × IsIts f
  its = by (get old.running_tasks.tasks actor) refl
    where
      job_by : Frame → JobView
      job_by g = record { program = verified; task = g.task; procedure = g.procedure; actor = actor; event_no = length (events_of actor traced.events); position = g.position }

      by : (o : Option FrameView) → get old.running_tasks.tasks actor ≡ o → (f : FrameView) × IsIts f
      by None e =
          let none : None ≡ Some done.before = sym (ap (option_map job_by) (get_mapped bare_frame old.running_tasks.tasks actor ∙ ap (option_map bare_frame) e)) ∙ issued_now in cc
      by (Some f) e =
          let same : job_by (bare_frame f) ≡ done.before = same_Some _ _ (sym (ap (option_map job_by) (get_mapped bare_frame old.running_tasks.tasks actor ∙ ap (option_map bare_frame) e)) ∙ issued_now) in
          let fits = h.parts.rights_fit.frames actor f e in
          let number = h.lent actor f e in
          let job_is : job_by (bare_frame f) ≡ job_of f = λ i. record { program = sym fits.program i; task = f.task; procedure = f.procedure; actor = sym fits.own i; event_no = sym number i; position = f.position } in
          (f, record { is_running = e; own = sym same ∙ job_is; program = ap (λ (j : JobView). j.program) (sym same) })

  pub owed_now : IsOwed old actor its.0 done
  owed_now = record { is_running = its.1.is_running; own = its.1.own }

  small_of : (es : List Event) (p : Parts) (at : AreAt verified inputs layout es p) → length es ≤ traced.limit → IsSmall (state_of p at.notices)
  small_of es p at within =
      let below = small_along verified.program (typings_of verified) h.parts.runnable.is h.parts.runnable.right layout es opening_bound (opening verified.program inputs) (state_of p at.notices)
      (opened_held verified.program (typings_of verified) h.parts.runnable.is h.parts.runnable.right inputs h.given) (opening_is_small verified.program inputs h.parts.runnable.is h.given) at.replays in
      below_more (opening_bound + length es * greatest_budget) (2 ^ 62) (state_of p at.notices) (omega (arith, within, h.few)) below

  abbrev pub Local_is : Option Event → Type 0
  Local_is o = MatchOption o
      ((done.steps ≡ 0) × ((f : FrameView) → IsOwed old actor f done → with_done old actor f done ≡ old))
      (λ (e : Event). (0 < done.steps) × (e ≡ Local actor done.steps) × ((l : ActorCounts) (f : FrameView) → IsOwed old actor f done → Makes done.before.program l e old (with_done old actor f done)))

  abbrev pub came : Parts
  came = with_done old actor its.0 done

  -- the steps are recorded, and lead to the task's position
  pub record HasCome (o : Option Event) : Type 0 where
    pub is : option_to_list o ≡ steps_of actor done
    pub at : AreAt verified inputs layout (traced.events ++ option_to_list o) came
    pub fits : IfSome o FitsWord

  abbrev at_old : AreAt verified inputs layout traced.events old
  at_old = record { notices = h.notices; replays = h.replays; parts = h.parts; queues = h.queues }

  pub has_come : done.steps ≤ greatest_budget → (o : Option Event) → Local_is o → HasCome o
  has_come few None l =
      let none : (done.steps == 0) ≡ true = grind (arith, nat_tests, l.0) in
      record {
        is = rw none refl;
        at = subst (λ p. AreAt verified inputs layout (traced.events ++ []) p) (sym (l.1 its.0 owed_now)) (subst (λ es. AreAt verified inputs layout es old) (sym (append-nil traced.events)) at_old);
        fits = tt;
      }
  has_come few (Some e) l =
      let some : (done.steps == 0) ≡ false = grind (arith, nat_tests, l.0) in
      let makes = subst (λ (v : TypedProgram). Makes v layout e old came) its.1.program (l.2 layout its.0 owed_now) in
      record {
        is = rw some (ap (λ x. x ∷ []) l.1);
        at = then_at verified inputs layout traced.events old came at_old e (makes h.notices h.parts);
        fits = subst FitsWord (sym l.1) (has_slot, omega (arith, few));
      }

  pub owed_some : (f : FrameView) × IsOwed old actor f done
  owed_some = (its.0, owed_now)

  pub may_advance : (l : ActorCounts) × (notices : Notices) × (f : FrameView) × AreParts done.before.program l old notices × IsSmall (state_of old notices) × IsOwed old actor f done
  may_advance = (layout, h.notices, its.0, subst (λ (v : TypedProgram). AreParts v layout old h.notices) (sym its.1.program) h.parts, small_of traced.events old at_old h.within, owed_now)

  one_at_most : (o : Option Event) → length (option_to_list o) ≤ 1
  one_at_most None = omega arith
  one_at_most (Some e) = omega arith

  pub within_one : (o : Option Event) → length (traced.events ++ option_to_list o) ≤ traced.limit
  within_one o = let long = length-append traced.events (option_to_list o) in let few = one_at_most o in omega (arith, long, few, room_now)

  module _ (last : is_last w done ≡ false) where
    last_now : (not (done.steps == 0) && (length traced.events + 1 == traced.limit)) ≡ false
    last_now = subst (λ (x : PoolView). (not (done.steps == 0) && (length x.history + 1 == x.limit)) ≡ false) (sym seen) last

    pub room_two : (o : Option Event) → Local_is o → length (traced.events ++ option_to_list o) < traced.limit
    room_two None l = let long = length-append traced.events [] in omega (arith, long, room_now)
    room_two (Some e) l =
        let some : (done.steps == 0) ≡ false = grind (arith, nat_tests, l.0) in
        let full : (length traced.events + 1 == traced.limit) ≡ false = sym (ap (λ b. not b && (length traced.events + 1 == traced.limit)) some) ∙ last_now in
        let long = length-append traced.events (e ∷ []) in
        grind (arith, nat_tests, full, long, room_now)

  -- the instruction after the steps
  record IsNextInstr (i : Instr) : Type 0 where
    q : Procedure
    there_is : slice_get verified.program done.before.procedure ≡ Some q
    is : slice_get q.code done.after.place ≡ Some i

  next_instr_is : (i : Instr) → instr_after w.program.program done ≡ Some i → IsNextInstr i
  next_instr_is i e = by (slice_get verified.program done.before.procedure) refl
    where
      e_now : option_and_then (λ (p : Procedure). slice_get p.code done.after.place) (slice_get verified.program done.before.procedure) ≡ Some i
      e_now = subst (λ (x : PoolView). instr_after x.program.program done ≡ Some i) (sym seen) e

      by : (o : Option Procedure) → slice_get verified.program done.before.procedure ≡ o → IsNextInstr i
      by None at = let no : None ≡ Some i = sym (ap (option_and_then (λ (p : Procedure). slice_get p.code done.after.place)) at) ∙ e_now in cc
      by (Some q) at = record { q = q; there_is = at; is = sym (ap (option_and_then (λ (p : Procedure). slice_get p.code done.after.place)) at) ∙ e_now }

  pub fits_place : (o : Option Event) → HasCome o → (i : Instr) → instr_after w.program.program done ≡ Some i → IsAtInstr old actor done i
  fits_place o c i e =
      let it = next_instr_is i e in
      record {
        layout = layout;
        notices = c.at.notices;
        f = its.0;
        owed = owed_now;
        parts = subst (λ (v : TypedProgram). AreParts v layout came c.at.notices) (sym its.1.program) c.at.parts;
        small = small_of (traced.events ++ option_to_list o) came c.at (within_one o);
        q = it.q;
        here = ap (λ (v : TypedProgram). slice_get v.program its.0.procedure) its.1.program ∙ ap (λ (j : JobView). slice_get verified.program j.procedure) (sym its.1.own) ∙ it.there_is;
        following_is = it.is;
      }

  -- if the instruction there may allocate
  pub wanted : (o : Option Event) → HasCome o → (i : Instr) → instr_after w.program.program done ≡ Some i
      → ((f : FrameView) → IsOwed old actor f done → CallTakes i old.store (frame_after f done)) → TakesMemory w (steps_of actor done) (Call actor)
  wanted o c i e takes =
      let at : AreAt verified inputs layout (traced.events ++ steps_of actor done) came = subst (λ es. AreAt verified inputs layout (traced.events ++ es) came) c.is c.at in
      let here_is : instr_here verified.program (bare_frame (frame_after its.0 done)) ≡ Some i =
      ap (λ (j : JobView). option_and_then (λ (p : Procedure). slice_get p.code done.after.place) (slice_get verified.program j.procedure)) (sym its.1.own) ∙ subst (λ (x : PoolView). instr_after x.program.program done ≡ Some i) (sym seen) e in
      let fits_place : IsAtAllocating verified.program (state_of came at.notices) actor = record {
        frame = bare_frame (frame_after its.0 done);
        runs = get_mapped bare_frame came.running_tasks.tasks actor ∙ ap (option_map bare_frame) (get_own (frame_after its.0 done) old.running_tasks.tasks actor);
        here = i;
        is = here_is;
        takes = takes_some i old.store (frame_after its.0 done) (takes its.0 owed_now);
      } in
      record {
        state = state_of came at.notices;
        has_state = subst (λ (x : PoolView). HasState (with_events x (steps_of actor done)) (state_of came at.notices)) seen at.replays;
        takes = subst (λ (x : PoolView). EventTakes x.program.program (state_of came at.notices) (Call actor)) seen fits_place;
      }

  -- ---- with the steps alone

  pub traced_one : (o : Option Event) (c : HasCome o) (t : HistoryView) → t ≡ record traced { events = traced.events ++ option_to_list o } → t ≡ record { events = traced.events ++ steps_of actor done; limit = traced.limit }
  traced_one o c t is = is ∙ ap (λ es. record { events = traced.events ++ es; limit = traced.limit }) c.is

  pub at_steps : (o : Option Event) (c : HasCome o) → AreAt verified inputs layout (traced.events ++ steps_of actor done) came
  at_steps o c = subst (λ es. AreAt verified inputs layout (traced.events ++ es) came) c.is c.at

  pub within_steps : (o : Option Event) (c : HasCome o) → length (traced.events ++ steps_of actor done) ≤ traced.limit
  within_steps o c = subst (λ es. length (traced.events ++ es) ≤ traced.limit) c.is (within_one o)

  -- ---- with one more event after them

  module _ (e : Event) (is_own : actor_of e ≡ actor) (o : Option Event) (c : HasCome o) (new : Parts) (makes : MakesAfter e old actor done new) where
    goes : Succeeds verified layout e came c.at.notices new
    goes = subst (λ (v : TypedProgram). Makes v layout e came new) its.1.program (makes layout its.0 owed_now) c.at.notices c.at.parts

    both_are : (traced.events ++ option_to_list o) ++ e ∷ [] ≡ traced.events ++ (steps_of actor done ++ e ∷ [])
    both_are = append_assoc traced.events (option_to_list o) (e ∷ []) ∙ ap (λ es. traced.events ++ (es ++ e ∷ [])) c.is

    pub traced_two : (t p : HistoryView) → t ≡ record traced { events = traced.events ++ option_to_list o } → p ≡ record t { events = t.events ++ e ∷ [] } → p ≡ record { events = traced.events ++ (steps_of actor done ++ e ∷ []); limit = traced.limit }
    traced_two t p one two = two ∙ ap (λ (x : HistoryView). record { events = x.events ++ e ∷ []; limit = x.limit }) one ∙ ap (λ es. record { events = es; limit = traced.limit }) both_are

    pub at_two : AreAt verified inputs layout (traced.events ++ (steps_of actor done ++ e ∷ [])) new
    at_two = subst (λ es. AreAt verified inputs layout es new) both_are (then_at verified inputs layout (traced.events ++ option_to_list o) came new c.at e goes)

    pub others_two : (a : Actor) → a ≢ actor → get new.running_tasks.tasks a ≡ get old.running_tasks.tasks a
    others_two a h = goes.others a (λ is. h (is ∙ is_own)) ∙ get_other (frame_after its.0 done) old.running_tasks.tasks actor a h

    pub within_two : length (traced.events ++ option_to_list o) < traced.limit → length (traced.events ++ (steps_of actor done ++ e ∷ [])) ≤ traced.limit
    within_two less = let long = ap (λ es. length es) (sym both_are) ∙ length-append (traced.events ++ option_to_list o) (e ∷ []) in omega (arith, long, less)

    pub by_two : AreBy actor (steps_of actor done ++ e ∷ [])
    by_two = then_by actor (steps_of actor done) e (steps_by actor done) is_own

  -- the task has ended
  pub kept_ended : (o : Option Event) (c : HasCome o) (new : Parts) (makes : MakesAfter (End actor) old actor done new) → length (traced.events ++ option_to_list o) < traced.limit
      → IsKept verified inputs layout traced.limit (traced.events ++ (steps_of actor done ++ End actor ∷ [])) new
  kept_ended o c new makes less = record {
    given = h.given;
    few = h.few;
    within = within_two (End actor) refl o c new makes less;
    notices = (at_two (End actor) refl o c new makes).notices;
    replays = (at_two (End actor) refl o c new makes).replays;
    parts = (at_two (End actor) refl o c new makes).parts;
    queues = (at_two (End actor) refl o c new makes).queues;
    lent = issued_others;
  }
    where
      gone : get new.running_tasks.tasks actor ≡ None
      gone = no_task new (goes (End actor) refl o c new makes).left actor (end_frames verified.program layout actor (state_of came c.at.notices) (state_of new (goes (End actor) refl o c new makes).left) (goes (End actor) refl o c new makes).step_is)

      issued_others : AreIssued (traced.events ++ (steps_of actor done ++ End actor ∷ [])) new.running_tasks.tasks
      issued_others a f is_running = by (same_actor a actor) refl
        where
          by : (b : Bool) → same_actor a actor ≡ b → f.event_no ≡ length (events_of a (traced.events ++ (steps_of actor done ++ End actor ∷ [])))
          by true is = let no : None ≡ Some f = sym gone ∙ ap (get new.running_tasks.tasks) (sym (the_same a actor is)) ∙ is_running in cc
          by false is =
              let other : a ≢ actor = λ e. let yes : true ≡ false = sym (itself actor) ∙ ap (λ x. same_actor x actor) (sym e) ∙ is in cc in
              h.lent a f (sym (others_two (End actor) refl o c new makes a other) ∙ is_running) ∙ sym (others_same a actor other traced.events (steps_of actor done ++ End actor ∷ []) (by_two (End actor) refl o c new makes))

  -- ---- issuing again

  module _ (es : List Event) (by : AreBy actor es) (new : Parts) (at : AreAt verified inputs layout (traced.events ++ es) new) (others : (a : Actor) → a ≢ actor → get new.running_tasks.tasks a ≡ get old.running_tasks.tasks a) (within : length (traced.events ++ es) ≤ traced.limit)
      (event_no : ℕ) (number : event_no ≡ length (events_of actor (traced.events ++ es))) (job : JobView) (lent : IsIssued new actor event_no job) where
    issued_all : AreIssued (traced.events ++ es) new.running_tasks.tasks
    issued_all a f is_running = by_key (same_actor a actor) refl
      where
        by_key : (b : Bool) → same_actor a actor ≡ b → f.event_no ≡ length (events_of a (traced.events ++ es))
        by_key true is =
            let who = the_same a actor is in
            let one : f ≡ lent.f = same_Some f lent.f (sym is_running ∙ ap (λ x. get new.running_tasks.tasks x) who ∙ lent.is_running) in
            ap (λ (x : FrameView). x.event_no) one ∙ lent.number ∙ number ∙ ap (λ x. length (events_of x (traced.events ++ es))) (sym who)
        by_key false is =
            let other : a ≢ actor = λ e. let yes : true ≡ false = sym (itself actor) ∙ ap (λ x. same_actor x actor) (sym e) ∙ is in cc in
            h.lent a f (sym (others a other) ∙ is_running) ∙ sym (others_same a actor other traced.events es by)

    kept_issued : IsKept verified inputs layout traced.limit (traced.events ++ es) new
    kept_issued = record { given = h.given; few = h.few; within = within; notices = at.notices; replays = at.replays; parts = at.parts; queues = at.queues; lent = issued_all }

    line_issued : Issues w actor es (Run job) es
    line_issued = subst (λ j. Issues w actor es (Run j) es) (sym lent.job_is) (lends verified inputs layout stopped traced old h w seen actor es new kept_issued lent.f lent.is_running (lent.number ∙ number))

    module _ (t : HistoryView) (t_is : t ≡ record { events = traced.events ++ es; limit = traced.limit }) where
      kept_again : IsKept verified inputs layout t.limit t.events new
      kept_again = subst (λ (x : HistoryView). IsKept verified inputs layout x.limit x.events new) (sym t_is) kept_issued

      line_again : IsTurnBy (λ s. Issues w actor es) w (Run job) (viewed verified inputs layout stopped t)
      line_again = line_traced verified inputs layout stopped traced old h w seen (λ s. Issues w actor es) (Run job) es t t_is line_issued

  -- after the steps
  module _ (o : Option Event) (c : HasCome o) (t : HistoryView) (t_is : t ≡ record traced { events = traced.events ++ option_to_list o }) (event_no : ℕ) (counted : event_no ≡ length (events_of actor t.events))
      (new : Parts) (is : (f : FrameView) → IsOwed old actor f done → new ≡ with_done old actor (issued_as event_no f) done) (job : JobView) (lent : IsIssued new actor event_no job) where
    abbrev came_issued : Parts
    came_issued = with_done old actor (issued_as event_no its.0) done

    at_come : AreAt verified inputs layout (traced.events ++ steps_of actor done) new
    at_come = let at = at_steps o c in subst (AreAt verified inputs layout (traced.events ++ steps_of actor done)) (sym (is its.0 owed_now)) (record {
      notices = at.notices;
      replays = at.replays ∙ ap Went (sym (issued_state came_issued old.running_tasks.tasks actor (frame_after its.0 done) event_no refl at.notices));
      parts = issued_parts came_issued old.running_tasks.tasks actor (frame_after its.0 done) event_no refl verified layout at.notices at.parts;
      queues = at.queues;
    })

    others_at : (a : Actor) → a ≢ actor → get new.running_tasks.tasks a ≡ get old.running_tasks.tasks a
    others_at a h = ap (λ (p : Parts). get p.running_tasks.tasks a) (is its.0 owed_now) ∙ get_other (frame_after (issued_as event_no its.0) done) old.running_tasks.tasks actor a h

    number_is : event_no ≡ length (events_of actor (traced.events ++ steps_of actor done))
    number_is = counted ∙ ap (λ (x : HistoryView). length (events_of actor x.events)) (traced_one o c t t_is)

    pub kept_on : IsKept verified inputs layout t.limit t.events new
    kept_on = kept_again (steps_of actor done) (steps_by actor done) new at_come others_at (within_steps o c) event_no number_is job lent t (traced_one o c t t_is)

    pub line_on : IsTurnBy (λ s. Issues w actor (steps_of actor done)) w (Run job) (viewed verified inputs layout stopped t)
    line_on = line_again (steps_of actor done) (steps_by actor done) new at_come others_at (within_steps o c) event_no number_is job lent t (traced_one o c t t_is)

  -- after the steps and a call
  module _ (o : Option Event) (c : HasCome o) (less : length (traced.events ++ option_to_list o) < traced.limit) (t p : HistoryView) (one : t ≡ record traced { events = traced.events ++ option_to_list o }) (two : p ≡ record t { events = t.events ++ Call actor ∷ [] })
      (event_no : ℕ) (number : event_no ≡ length (events_of actor (traced.events ++ (steps_of actor done ++ Call actor ∷ [])))) (new : Parts) (makes : MakesAfter (Call actor) old actor done new) (job : JobView) (lent : IsIssued new actor event_no job) where
    abbrev es : List Event
    es = steps_of actor done ++ Call actor ∷ []

    pub kept_called : IsKept verified inputs layout p.limit p.events new
    kept_called = kept_again es (by_two (Call actor) refl o c new makes) new (at_two (Call actor) refl o c new makes) (others_two (Call actor) refl o c new makes) (within_two (Call actor) refl o c new makes less) event_no number job lent p (traced_two (Call actor) refl o c new makes t p one two)

    pub line_called : IsTurnBy (λ s. Issues w actor es) w (Run job) (viewed verified inputs layout stopped p)
    line_called = line_again es (by_two (Call actor) refl o c new makes) new (at_two (Call actor) refl o c new makes) (others_two (Call actor) refl o c new makes) (within_two (Call actor) refl o c new makes less) event_no number job lent p (traced_two (Call actor) refl o c new makes t p one two)

-- a run that reaches the limit
pub filled : (w v : PoolView) (actor : Actor) (es : List Event) (a : Turn) → IsTurnBy (λ s. Issues w actor es) w a v → IsTurnBy (λ s. Answers (Over Limit) es) w (Over Limit) v
filled w v actor es a l = record { state = l.state; has_state = l.has_state; events = l.events; is = (refl, l.is.4.1); appended = l.appended }

-- a line, or a failed allocation
pub or_memory : (p : PoolView) (line : Line) (given : Option DoneView) (before : List Event) (event : Event) (w v : PoolView) (a : Turn) → IsTurnBy (λ s. line) w a v → IsTurnBy (λ s. OrNoMemory p given before event line) w a v
or_memory p line given before event w v a l = record { state = l.state; has_state = l.has_state; events = l.events; is = inl l.is; appended = l.appended }
