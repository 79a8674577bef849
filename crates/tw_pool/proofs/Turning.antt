-- A step takes the first line of the table that fits.
use Rattle.tw_pool.proofs.Names.{Actor, ActorCounts, Answers, Bool, Call, Closing, DoneView, End, Ended, Foreign, Frame, FrameView, HasState, HistoryView, Input, Instr, IsDone, IsFree, IsKept, IsOwedBy, IsSome, IsTurn, IsTurnBy, Issues, JobView, Limit, Line, List, Makes, None, Option, OrNoMemory, Over, Owed, Parts, PoolView, Procedure, Some, State, Stopped, TakesBack, Turn, Turns, TurnsFree, TurnsUnless, TypedProgram, [], ap, arith, bare_frame, closing_at, closing_of, event_of, events_of, false, get, get_mapped, if◌then◌else◌, inl, inr, instr_after, is_last, issued_to, job_of, length, nat_tests, option_and_then, option_map, option_or, refl, same_Some, same_went, slice_get, steps_of, subst, sym, true, ℕ, ◌++◌, ◌<◌, ◌==◌, ◌∙◌, ◌∷◌, ◌≡◌, ◌≤◌}
use Rattle.tw_types.specs.declared.ending.Ending.{Ending}
use Rattle.tw_code.specs.declared.instr.Instr.TheVariants as instr
use Rattle.tw_code.specs.machine.Ending.{ending}
use Rattle.tw_code.specs.machine.Machine.{is_ret, local_of}
use Rattle.tw_frame.specs.Ready.{IsStop, StopsAt}
use Rattle.tw_pool.proofs.Freely.{has_state, line_still, state, viewed}

-- ---- why a run is over

-- if the run isn't over, there is room
pub room_left : (p : PoolView) (s : State) → length p.history ≤ p.limit → None ≡ closing_at p s → length p.history < p.limit
room_left p s within goes_on = by (ending s) p.stopped (length p.history == p.limit) refl goes_on
  where
    by : (e : Option Ending) (t f : Bool) → (length p.history == p.limit) ≡ f → None ≡ option_or (option_map closing_of e) (if t then Some Stopped else if f then Some Limit else None) → length p.history < p.limit
    by (Some e) t f is h = cc
    by None true f is h = cc
    by None false true is h = cc
    by None false false is h = grind (arith, nat_tests, is, within)

-- ---- lines

pub unless : (w v : PoolView) (actor : Actor) (given : Option DoneView) (a : Turn) → ((s : State) → HasState w s → None ≡ closing_at w s) → IsTurnBy (λ s. Turns w s actor (issued_to w s actor) given) w a v → IsTurn w actor given a v
unless w v actor given a goes_on l = record {
  state = l.state;
  has_state = l.has_state;
  events = l.events;
  is = subst (λ c. TurnsUnless c w l.state actor given a l.events) (goes_on l.state l.has_state) l.is;
  appended = l.appended;
}

pub without_task : (w v : PoolView) (actor : Actor) (a : Turn) → IsFree w actor → IsTurnBy (λ s. TurnsFree w s actor) w a v → IsTurnBy (λ s. Turns w s actor (issued_to w s actor) None) w a v
without_task w v actor a free l =
    let none : issued_to w l.state actor ≡ None = ap (option_map (λ (f : Frame). record { program = w.program; task = f.task; procedure = f.procedure; actor = actor; event_no = length (events_of actor w.history); position = f.position })) (free l.state l.has_state) in
    record {
      state = l.state;
      has_state = l.has_state;
      events = l.events;
      is = subst (λ j. Turns w l.state actor j None a l.events) (sym none) l.is;
      appended = l.appended;
    }

pub with_own : (w v : PoolView) (actor : Actor) (done : DoneView) (a : Turn) → IsOwedBy w actor done → IsTurnBy (λ s. TakesBack done.short (is_last w done) w actor done) w a v → IsTurnBy (λ s. Turns w s actor (issued_to w s actor) (Some done)) w a v
with_own w v actor done a owed l = record {
  state = l.state;
  has_state = l.has_state;
  events = l.events;
  is = subst (λ j. Turns w l.state actor j (Some done) a l.events) (sym (owed l.state l.has_state)) (inl (refl, l.is));
  appended = l.appended;
}

-- ---- a `Done` of the issued job

pub back_short : (w v : PoolView) (actor : Actor) (done : DoneView) (a : Turn) → true ≡ done.short → IsTurnBy (λ s. Issues w actor (steps_of actor done)) w a v → IsTurnBy (λ s. TakesBack done.short (is_last w done) w actor done) w a v
back_short w v actor done a is l = subst (λ b. IsTurnBy (λ s. TakesBack b (is_last w done) w actor done) w a v) is l

pub back_last : (w v : PoolView) (actor : Actor) (done : DoneView) (a : Turn) → false ≡ done.short → true ≡ is_last w done → IsTurnBy (λ s. Answers (Over Limit) (steps_of actor done)) w a v → IsTurnBy (λ s. TakesBack done.short (is_last w done) w actor done) w a v
back_last w v actor done a is last l = subst (λ b. IsTurnBy (λ s. TakesBack b (is_last w done) w actor done) w a v) is (subst (λ b. IsTurnBy (λ s. TakesBack false b w actor done) w a v) last l)

pub back_past : (w v : PoolView) (actor : Actor) (done : DoneView) (a : Turn) → false ≡ done.short → false ≡ is_last w done
    → IsTurnBy (λ s. Makes w actor (Some done) (steps_of actor done) (event_of actor (instr_after w.program.program done))) w a v → IsTurnBy (λ s. TakesBack done.short (is_last w done) w actor done) w a v
back_past w v actor done a is last l = subst (λ b. IsTurnBy (λ s. TakesBack b (is_last w done) w actor done) w a v) is (subst (λ b. IsTurnBy (λ s. TakesBack false b w actor done) w a v) last l)

-- the instruction that is found after the steps
pub after_is : (w : PoolView) (program : List Procedure) (done : DoneView) (i : Instr) (m n : ℕ) → w.program.program ≡ program → m ≡ done.before.procedure → n ≡ done.after.place
    → option_and_then (λ (p : Procedure). slice_get p.code n) (slice_get program m) ≡ Some i → instr_after w.program.program done ≡ Some i
after_is w program done i m n whose of at e =
    subst (λ (ps : List Procedure). instr_after ps done ≡ Some i) (sym whose)
    (subst (λ k. option_and_then (λ (p : Procedure). slice_get p.code done.after.place) (slice_get program k) ≡ Some i) of
    (subst (λ k. option_and_then (λ (p : Procedure). slice_get p.code k) (slice_get program m) ≡ Some i) at e))

last_event : (actor : Actor) (i : Instr) → true ≡ is_ret i → event_of actor (Some i) ≡ End actor
last_event actor (instr.Local i) e = cc
last_event actor (instr.Data i) e = cc
last_event actor (instr.Rule action) e = cc
last_event actor (instr.Put action) e = cc
last_event actor instr.Ret e = refl

call_event : (actor : Actor) (i : Instr) → local_of i ≡ None → false ≡ is_ret i → event_of actor (Some i) ≡ Call actor
call_event actor (instr.Local i) l e = cc
call_event actor (instr.Data i) l e = refl
call_event actor (instr.Rule action) l e = refl
call_event actor (instr.Put action) l e = refl
call_event actor instr.Ret l e = cc

pub past_ret : (w v : PoolView) (actor : Actor) (done : DoneView) (a : Turn) (i : Instr) → instr_after w.program.program done ≡ Some i → true ≡ is_ret i → IsTurnBy (λ s. Answers Ended (steps_of actor done ++ End actor ∷ [])) w a v
    → IsTurnBy (λ s. Makes w actor (Some done) (steps_of actor done) (event_of actor (instr_after w.program.program done))) w a v
past_ret w v actor done a i at is l = subst (λ e. IsTurnBy (λ s. Makes w actor (Some done) (steps_of actor done) e) w a v) (sym (ap (event_of actor) at ∙ last_event actor i is)) l

pub past_call : (w v : PoolView) (actor : Actor) (done : DoneView) (a : Turn) (i : Instr) → instr_after w.program.program done ≡ Some i → local_of i ≡ None → false ≡ is_ret i
    → IsTurnBy (λ s. OrNoMemory w (Some done) (steps_of actor done) (Call actor) (Issues w actor (steps_of actor done ++ Call actor ∷ []))) w a v → IsTurnBy (λ s. Makes w actor (Some done) (steps_of actor done) (event_of actor (instr_after w.program.program done))) w a v
past_call w v actor done a i at other is l = subst (λ e. IsTurnBy (λ s. Makes w actor (Some done) (steps_of actor done) e) w a v) (sym (ap (event_of actor) at ∙ call_event actor i other is)) l

pub stops_there : (code : List Instr) (place : ℕ) (i : Instr) → IsStop code place → slice_get code place ≡ Some i → local_of i ≡ None
stops_there code place i stop at = subst (λ x. local_of x ≡ None) (same_Some stop.here i (sym stop.is ∙ at)) stop.other

-- a Done that isn't short stops there
pub not_local : (w : PoolView) (program : TypedProgram) (done : DoneView) (i : Instr) → w.program ≡ program → done.before.program ≡ program → IsDone done.before.program.program done.before.procedure done.before.position done.after done.steps done.short
    → false ≡ done.short → instr_after w.program.program done ≡ Some i → local_of i ≡ None
not_local w program done i whose own law whole at =
    let code : slice_get law.p.code done.after.place ≡ Some i =
    sym (ap (option_and_then (λ (p : Procedure). slice_get p.code done.after.place)) (ap (λ (v : TypedProgram). slice_get v.program done.before.procedure) (whose ∙ sym own) ∙ law.here)) ∙ at in
    stops_there law.p.code done.after.place i (subst (λ b. StopsAt b law.p.code law.p.registers done.after.place) (sym whole) law.stops) code

module _ (verified : TypedProgram) (inputs : List Input) (layout : ActorCounts) (stopped : Bool) (traced : HistoryView) (old : Parts) (h : IsKept verified inputs layout traced.limit traced.events old) (w : PoolView) (seen : viewed verified inputs layout stopped traced ≡ w) where
  abbrev here : State
  here = state verified inputs layout stopped traced old h w seen

  pub at_here : HasState w here
  at_here = has_state verified inputs layout stopped traced old h w seen

  pub only_here : (s : State) → HasState w s → s ≡ here
  only_here s at = same_went s here (sym at ∙ at_here)

  pub within_here : length w.history ≤ w.limit
  within_here = subst (λ (x : PoolView). length x.history ≤ x.limit) seen h.within

  pub room_if : ((s : State) → HasState w s → None ≡ closing_at w s) → length w.history < w.limit
  room_if goes_on = room_left w here within_here (goes_on here at_here)

  unchanged : (line : State → Line) (answer : Turn) → line here answer [] → IsTurnBy line w answer w
  unchanged line answer is = subst (λ (v : PoolView). IsTurnBy line w answer v) seen (line_still verified inputs layout stopped traced old h w seen line answer is)

  pub over : (actor : Actor) (given : Option DoneView) (closing : Closing) → ((s : State) → HasState w s → Some closing ≡ closing_at w s) → IsTurn w actor given (Over closing) w
  over actor given closing is = unchanged (λ s. TurnsUnless (closing_at w s) w s actor given) (Over closing)
      (subst (λ c. TurnsUnless c w here actor given (Over closing) []) (is here at_here) (refl, refl))

  module _ (actor : Actor) where
    pub is_free : get old.running_tasks.tasks actor ≡ None → IsFree w actor
    is_free none s at = ap (λ (t : State). get t.frames actor) (only_here s at) ∙ get_mapped bare_frame old.running_tasks.tasks actor ∙ ap (option_map bare_frame) none

    module _ (f : FrameView) (is_running : get old.running_tasks.tasks actor ≡ Some f) where
      abbrev job_by : Frame → JobView
      job_by g = record { program = verified; task = g.task; procedure = g.procedure; actor = actor; event_no = length (events_of actor traced.events); position = g.position }

      -- the issued job
      pub issued_is : issued_to w here actor ≡ Some (job_of f)
      issued_is =
          let fits = h.parts.rights_fit.frames actor f is_running in
          let number = h.lent actor f is_running in
          subst (λ (x : PoolView). issued_to x here actor ≡ Some (job_of f)) seen
          (ap (option_map job_by) (get_mapped bare_frame old.running_tasks.tasks actor ∙ ap (option_map bare_frame) is_running)
          ∙ ap Some (λ i. record { program = sym fits.program i; task = f.task; procedure = f.procedure; actor = sym fits.own i; event_no = sym number i; position = f.position }))

      pub program_is : w.program ≡ f.program
      program_is = ap (λ (x : PoolView). x.program) (sym seen) ∙ sym (h.parts.rights_fit.frames actor f is_running).program

      pub is_owed : (done : DoneView) → done.before ≡ job_of f → IsOwedBy w actor done
      is_owed done own s at = ap (λ t. issued_to w t actor) (only_here s at) ∙ issued_is ∙ ap Some (sym own)

      pub owed_line : IsTurnBy (λ s. Turns w s actor (issued_to w s actor) None) w Owed w
      owed_line = unchanged (λ s. Turns w s actor (issued_to w s actor) None) Owed
          (subst (λ j. Turns w here actor j None Owed []) (sym issued_is) (refl, refl))

      pub foreign_line : (done : DoneView) → (done.before ≡ job_of f → ⊥) → IsTurnBy (λ s. Turns w s actor (issued_to w s actor) (Some done)) w (Foreign done) w
      foreign_line done other = unchanged (λ s. Turns w s actor (issued_to w s actor) (Some done)) (Foreign done)
          (subst (λ j. Turns w here actor j (Some done) (Foreign done) []) (sym issued_is) (inr (other, (refl, refl))))

    pub owed_if : IsSome (get old.running_tasks.tasks actor) → IsTurnBy (λ s. Turns w s actor (issued_to w s actor) None) w Owed w
    owed_if some = by (get old.running_tasks.tasks actor) refl some
      where
        by : (o : Option FrameView) → get old.running_tasks.tasks actor ≡ o → IsSome o → IsTurnBy (λ s. Turns w s actor (issued_to w s actor) None) w Owed w
        by None none is = cc
        by (Some f) is_running is = owed_line f is_running

    -- a Done, and no task
    pub stray_line : (done : DoneView) → IsFree w actor → IsTurnBy (λ s. Turns w s actor (issued_to w s actor) (Some done)) w (Foreign done) w
    stray_line done free =
        let no_job : issued_to w here actor ≡ None = ap (option_map (λ (f : Frame). record { program = w.program; task = f.task; procedure = f.procedure; actor = actor; event_no = length (events_of actor w.history); position = f.position })) (free here at_here) in
        unchanged (λ s. Turns w s actor (issued_to w s actor) (Some done)) (Foreign done)
        (subst (λ j. Turns w here actor j (Some done) (Foreign done) []) (sym no_job) (refl, refl))
