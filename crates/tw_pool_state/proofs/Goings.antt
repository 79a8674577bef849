-- A task moves on by local steps, and its next job is issued: on the parts.
use Rattle.tw_pool_state.proofs.PartNames.{Actor, ActorCounts, AreParts, Event, Frame, FrameFits, IsIssued, IsOwed, IsReached, List, Local, Notices, Parts, Procedure, RightsFit, Some, State, Succeeds, TasksByActor, TypedProgram, Went, actor_cmp-IsAntisymmetric, actor_cmp_total, ap, arith, false, frame_after, fresh_position, get, insert, insert_mapped, issued_as, kept_by, kinds_in, mapped, nat_eq, nat_tests, position_there, refl, slice_get, state_of, steps_leave, subst, sym, typings_of, with_done, with_frame, ℕ, ◌+◌, ◌<◌, ◌∙◌, ◌≡◌}
use Rattle.tw_types.proofs.Outcomes.{same_went}
use Rattle.tw_code.specs.machine.History.{actor_of}
use Rattle.tw_code.specs.machine.Machine.{step, local_steps}
use Rattle.tw_frame.specs.Jobs.{DoneView, FrameView, IsDone, JobView, MayBeAt, bare_frame, job_of}
use Rattle.tw_pool_state.proofs.Fitting.{seen, fit_by_actor}
use Rattle.tw_pool_state.proofs.Law.{goes_to, held}
use Rattle.tw_pool_state.proofs.Runners.{again, get_other, get_own, same_slot}

-- where the `Done` of the frame's job leads
pub record Leads (program : List Procedure) (f : FrameView) (done : DoneView) : Type 0 where
  pub p : Procedure
  pub here : slice_get program f.procedure ≡ Some p
  pub steps : local_steps done.steps p.code f.position ≡ Went done.after

pub leads : (old : Parts) (actor : Actor) (f : FrameView) (done : DoneView) → IsOwed old actor f done
    → IsDone done.before.program.program done.before.procedure done.before.position done.after done.steps done.short → Leads done.before.program.program f done
leads old actor f done owed law = record {
  p = law.p;
  here = ap (λ (j : JobView). slice_get done.before.program.program j.procedure) (sym owed.own) ∙ law.here;
  steps = ap (λ (j : JobView). local_steps done.steps law.p.code j.position) (sym owed.own) ∙ law.reached.went;
}

-- ---- local steps

module _ (verified : TypedProgram) (layout : ActorCounts) (old : Parts) (notices : Notices) (h : AreParts verified layout old notices)
    (actor : Actor) (f : FrameView) (runs : get old.running_tasks.tasks actor ≡ Some f) (done : DoneView) (way : Leads verified.program f done) where
  there : get (mapped bare_frame old.running_tasks.tasks) actor ≡ Some (bare_frame f)
  there = seen bare_frame old.running_tasks.tasks actor (Some f) runs

  goes : 0 < done.steps → step verified.program layout (Local actor done.steps) (state_of old notices) ≡ Went (with_frame (state_of old notices) actor (bare_frame (frame_after f done)))
  unfolding step
  goes some =
      let t = there in let test : nat_eq done.steps 0 ≡ false = grind (arith, nat_tests) in
      let here = way.here in let steps = way.steps in
      rw (test, t, here, steps) refl

  fits : FrameFits verified old.store.places actor (frame_after f done)
  fits =
      let before = h.rights_fit.frames actor f runs in
      let same = steps_leave verified.program (typings_of verified) h.runnable.is h.runnable.right (state_of old notices) (held verified layout old notices h) actor (bare_frame f) there way.p way.here done.steps done.after way.steps in
      record { program = before.program; own = before.own; placed = before.placed; kinds = before.kinds ∙ ap kinds_in (sym same) }

  same_state : state_of (with_done old actor f done) notices ≡ with_frame (state_of old notices) actor (bare_frame (frame_after f done))
  same_state = ap (λ m. record (state_of old notices) { frames = m }) (insert_mapped bare_frame actor_cmp_total actor_cmp-IsAntisymmetric old.running_tasks.tasks actor (frame_after f done))

  pub gone : 0 < done.steps → Succeeds verified layout (Local actor done.steps) old notices (with_done old actor f done)
  gone some = goes_to verified layout old notices h (Local actor done.steps) (with_done old actor f done) notices _ (goes some) same_state h.queued h.servers refl refl
      (fit_by_actor verified old.store.places old.running_tasks.tasks old.tasks.tasks old.rules.rules old.outputs h.rights_fit actor (frame_after f done) fits)
      (get_other old.running_tasks.tasks actor (frame_after f done))

-- without a step its position doesn't change
pub stayed : (program : List Procedure) (old : Parts) (actor : Actor) (f : FrameView) → get old.running_tasks.tasks actor ≡ Some f → (done : DoneView) → Leads program f done → done.steps ≡ 0 → with_done old actor f done ≡ old
stayed program old actor f runs done way none =
    let at : f.position ≡ done.after = same_went f.position done.after (ap (λ n. local_steps n way.p.code f.position) (sym none) ∙ way.steps) in
    let spent : f.spent + done.steps ≡ f.spent = omega (arith, none) in
    let same : frame_after f done ≡ f = λ i. record f { position = sym at i; spent = spent i } in
    ap (λ (m : TasksByActor). record old { running_tasks = record old.running_tasks { tasks = m } }) (ap (insert old.running_tasks.tasks actor) same ∙ same_slot old.running_tasks.tasks actor f runs)

-- ---- issuing

module _ (verified : TypedProgram) (layout : ActorCounts) (old : Parts) (notices : Notices) (h : AreParts verified layout old notices)
    (actor : Actor) (f : FrameView) (runs : get old.running_tasks.tasks actor ≡ Some f) where
  in_frames : get (mapped bare_frame old.running_tasks.tasks) actor ≡ Some (bare_frame f)
  in_frames = seen bare_frame old.running_tasks.tasks actor (Some f) runs

  -- it may run from there
  pub may_be_at : MayBeAt f.program.program f.procedure f.position
  may_be_at p here =
      let fits = h.rights_fit.frames actor f runs in
      fresh_position p f.spent f.position
      (position_there verified.program (typings_of verified) h.runnable.is h.runnable.right (state_of old notices) (held verified layout old notices h) actor (bare_frame f) in_frames p
      (ap (λ (v : TypedProgram). slice_get v.program f.procedure) (sym fits.program) ∙ here))

  -- and where an event leads it
  pub position_then : (event : Event) (t : State) → step verified.program layout event (state_of old notices) ≡ Went t → (g : Frame) → get t.frames actor ≡ Some g → MayBeAt verified.program g.procedure g.position
  position_then event t goes g now p here = fresh_position p g.spent g.position (position_there verified.program (typings_of verified) h.runnable.is h.runnable.right t
      (kept_by verified.program (typings_of verified) layout event (state_of old notices) t h.runnable.is h.runnable.right (held verified layout old notices h) goes) actor g now p here)

-- the number under which it is issued isn't in the machine's state
module _ (new : Parts) (running_tasks : TasksByActor) (actor : Actor) (f : FrameView) (event_no : ℕ) (is_running : new.running_tasks.tasks ≡ insert running_tasks actor (issued_as event_no f)) where
  abbrev unlent : Parts
  unlent = record new { running_tasks = record new.running_tasks { tasks = insert running_tasks actor f } }

  pub issued_state : (notices : Notices) → state_of new notices ≡ state_of unlent notices
  issued_state notices = ap (λ m. record (state_of new notices) { frames = m })
      (ap (mapped bare_frame) is_running ∙ insert_mapped bare_frame actor_cmp_total actor_cmp-IsAntisymmetric running_tasks actor (issued_as event_no f)
      ∙ sym (insert_mapped bare_frame actor_cmp_total actor_cmp-IsAntisymmetric running_tasks actor f))

  module _ (verified : TypedProgram) (layout : ActorCounts) (notices : Notices) (h : AreParts verified layout unlent notices) where
    before : FrameFits verified new.store.places actor f
    before = h.rights_fit.frames actor f (get_own running_tasks actor f)

    pub issued_parts : AreParts verified layout new notices
    issued_parts = record {
      runnable = h.runnable;
      law = subst (IsReached verified.program layout) (sym (issued_state notices)) h.law;
      queued = h.queued;
      servers = h.servers;
      layout_is = h.layout_is;
      rights_fit = subst (λ m. RightsFit verified new.store.places m new.tasks.tasks new.rules.rules new.outputs) (again running_tasks actor f (issued_as event_no f) ∙ sym is_running)
          (fit_by_actor verified new.store.places (insert running_tasks actor f) new.tasks.tasks new.rules.rules new.outputs h.rights_fit actor (issued_as event_no f) (record { program = before.program; own = before.own; placed = before.placed; kinds = before.kinds }));
    }

  pub issued_goes : (verified : TypedProgram) (layout : ActorCounts) (event : Event) → actor_of event ≡ actor → (old : Parts) (notices : Notices) → Succeeds verified layout event old notices unlent → Succeeds verified layout event old notices new
  issued_goes verified layout event own old notices goes = record {
    left = goes.left;
    step_is = goes.step_is ∙ ap Went (sym (issued_state goes.left));
    parts = issued_parts verified layout goes.left goes.parts;
    queues = goes.queues;
    others = λ other apart. ap (λ m. get m other) is_running ∙ get_other running_tasks actor (issued_as event_no f) other (λ e. apart (e ∙ sym own)) ∙ sym (get_other running_tasks actor f other (λ e. apart (e ∙ sym own))) ∙ goes.others other apart;
  }

  pub is_issued : (job : JobView) → job ≡ job_of (issued_as event_no f) → IsIssued new actor event_no job
  is_issued job is = record { f = issued_as event_no f; is_running = ap (λ m. get m actor) is_running ∙ get_own running_tasks actor (issued_as event_no f); number = refl; job_is = is }
