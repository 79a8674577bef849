-- RULE and PUT: the requirements on their parts, if a task is at one after a job.
use Rattle.std.proofs.Common.{map as each, ◌≡◌, ◌≤◌, ◌<◌, ◌+◌, ◌^◌, ◌∙◌, ℕ, List, Option, Some, None, IsSome, sym, ap, subst, length, slice_get, arith}
use Rattle.tw_pool_state.proofs.PartNames.{Action, Actor, Bundled, DoneView, FrameView, HasSlot, Held, Instr, IsAtInstr, IsInstr, IsOwed, IsProcedure, IsProgram, MayBeAt, Param, Parts, Procedure, Value, all_found, at_next_place, bare_frame, bundled, context_of, frame_after, get, job_of, named_values, same_Some, state_of, with_done}
use Rattle.tw_queue.specs.Queues as queues
use Rattle.tw_code.specs.format.Program as format
use Rattle.tw_pool_state.proofs.Fitting.{seen}
use Rattle.tw_pool_state.proofs.Handovers.{few_params, low_place, may_bundle}
use Rattle.tw_pool_state.proofs.Law.{runner_has_slot}
use Rattle.tw_pool_state.proofs.Naming.{IsNamed}
use Rattle.tw_pool_state.proofs.Runners.{get_own}

pub so_valued : (values : List Value) (params wanted : List Param) → params ≡ wanted → (named : List ℕ) (vals : List Value) → each Some vals ≡ named_values values params named → each Some vals ≡ named_values values wanted named
so_valued values params wanted p named vals is = is ∙ ap (λ ps. named_values values ps named) p

module _ (old : Parts) (actor : Actor) (done : DoneView) (instr : Instr) (s : IsAtInstr old actor done instr) where
  abbrev pub there : Parts
  there = with_done old actor s.f done

  pub runs_there : get there.running_tasks.tasks actor ≡ Some (frame_after s.f done)
  runs_there = get_own old.running_tasks.tasks actor (frame_after s.f done)

  pub slot_there : HasSlot actor
  slot_there = runner_has_slot done.before.program s.layout there s.notices s.parts actor (frame_after s.f done) runs_there

  spent_there : s.f.spent + done.steps < 2 ^ 63
  spent_there = let few = s.small.spent actor (bare_frame (frame_after s.f done)) (seen bare_frame there.running_tasks.tasks actor (Some (frame_after s.f done)) runs_there) in omega (arith, few)

  place_there : done.after.place < 2 ^ 63
  place_there = let low = low_place done.before.program.program s.parts.runnable.is s.f.procedure s.q s.here done.after.place instr s.following_is in omega (arith, low)

  module _ (action : Action) (u : IsNamed done.before.program.program s.q.kind (context_of (state_of there s.notices) (bare_frame (frame_after s.f done))) action s.f.held)
      (params : List Param) (params_is : params ≡ u.procedure.params) (registers : List ℕ) (registers_is : registers ≡ action.args) where
    pub few : length params ≤ 8
    few = let low = few_params done.before.program.program s.parts.runnable.is action.procedure u.procedure u.is in omega (arith, low, ap length params_is)

    pub is_running_ready : (vals : List Value) → each Some vals ≡ named_values done.after.values params action.args → MayBeAt s.f.program.program s.f.procedure (at_next_place done.after)
        → (x : FrameView) × (get old.running_tasks.tasks actor ≡ Some x) × (done.before ≡ job_of x) × (x.spent + done.steps < 2 ^ 63) × (done.after.place < 2 ^ 63) × IsSome (bundled x.held params registers vals)
        × MayBeAt x.program.program x.procedure (at_next_place done.after)
    is_running_ready vals are fits_place = (
      s.f,
      s.owed.is_running,
      s.owed.own,
      spent_there,
      place_there,
      subst (λ ps. IsSome (bundled s.f.held ps registers vals)) (sym params_is) (subst (λ rs. IsSome (bundled s.f.held u.procedure.params rs vals)) (sym registers_is)
          (may_bundle done.before.program s.layout there s.notices s.parts actor (frame_after s.f done) s.q action runs_there u vals (so_valued done.after.values params u.procedure.params params_is action.args vals are))),
      fits_place,
    )

-- ---- when it was done

-- arguments taken after a job, for any frame to which the job belongs
module _ (old : Parts) (actor : Actor) (done : DoneView) (instr : Instr) (s : IsAtInstr old actor done instr) (f : FrameView) (owed : IsOwed old actor f done) where
  same_frame : s.f ≡ f
  same_frame = same_Some s.f f (sym s.owed.is_running ∙ owed.is_running)

  pub here_too : slice_get done.before.program.program f.procedure ≡ Some s.q
  here_too = ap (λ (g : FrameView). slice_get done.before.program.program g.procedure) (sym same_frame) ∙ s.here

  pub runs_too : get (with_done old actor f done).running_tasks.tasks actor ≡ Some (frame_after f done)
  runs_too = get_own old.running_tasks.tasks actor (frame_after f done)

module _ (program : List Procedure) (number : ℕ) (callee : Procedure) (found : slice_get program number ≡ Some callee) (procedure : Procedure) (is : slice_get program number ≡ Some procedure) where
  same_callee : callee ≡ procedure
  same_callee = same_Some callee procedure (sym found ∙ is)

  pub params_of_callee : callee.params ≡ procedure.params
  params_of_callee = ap (λ (p : Procedure). p.params) same_callee

  pub kind_of_callee : callee.kind ≡ procedure.kind
  kind_of_callee = ap (λ (p : Procedure). p.kind) same_callee

-- the words of the registers are those of the action
pub so_bundled : (held : List (Option Held)) (params wanted : List Param) → params ≡ wanted → (registers named : List ℕ) → registers ≡ named → (vals : List Value) (o : Option Bundled) → bundled held params registers vals ≡ o → bundled held wanted named vals ≡ o
so_bundled held params wanted p registers named r vals o is = ap (λ ps. bundled held ps named vals) (sym p) ∙ ap (λ rs. bundled held params rs vals) (sym r) ∙ is

-- the target of an action is one that the queues have
pub in_queue : (o : Option ℕ) → format.IsTarget o → queues.IsTarget o
in_queue None h = tt
in_queue (Some n) h = omega (arith, h.1)

-- the operands of the instruction at which a task is
pub operands : (program : List Procedure) → IsProgram program → (k : ℕ) (p : Procedure) → slice_get program k ≡ Some p → (place : ℕ) (i : Instr) → slice_get p.code place ≡ Some i → IsInstr i
operands program is k p here place i at = all_found IsInstr p.code place i (all_found IsProcedure program k p is.1 here).code.1 at
