-- PUT: on the parts.
use Rattle.tw_pool_state.proofs.PartNames.{Action, Actor, ActorCounts, AreParts, Arg, Call, Completed, FrameFits, FrameView, Held, List, MayBeAt, Notices, Option, Parts, Procedure, Right, RightsFit, Served, Some, Succeeds, TaskOf, TypedProgram, Value, Went, actor_cmp-IsAntisymmetric, actor_cmp_total, ap, at_next_place, bare_frame, bare_rule, bare_task, bundled, context_of, frame_after_call, frame_at_next, get, insert, insert_mapped, map as each, mapped, named_values, nat_cmp-IsAntisymmetric, nat_cmp_total, refl, slice_get, state_of, subst, sym, typed_after, typings_of, with_frame, with_task, ◌+◌, ◌∙◌, ◌≡◌}
use Rattle.tw_code.specs.declared.instr.Instr.TheVariants as instr
use Rattle.tw_code.specs.machine.Machine.{step}
use Rattle.tw_pool_state.proofs.Arriving.{call_queues}
use Rattle.tw_pool_state.proofs.Fitting.{seen, fit_put, fit_by_actor}
use Rattle.tw_pool_state.proofs.Goings.{position_then}
use Rattle.tw_pool_state.proofs.Handovers.{args_match, bare_args, fits_after, frame_is}
use Rattle.tw_pool_state.proofs.Law.{goes_to}
use Rattle.tw_pool_state.proofs.Naming.{IsNamed, puts}
use Rattle.tw_pool_state.proofs.Runners.{get_other, get_own}

module _ (verified : TypedProgram) (layout : ActorCounts) (old : Parts) (notices : Notices) (h : AreParts verified layout old notices)
    (actor : Actor) (f : FrameView) (p : Procedure) (action : Action) (runs : get old.running_tasks.tasks actor ≡ Some f) (here : slice_get verified.program f.procedure ≡ Some p)
    (at : slice_get p.code f.position.place ≡ Some (instr.Put action)) where
  pub put_named : IsNamed verified.program p.kind (context_of (state_of old notices) (bare_frame f)) action f.held
  put_named = (puts verified layout old notices h actor f p action runs here at).is_named

  put_steps : step verified.program layout (Call actor) (state_of old notices) ≡ Went (with_frame (with_task (state_of old notices) (record { kind = put_named.procedure.kind; procedure = action.procedure; priority = put_named.priority; target = action.target; args = put_named.given.args })) actor (frame_after_call (bare_frame f) put_named.given.rights))
  unfolding step
  put_steps =
      let t = seen bare_frame old.running_tasks.tasks actor (Some f) runs in
      let g = (puts verified layout old notices h actor f p action runs here at).is_closed ∙ put_named.goes in
      rw (t, here, at, g) refl

  -- it may run from the place after it
  pub put_fits : MayBeAt f.program.program f.procedure (at_next_place f.position)
  put_fits = subst (λ (v : TypedProgram). MayBeAt v.program f.procedure (at_next_place f.position)) (sym (h.rights_fit.frames actor f runs).program)
      (position_then verified layout old notices h actor f runs (Call actor) _ put_steps (frame_after_call (bare_frame f) put_named.given.rights) (get_own (mapped bare_frame old.running_tasks.tasks) actor (frame_after_call (bare_frame f) put_named.given.rights)))

  module _ (vals : List Value) (are : each Some vals ≡ named_values f.position.values put_named.procedure.params action.args)
      (args : List Arg) (file : List (Option Held)) (over : bundled f.held put_named.procedure.params action.args vals ≡ Some (record { args = args; file = file })) where
    abbrev task : TaskOf Arg
    task = record { kind = put_named.procedure.kind; procedure = action.procedure; priority = put_named.priority; target = action.target; args = args }

    bare_is : bare_task task ≡ record { kind = put_named.procedure.kind; procedure = action.procedure; priority = put_named.priority; target = action.target; args = put_named.given.args }
    bare_is = ap (λ xs. record { kind = put_named.procedure.kind; procedure = action.procedure; priority = put_named.priority; target = action.target; args = xs })
        (bare_args verified layout old notices h actor f p action runs put_named vals are args file over)

    goes : step verified.program layout (Call actor) (state_of old notices) ≡ Went (with_frame (with_task (state_of old notices) (bare_task task)) actor (bare_frame (frame_at_next f file)))
    goes = put_steps ∙ ap (λ k. Went (with_frame (with_task (state_of old notices) k) actor (frame_after_call (bare_frame f) put_named.given.rights))) (sym bare_is)
        ∙ ap (λ k. Went (with_frame (with_task (state_of old notices) (bare_task task)) actor k)) (sym (frame_is verified layout old notices h actor f p action runs put_named vals are args file over))

    fits : FrameFits verified old.store.places actor (frame_at_next f file)
    fits = fits_after verified layout old notices h actor f p action runs put_named vals are args file over
        (typed_after verified.program (typings_of verified) h.runnable.is h.runnable.right f.procedure p here f.position.place (f.position.place + 1) (instr.Put action) Completed at refl).1

    module _ (new : Parts) (tasks : new.tasks.tasks ≡ insert old.tasks.tasks old.next_task task) (next_task : new.next_task ≡ old.next_task + 1) (running_tasks : new.running_tasks.tasks ≡ insert old.running_tasks.tasks actor (frame_at_next f file)) (layout_is : new.running_tasks.layout ≡ old.running_tasks.layout) (store : new.store ≡ old.store) (rules : new.rules ≡ old.rules) (outputs : new.outputs ≡ old.outputs) where
      same_state : state_of new notices ≡ with_frame (with_task (state_of old notices) (bare_task task)) actor (bare_frame (frame_at_next f file))
      same_state = λ i. record {
        store = (store i).store;
        rules = mapped bare_rule (rules i).rules;
        next_rule = (rules i).next;
        tasks = (ap (mapped bare_task) tasks ∙ insert_mapped bare_task nat_cmp_total nat_cmp-IsAntisymmetric old.tasks.tasks old.next_task task) i;
        next_task = next_task i;
        frames = (ap (mapped bare_frame) running_tasks ∙ insert_mapped bare_frame actor_cmp_total actor_cmp-IsAntisymmetric old.running_tasks.tasks actor (frame_at_next f file)) i;
        notices = notices;
        outputs = each (λ (right : Right). right.id) (outputs i);
      }

      pub put_goes : Succeeds verified layout (Call actor) old notices new
      put_goes = goes_to verified layout old notices h (Call actor) new notices _ goes same_state (rw store h.queued) (rw store h.servers) (ap (λ (x : Served). x.queues) store ∙ sym (call_queues verified.program (state_of old notices) actor (bare_frame f) p (instr.Put action) old.store.queues (seen bare_frame old.running_tasks.tasks actor (Some f) runs) here at)) layout_is fit_is
          (λ other apart. ap (λ m. get m other) running_tasks ∙ get_other old.running_tasks.tasks actor (frame_at_next f file) other apart)
        where
          put_there : RightsFit verified old.store.places old.running_tasks.tasks (insert old.tasks.tasks old.next_task task) old.rules.rules old.outputs
          put_there = fit_put verified old.store.places old.running_tasks.tasks old.tasks.tasks old.rules.rules old.outputs h.rights_fit old.next_task task
              (args_match verified layout old notices h actor f p action runs put_named vals are args file over)

          fit_is : RightsFit verified new.store.places new.running_tasks.tasks new.tasks.tasks new.rules.rules new.outputs
          fit_is = rw (store, running_tasks, tasks, rules, outputs) (fit_by_actor verified old.store.places old.running_tasks.tasks (insert old.tasks.tasks old.next_task task) old.rules.rules old.outputs put_there actor (frame_at_next f file) fits)
