-- A task ends: on the parts.
use Rattle.std.proofs.Common.{map, ◌≡◌, ◌∙◌, Some, true, refl, ap, slice_get, is_none}
use Rattle.tw_pool_state.proofs.PartNames.{Actor, ActorCounts, AreParts, End, FrameView, Notices, Parts, Procedure, Right, RightsFit, Succeeds, TypedProgram, Went, actor_cmp-IsAntisymmetric, actor_cmp_total, asked_at, bare_frame, bare_rule, bare_task, get, list_all, mapped, remove, remove_mapped, state_of, typing_of, typings_of}
use Rattle.tw_code.specs.declared.instr.Instr.TheVariants.{Ret}
use Rattle.tw_code.specs.machine.Machine.{step}
use Rattle.tw_soundness.proofs.AllEvents.{all_empty}
use Rattle.tw_pool_state.proofs.Fitting.{seen, fit_ended}
use Rattle.tw_pool_state.proofs.Law.{goes_to, held}
use Rattle.tw_pool_state.proofs.Runners.{get_other_left}

module _ (verified : TypedProgram) (layout : ActorCounts) (old : Parts) (notices : Notices) (h : AreParts verified layout old notices)
    (actor : Actor) (f : FrameView) (p : Procedure) (runs : get old.running_tasks.tasks actor ≡ Some f) (here : slice_get verified.program f.procedure ≡ Some p)
    (at : slice_get p.code f.position.place ≡ Some Ret) where
  there : get (mapped bare_frame old.running_tasks.tasks) actor ≡ Some (bare_frame f)
  there = seen bare_frame old.running_tasks.tasks actor (Some f) runs

  empty : list_all is_none (bare_frame f).rights ≡ true
  empty =
      let asked = asked_at verified.program (typings_of verified) h.runnable.is h.runnable.right f.procedure p here f.position.place Ret at in
      all_empty old.store.store (typing_of (typings_of verified) (bare_frame f)) (bare_frame f).rights ((held verified layout old notices h).types.rights actor (bare_frame f) there) asked.0

  goes : step verified.program layout (End actor) (state_of old notices) ≡ Went (record (state_of old notices) { frames = remove (mapped bare_frame old.running_tasks.tasks) actor })
  unfolding step
  goes = let t = there in let e = empty in rw (t, here, at, e) refl

  module _ (new : Parts) (running_tasks : new.running_tasks.tasks ≡ remove old.running_tasks.tasks actor) (layout_is : new.running_tasks.layout ≡ old.running_tasks.layout) (store : new.store ≡ old.store) (rules : new.rules ≡ old.rules) (tasks : new.tasks ≡ old.tasks) (next_task : new.next_task ≡ old.next_task) (outputs : new.outputs ≡ old.outputs) where
    same_state : state_of new notices ≡ record (state_of old notices) { frames = remove (mapped bare_frame old.running_tasks.tasks) actor }
    same_state = λ i. record {
      store = (store i).store;
      rules = mapped bare_rule (rules i).rules;
      next_rule = (rules i).next;
      tasks = mapped bare_task (tasks i).tasks;
      next_task = next_task i;
      frames = (ap (mapped bare_frame) running_tasks ∙ remove_mapped bare_frame actor_cmp_total actor_cmp-IsAntisymmetric old.running_tasks.tasks actor) i;
      notices = notices;
      outputs = map (λ (right : Right). right.id) (outputs i);
    }

    pub ended : Succeeds verified layout (End actor) old notices new
    ended = goes_to verified layout old notices h (End actor) new notices _ goes same_state (rw store h.queued) (rw store h.servers) (rw store refl) layout_is fit_is
        (λ other apart. ap (λ m. get m other) running_tasks ∙ get_other_left old.running_tasks.tasks actor other apart)
      where
        fit_is : RightsFit verified new.store.places new.running_tasks.tasks new.tasks.tasks new.rules.rules new.outputs
        fit_is = rw (store, running_tasks, tasks, rules, outputs) (fit_ended verified old.store.places old.running_tasks.tasks old.tasks.tasks old.rules.rules old.outputs h.rights_fit actor)
