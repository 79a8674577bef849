-- An engine releases a rule: on the parts.
use Rattle.std.proofs.Common.{map, ◌≡◌, ◌≤◌, ◌+◌, ℕ, true, Option, Some, None, refl, sym, ap, subst, ◌∙◌, slice_get, option_map, arith}
use Rattle.tw_pool_state.proofs.PartNames.{ActorCounts, AreParts, Arg, Engine, IsOwn, IsTarget, Kind, MayBeReleased, Notices, Parts, Procedure, Release, Right, RightsFit, Rule, RunningView, Succeeds, TaskOf, TypedProgram, Went, bare_arg, bare_frame, bare_rule, bare_task, entries, get, insert, insert_mapped, is_releasable, mapped, nat_cmp-IsAntisymmetric, nat_cmp_total, next_release, next_release_mapped, own_rule_there, release_found, remove, remove_mapped, state_of, task_from, up_to, with_task}
use Rattle.tw_code.specs.machine.Machine.{step}
use Rattle.tw_code.proofs.Placed.{count_of}
use Rattle.tw_pool_state.proofs.Fitting.{IsImage, image_of, seen, fit_released}
use Rattle.tw_pool_state.proofs.Law.{goes_to, held, in_layout, target_below}

-- no task waits under the next number
pub fresh : (verified : TypedProgram) (layout : ActorCounts) (old : Parts) (notices : Notices) → AreParts verified layout old notices → get old.tasks.tasks old.next_task ≡ None
fresh verified layout old notices h = by (get old.tasks.tasks old.next_task) refl
  where
    by : (o : Option (TaskOf Arg)) → get old.tasks.tasks old.next_task ≡ o → o ≡ None
    by None e = refl
    by (Some t) e = let below = (held verified layout old notices h).numbers.tasks old.next_task (bare_task t) (seen bare_task old.tasks.tasks old.next_task (Some t) e) in absurd (omega (arith, below))

module _ (verified : TypedProgram) (layout : ActorCounts) (old : Parts) (notices : Notices) (h : AreParts verified layout old notices)
    (engine number : ℕ) (due : next_release engine old.rules.rules ≡ Some number) where
  pub found : IsOwn engine MayBeReleased number (entries (mapped bare_rule old.rules.rules))
  found = release_found engine number (mapped bare_rule old.rules.rules) (next_release_mapped bare_arg engine old.rules.rules ∙ due)

  pub pending : get (mapped bare_rule old.rules.rules) number ≡ Some found.rule
  pending = own_rule_there engine MayBeReleased number (mapped bare_rule old.rules.rules) found

  pub its : IsImage bare_rule old.rules.rules number found.rule
  its = image_of bare_rule old.rules.rules number found.rule pending

  pub releasable : option_map is_releasable (get old.rules.rules number) ≡ Some true
  releasable = ap (option_map is_releasable) its.there ∙ ap Some (ap (λ (r : Rule). is_releasable r) its.is ∙ found.has)

  pub procedure : (p : Procedure) × (slice_get verified.program its.x.procedure ≡ Some p)
  procedure =
      let p = (held verified layout old notices h).types.procedures.rules number found.rule pending in
      (p.0, ap (λ (r : Rule). slice_get verified.program r.procedure) its.is ∙ p.1)

  pub target : IsTarget its.x.target
  target =
      let it = (in_layout verified layout old notices h).rules number found.rule pending in
      target_below layout procedure.0.kind its.x.target h.runnable.counts
      (subst (λ (r : Rule). up_to r.target ≤ count_of layout procedure.0.kind) (sym its.is) (it.target procedure.0 (ap (λ (r : Rule). slice_get verified.program r.procedure) (sym its.is) ∙ procedure.1)))

  module _ (free : get old.running_tasks.tasks (Engine engine) ≡ None) where
    goes : step verified.program layout (Release engine number) (state_of old notices) ≡ Went (with_task (record (state_of old notices) { rules = remove (mapped bare_rule old.rules.rules) number }) (task_from procedure.0.kind found.rule))
    unfolding step
    goes =
        let none : get (mapped bare_frame old.running_tasks.tasks) (Engine engine) ≡ None = seen bare_frame old.running_tasks.tasks (Engine engine) None free in
        let own = found.own in
        let has = found.has in
        let p : slice_get verified.program found.rule.procedure ≡ Some procedure.0 = ap (λ (r : Rule). slice_get verified.program r.procedure) (sym its.is) ∙ procedure.1 in
        rw (none, pending, own, has, p) refl

    module _ (new : Parts) (kind : Kind) (kind_is : procedure.0.kind ≡ kind)
        (store : new.store ≡ old.store) (rules : new.rules.rules ≡ remove old.rules.rules number) (next_rule : new.rules.next ≡ old.rules.next)
        (tasks : new.tasks.tasks ≡ insert old.tasks.tasks old.next_task (task_from kind its.x)) (next_task : new.next_task ≡ old.next_task + 1) (running_tasks : new.running_tasks ≡ old.running_tasks) (outputs : new.outputs ≡ old.outputs) where
      pub new_rules : mapped bare_rule new.rules.rules ≡ remove (mapped bare_rule old.rules.rules) number
      new_rules = ap (mapped bare_rule) rules ∙ remove_mapped bare_rule nat_cmp_total nat_cmp-IsAntisymmetric old.rules.rules number

      pub new_tasks : mapped bare_task new.tasks.tasks ≡ insert (mapped bare_task old.tasks.tasks) old.next_task (task_from procedure.0.kind found.rule)
      new_tasks = ap (mapped bare_task) tasks ∙ insert_mapped bare_task nat_cmp_total nat_cmp-IsAntisymmetric old.tasks.tasks old.next_task (task_from kind its.x)
          ∙ ap (λ k. insert (mapped bare_task old.tasks.tasks) old.next_task (task_from k (bare_rule its.x))) (sym kind_is)
          ∙ ap (λ (r : Rule). insert (mapped bare_task old.tasks.tasks) old.next_task (task_from procedure.0.kind r)) its.is

      same_state : state_of new notices ≡ with_task (record (state_of old notices) { rules = remove (mapped bare_rule old.rules.rules) number }) (task_from procedure.0.kind found.rule)
      same_state = λ i. record {
        store = (store i).store;
        rules = new_rules i;
        next_rule = next_rule i;
        tasks = new_tasks i;
        next_task = next_task i;
        frames = mapped bare_frame (running_tasks i).tasks;
        notices = notices;
        outputs = map (λ (right : Right). right.id) (outputs i);
      }

      pub releases : Succeeds verified layout (Release engine number) old notices new
      releases = goes_to verified layout old notices h (Release engine number) new notices _ goes same_state (rw store h.queued) (rw store h.servers) (rw store refl) (ap (λ (r : RunningView). r.layout) running_tasks) fit_is (λ actor other. ap (λ (r : RunningView). get r.tasks actor) running_tasks)
        where
          fit_is : RightsFit verified new.store.places new.running_tasks.tasks new.tasks.tasks new.rules.rules new.outputs
          fit_is = rw (store, running_tasks, tasks, rules, outputs) (fit_released verified old.store.places old.running_tasks.tasks old.tasks.tasks old.rules.rules old.outputs h.rights_fit number old.next_task its.x kind its.there)
