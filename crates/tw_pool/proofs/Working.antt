-- The work that waits in a pool's parts is the work that waits in its state.
use Rattle.tw_pool.proofs.Names.{Actor, ActorCounts, AreTargeted, Arg, Bool, Engine, HasNoWork, HasState, HistoryView, Input, IsKept, LacksWork, List, None, Option, Parts, PoolView, Server, Some, State, Task, TaskOf, TasksOf, TypedProgram, Worker, ap, bare_arg, bare_task, false, get, get_mapped, is_among, length, mapped, may_take, next_release_mapped, option_map, queue_at, refl, same_Some, same_went, server_of, subst, sym, true, ℕ, ◌∙◌, ◌≡◌}
use Rattle.tw_types.specs.declared.actor.Kind.{Kind}
use Rattle.tw_queue.specs.Targets.{HaveTargets, IsNoTarget}
use Rattle.tw_pool_state.specs.Work as parts
use Rattle.tw_pool.proofs.Freely.{has_state, state, viewed}

-- a task without the places of its rights was there with them
found : (tasks : TasksOf Arg) (number : ℕ) (t : Task) → get (mapped bare_task tasks) number ≡ Some t → (u : TaskOf Arg) × (get tasks number ≡ Some u) × (u.kind ≡ t.kind) × (u.target ≡ t.target)
found tasks number t e = by (get tasks number) refl
  where
    by : (o : Option (TaskOf Arg)) → get tasks number ≡ o → (u : TaskOf Arg) × (get tasks number ≡ Some u) × (u.kind ≡ t.kind) × (u.target ≡ t.target)
    by None is = let no : None ≡ Some t = sym (get_mapped bare_task tasks number ∙ ap (option_map bare_task) is) ∙ e in cc
    by (Some u) is =
        let same : bare_task u ≡ t = same_Some (bare_task u) t (sym (get_mapped bare_task tasks number ∙ ap (option_map bare_task) is) ∙ e) in
        (u, is, ap (λ (x : Task). x.kind) same, ap (λ (x : Task). x.target) same)

no_target : (actor : Actor) (tasks : TasksOf Arg) → IsNoTarget actor tasks → IsNoTarget actor (mapped bare_task tasks)
no_target actor tasks none number t e may is =
    let u = found tasks number t e in
    none number u.0 u.1 (ap (may_take actor) u.2 ∙ may) (u.3 ∙ is)

have_targets : (kind : Kind) (tasks : TasksOf Arg) → HaveTargets kind tasks → HaveTargets kind (mapped bare_task tasks)
have_targets kind tasks all number t e of_kind is =
    let u = found tasks number t e in
    all number u.0 u.1 (u.2 ∙ of_kind) (u.3 ∙ is)

module _ (verified : TypedProgram) (inputs : List Input) (layout : ActorCounts) (stopped : Bool) (traced : HistoryView) (old : Parts) (h : IsKept verified inputs layout traced.limit traced.events old) (w : PoolView) (seen : viewed verified inputs layout stopped traced ≡ w) where
  abbrev here : State
  here = state verified inputs layout stopped traced old h w seen

  only : (s : State) → HasState w s → here ≡ s
  only s at = same_went here s (sym (has_state verified inputs layout stopped traced old h w seen) ∙ at)

  here_none : (actor : Actor) → parts.HasNoWork actor old → HasNoWork layout actor here
  here_none (Engine engine) none = (next_release_mapped bare_arg engine old.rules.rules ∙ none.0, no_target (Engine engine) old.tasks.tasks none.1)
  here_none (Server server) none = λ n has own.
      let queues = old.store.queues in
      let at : server_of (length queues) n.datum ≡ server = ap (λ k. server_of k n.datum) h.parts.servers ∙ own in
      let among : is_among n (queue_at queues server) ≡ true = ap (λ k. is_among n (queue_at queues k)) (sym at) ∙ (sym (h.parts.queued.all n) ∙ has) in
      let no : false ≡ true = sym (ap (is_among n) none) ∙ among in
      cc
  here_none (Worker worker) none = no_target (Worker worker) old.tasks.tasks none

  pub lacks_work : (actor : Actor) → parts.HasNoWork actor old → LacksWork w actor
  lacks_work actor none s at = subst (HasNoWork w.layout actor) (only s at) (subst (λ (p : PoolView). HasNoWork p.layout actor here) seen (here_none actor none))

  pub are_targeted : (kind : Kind) → HaveTargets kind old.tasks.tasks → AreTargeted w kind
  are_targeted kind all s at = subst (λ (t : State). HaveTargets kind t.tasks) (only s at) (have_targets kind old.tasks.tasks all)
