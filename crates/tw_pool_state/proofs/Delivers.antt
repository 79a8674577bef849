-- A server delivers: on the parts.
use Rattle.std.proofs.Common.{map, ◌≡◌, ◌<◌, ℕ, true, false, nat_lt, nat_eq, List, ◌∷◌, Some, refl, sym, ap, subst, ◌∙◌, drop, length, set, slice_get, option_map, arith}
use Rattle.tw_pool_state.proofs.PartNames.{ActorCounts, AreParts, AreQueued, Arg, Deliver, Notice, Notices, Parts, Procedure, Ready, Right, RightsFit, Rule, RuleOf, RulesOf, RunningView, Stage, State, Succeeds, TypedProgram, Waiting, Went, at_stage, bare_frame, bare_rule, bare_task, get, insert, insert_mapped, is_settled, length-set, mapped, nat_cmp-IsAntisymmetric, nat_cmp_total, nat_tests, queue_at, server_of, stage_at, staged, state_of, with_stage}
use Rattle.std.specs.FinSet as set_of
use Rattle.tw_code.specs.machine.Machine.{step}
use Rattle.tw_soundness.proofs.Asked.{Noted, noted}
use Rattle.tw_pool_state.proofs.Law.{goes_to, held}
use Rattle.tw_pool_state.proofs.Fitting.{IsImage, image_of, fit_staged}
use Rattle.tw_pool_state.proofs.Notes as notes

-- ---- rules at a stage

-- the table's `staged`, if the rule is pending
pub staged_is : (rules : RulesOf Arg) (number : ℕ) (r : RuleOf Arg) (parameter : ℕ) (stage : Stage) → get rules number ≡ Some r → staged rules number parameter stage ≡ insert rules number (at_stage r parameter stage)
staged_is rules number r parameter stage at = rw at refl

pub staged_bare : (rules : RulesOf Arg) (number : ℕ) (r : RuleOf Arg) (parameter : ℕ) (stage : Stage) → get rules number ≡ Some r
    → mapped bare_rule (staged rules number parameter stage) ≡ insert (mapped bare_rule rules) number (at_stage (bare_rule r) parameter stage)
staged_bare rules number r parameter stage at = ap (mapped bare_rule) (staged_is rules number r parameter stage at) ∙ insert_mapped bare_rule nat_cmp_total nat_cmp-IsAntisymmetric rules number (at_stage r parameter stage)

-- ---- the event

deliver_goes : (program : List Procedure) (layout : ActorCounts) (server : ℕ) (n : Notice) (s : State) (rule : Rule) → nat_lt server layout.servers ≡ true → nat_eq (server_of layout.servers n.datum) server ≡ true → set_of.contains s.notices n ≡ true → get s.rules n.rule ≡ Some rule
    → step program layout (Deliver server n.datum n.rule n.parameter) s ≡ Went (with_stage (record s { notices = set_of.remove s.notices n }) n.rule rule n.parameter Ready)
unfolding step
deliver_goes program layout server n s rule low own has at = rw (low, own, has, at) refl

module _ (verified : TypedProgram) (layout : ActorCounts) (old : Parts) (notices : Notices) (h : AreParts verified layout old notices)
    (server : ℕ) (inside : server < length old.store.queues) (n : Notice) (rest : List Notice) (is : queue_at old.store.queues server ≡ n ∷ rest) where
  pub known : Noted (mapped bare_rule old.rules.rules) n
  known = noted old.store.store.live notices (mapped bare_rule old.rules.rules) n (held verified layout old notices h).notices (notes.has old.store.queues notices h.queued server inside n rest is)

  pub its : IsImage bare_rule old.rules.rules n.rule known.rule
  its = image_of bare_rule old.rules.rules n.rule known.rule known.is

  -- the parameter isn't settled
  pub may_mark : option_map is_settled (stage_at old.rules.rules n.rule n.parameter) ≡ Some false
  may_mark =
      let stage : slice_get its.x.stages n.parameter ≡ Some Waiting = ap (λ (r : Rule). slice_get r.stages n.parameter) its.is ∙ known.stage in
      rw its.there (ap (option_map is_settled) stage)

  module _ (new : Parts) (store : new.store.store ≡ old.store.store) (places : new.store.places ≡ old.store.places) (queues : new.store.queues ≡ set old.store.queues server rest)
      (rules : new.rules.rules ≡ staged old.rules.rules n.rule n.parameter Ready) (next_rule : new.rules.next ≡ old.rules.next)
      (tasks : new.tasks ≡ old.tasks) (next_task : new.next_task ≡ old.next_task) (running_tasks : new.running_tasks ≡ old.running_tasks) (outputs : new.outputs ≡ old.outputs) where
    abbrev left : Notices
    left = set_of.remove notices n

    pub new_rules : mapped bare_rule new.rules.rules ≡ insert (mapped bare_rule old.rules.rules) n.rule (at_stage known.rule n.parameter Ready)
    new_rules = ap (mapped bare_rule) rules ∙ staged_bare old.rules.rules n.rule its.x n.parameter Ready its.there ∙ ap (λ r. insert (mapped bare_rule old.rules.rules) n.rule (at_stage r n.parameter Ready)) its.is

    same_state : state_of new left ≡ with_stage (record (state_of old notices) { notices = left }) n.rule known.rule n.parameter Ready
    same_state = λ i. record {
      store = store i;
      rules = new_rules i;
      next_rule = next_rule i;
      tasks = mapped bare_task (tasks i).tasks;
      next_task = next_task i;
      frames = mapped bare_frame (running_tasks i).tasks;
      notices = left;
      outputs = map (λ (right : Right). right.id) (outputs i);
    }

    came : step verified.program layout (Deliver server n.datum n.rule n.parameter) (state_of old notices) ≡ Went (with_stage (record (state_of old notices) { notices = left }) n.rule known.rule n.parameter Ready)
    came =
        let low : nat_lt server layout.servers ≡ true = grind (arith, nat_tests, h.servers) in
        let own : nat_eq (server_of layout.servers n.datum) server ≡ true = let e = ap (λ k. server_of k n.datum) (sym h.servers) ∙ notes.own old.store.queues notices h.queued server inside n rest is in grind (arith, nat_tests, e) in
        deliver_goes verified.program layout server n (state_of old notices) known.rule low own (notes.has old.store.queues notices h.queued server inside n rest is) known.is

    pub delivers : Succeeds verified layout (Deliver server n.datum n.rule n.parameter) old notices new
    delivers = goes_to verified layout old notices h (Deliver server n.datum n.rule n.parameter) new left _ came same_state
        (subst (λ qs. AreQueued qs left) (sym queues) (notes.taken old.store.queues notices h.queued server inside n rest is))
        (ap length queues ∙ length-set old.store.queues server rest ∙ h.servers)
        (queues ∙ ap (λ q. set old.store.queues server (drop 1 q)) (sym is))
        (ap (λ (r : RunningView). r.layout) running_tasks) fit_is (λ actor other. ap (λ (r : RunningView). get r.tasks actor) running_tasks)
      where
        staged_fit : RightsFit verified old.store.places old.running_tasks.tasks old.tasks.tasks (staged old.rules.rules n.rule n.parameter Ready) old.outputs
        staged_fit = subst (λ rs. RightsFit verified old.store.places old.running_tasks.tasks old.tasks.tasks rs old.outputs) (sym (staged_is old.rules.rules n.rule its.x n.parameter Ready its.there))
            (fit_staged verified old.store.places old.running_tasks.tasks old.tasks.tasks old.rules.rules old.outputs h.rights_fit n.rule its.x n.parameter Ready its.there)

        fit_is : RightsFit verified new.store.places new.running_tasks.tasks new.tasks.tasks new.rules.rules new.outputs
        fit_is = rw (places, running_tasks, tasks, rules, outputs) staged_fit
