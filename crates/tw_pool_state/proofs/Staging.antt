-- An engine asks: on the parts.
use Rattle.std.proofs.Common.{map, length, ◌≡◌, ℕ, zero, suc, true, false, if◌then◌else◌, List, [], ◌∷◌, Some, None, refl, sym, ap, subst, ◌∙◌, slice_get, option_map}
use Rattle.tw_pool_state.proofs.PartNames.{ActorCounts, AreParts, AreQueued, Arg, ArgMatches, ArgsMatch, Ask, Datum, Engine, IsAskOfOpen, IsAt, IsHeld, IsOwn, IsUnaskedAt, Mode, Notices, Param, Parts, Places, Read, Ready, Right, RightArg, RightsFit, Rule, RuleArgsFit, RunningView, Stage, Store, Succeeds, TypedProgram, Unasked, Val, Waiting, Went, Write, ask_found, at_stage, bare_arg, bare_frame, bare_rule, bare_task, closed_by, entries, get, insert, is_closed, is_closed_mode, is_settled, is_val, mapped, next_ask, next_ask_mapped, own_rule_there, params_in, params_of, right_of, same_Some, state_of, subscribed, typings_of, with_stage}
use Rattle.tw_types.specs.declared.param.Mode.TheVariants as mode
use Rattle.tw_rules.specs.Table.{right_at, stage_at, staged}
use Rattle.tw_code.specs.machine.Machine.{asked, step}
use Rattle.tw_soundness.specs.InOrder.{is_asked_for}
use Rattle.tw_soundness.proofs.Wanted.{asked_is_there}
use Rattle.tw_pool_state.proofs.Delivers.{staged_bare, staged_is}
use Rattle.tw_pool_state.proofs.Fitting.{IsImage, image_of, seen, fit_staged}
use Rattle.tw_pool_state.proofs.Law.{goes_to, held}

-- ---- the argument of an ask is a read right

pub record Reads (places : Places) (args : List Arg) (k : ℕ) : Type 0 where
  pub right : Right
  pub there : slice_get args k ≡ Some (Read right)
  pub here : IsAt places right

closed_reads : (places : Places) (p : Param) (arg : Arg) → is_closed_mode p.mode ≡ true → ArgMatches places (right_of p) arg → (right : Right) × (arg ≡ Read right) × IsAt places right
closed_reads places p arg closed fits_place = by p.mode arg closed fits_place
  where
    by : (m : Mode) (arg : Arg) → is_closed_mode m ≡ true → ArgMatches places (if is_val m then None else Some (record { mode = m; ty = p.ty })) arg → (right : Right) × (arg ≡ Read right) × IsAt places right
    by mode.Val arg closed fits_place = cc
    by mode.Closed (Val x) closed fits_place = absurd fits_place
    by mode.Closed (Read right) closed fits_place = (right, refl, fits_place.1)
    by mode.Closed (Write right) closed fits_place = let no = fits_place.0 in cc
    by mode.Ref arg closed fits_place = cc
    by mode.Write arg closed fits_place = cc

pub asked_reads : (s : Store) (places : Places) (params : List Param) (stages : List Stage) (args : List Arg) (k : ℕ) → RuleArgsFit s params stages (map bare_arg args) → ArgsMatch places params args → slice_get stages k ≡ Some Unasked → Reads places args k
asked_reads s places [] [] args k fit fits_place at = cc
asked_reads s places [] (stage ∷ stages) args k fit fits_place at = absurd fit
asked_reads s places (p ∷ params) [] args k fit fits_place at = absurd fit
asked_reads s places (p ∷ params) (stage ∷ stages) [] k fit fits_place at = absurd fit
asked_reads s places (p ∷ params) (stage ∷ stages) (arg ∷ args) zero fit fits_place at =
    let closed : is_closed_mode p.mode ≡ true = sym fit.0 ∙ ap is_asked_for (same_Some stage Unasked at) in
    let it = closed_reads places p arg closed fits_place.0 in
    record { right = it.0; there = ap Some it.1; here = it.2 }
asked_reads s places (p ∷ params) (stage ∷ stages) (arg ∷ args) (suc k) fit fits_place at =
    let it = asked_reads s places params stages args k fit.2 fits_place.1 at in
    record { right = it.right; there = it.there; here = it.here }

-- ---- the next ask of an engine

module _ (verified : TypedProgram) (layout : ActorCounts) (old : Parts) (notices : Notices) (h : AreParts verified layout old notices)
    (engine number parameter : ℕ) (due : next_ask engine old.rules.rules ≡ Some (number, parameter)) where
  held_there : IsHeld verified.program (typings_of verified) (state_of old notices)
  held_there = held verified layout old notices h

  pub found : IsOwn engine (IsUnaskedAt parameter) number (entries (mapped bare_rule old.rules.rules))
  found = ask_found engine number parameter (mapped bare_rule old.rules.rules) (next_ask_mapped bare_arg engine old.rules.rules ∙ due)

  pub pending : get (mapped bare_rule old.rules.rules) number ≡ Some found.rule
  pending = own_rule_there engine (IsUnaskedAt parameter) number (mapped bare_rule old.rules.rules) found

  pub its : IsImage bare_rule old.rules.rules number found.rule
  its = image_of bare_rule old.rules.rules number found.rule pending

  stage_there : slice_get its.x.stages parameter ≡ Some Unasked
  stage_there = ap (λ (r : Rule). slice_get r.stages parameter) its.is ∙ found.has

  pub reads : Reads old.store.places its.x.args parameter
  reads =
      let p = held_there.types.procedures.rules number found.rule pending in
      let fit = held_there.types.rules number found.rule p.0 pending p.1 in
      let same_procedure : its.x.procedure ≡ found.rule.procedure = ap (λ (r : Rule). r.procedure) its.is in
      let params : params_of verified.program its.x.procedure ≡ p.0.params = ap (params_of verified.program) same_procedure ∙ ap params_in p.1 in
      asked_reads old.store.store old.store.places p.0.params its.x.stages its.x.args parameter
      (subst (λ (r : Rule). RuleArgsFit old.store.store p.0.params r.stages r.args) (sym its.is) fit)
      (subst (λ ps. ArgsMatch old.store.places ps its.x.args) params (h.rights_fit.rules number its.x its.there))
      stage_there

  pub right_is : right_at old.rules.rules number parameter ≡ Some reads.right
  right_is = let e = reads.there in rw (its.there, e) refl

  pub stage_is : stage_at old.rules.rules number parameter ≡ Some Unasked
  stage_is = let e = stage_there in rw (its.there) e

  pub unsettled : option_map is_settled (stage_at old.rules.rules number parameter) ≡ Some false
  unsettled = ap (option_map is_settled) stage_is

  arg_there : slice_get found.rule.args parameter ≡ Some (RightArg reads.right.id)
  arg_there = ap (λ (r : Rule). slice_get r.args parameter) (sym its.is) ∙ seen_at its.x.args parameter (Read reads.right) reads.there
    where
      seen_at : (args : List Arg) (k : ℕ) (a : Arg) → slice_get args k ≡ Some a → slice_get (map bare_arg args) k ≡ Some (bare_arg a)
      seen_at [] k a e = cc
      seen_at (x ∷ args) zero a e = ap (option_map bare_arg) e
      seen_at (x ∷ args) (suc k) a e = seen_at args k a e

  pub live : (x : Datum) × (get old.store.store.live reads.right.id ≡ Some x)
  live = asked_is_there verified.program (typings_of verified) (state_of old notices) held_there.types held_there.counts number found.rule parameter reads.right.id Unasked pending found.has refl arg_there

  -- if it is open, it is open in the state
  pub asks_open : closed_by (get old.store.store.live reads.right.id) ≡ false → (ns : Notices) → IsAskOfOpen (state_of old ns) number parameter
  asks_open e ns = record { rule = found.rule; pends = pending; id = reads.right.id; asks = arg_there; x = live.0; live = live.1; not_closed = sym (ap closed_by live.1) ∙ e }

  module _ (free : get old.running_tasks.tasks (Engine engine) ≡ None) where
    goes : step verified.program layout (Ask engine number parameter) (state_of old notices) ≡ Went (asked (state_of old notices) number found.rule parameter reads.right.id live.0)
    unfolding step
    goes =
        let none : get (mapped bare_frame old.running_tasks.tasks) (Engine engine) ≡ None = seen bare_frame old.running_tasks.tasks (Engine engine) None free in
        let own = found.own in
        let has = found.has in
        let arg = arg_there in
        let there = live.1 in
        rw (none, pending, own, has, arg, there) refl

    module _ (new : Parts) (stage : Stage) (s : Store)
        (leads : asked (state_of old notices) number found.rule parameter reads.right.id live.0 ≡ with_stage (record (state_of old notices) { store = s }) number found.rule parameter stage)
        (store : new.store.store ≡ s) (places : new.store.places ≡ old.store.places) (queues : new.store.queues ≡ old.store.queues)
        (rules : new.rules.rules ≡ staged old.rules.rules number parameter stage) (next_rule : new.rules.next ≡ old.rules.next)
        (tasks : new.tasks ≡ old.tasks) (next_task : new.next_task ≡ old.next_task) (running_tasks : new.running_tasks ≡ old.running_tasks) (outputs : new.outputs ≡ old.outputs) where
      pub new_rules : mapped bare_rule new.rules.rules ≡ insert (mapped bare_rule old.rules.rules) number (at_stage found.rule parameter stage)
      new_rules = ap (mapped bare_rule) rules ∙ staged_bare old.rules.rules number its.x parameter stage its.there ∙ ap (λ r. insert (mapped bare_rule old.rules.rules) number (at_stage r parameter stage)) its.is

      same_state : state_of new notices ≡ with_stage (record (state_of old notices) { store = s }) number found.rule parameter stage
      same_state = λ i. record {
        store = store i;
        rules = new_rules i;
        next_rule = next_rule i;
        tasks = mapped bare_task (tasks i).tasks;
        next_task = next_task i;
        frames = mapped bare_frame (running_tasks i).tasks;
        notices = notices;
        outputs = map (λ (right : Right). right.id) (outputs i);
      }

      pub asks : Succeeds verified layout (Ask engine number parameter) old notices new
      asks = goes_to verified layout old notices h (Ask engine number parameter) new notices _ (goes ∙ ap Went leads) same_state
          (subst (λ qs. AreQueued qs notices) (sym queues) h.queued) (ap length queues ∙ h.servers) queues (ap (λ (r : RunningView). r.layout) running_tasks) fit_is (λ actor other. ap (λ (r : RunningView). get r.tasks actor) running_tasks)
        where
          staged_fit : RightsFit verified old.store.places old.running_tasks.tasks old.tasks.tasks (staged old.rules.rules number parameter stage) old.outputs
          staged_fit = subst (λ rs. RightsFit verified old.store.places old.running_tasks.tasks old.tasks.tasks rs old.outputs) (sym (staged_is old.rules.rules number its.x parameter stage its.there))
              (fit_staged verified old.store.places old.running_tasks.tasks old.tasks.tasks old.rules.rules old.outputs h.rights_fit number its.x parameter stage its.there)

          fit_is : RightsFit verified new.store.places new.running_tasks.tasks new.tasks.tasks new.rules.rules new.outputs
          fit_is = rw (places, running_tasks, tasks, rules, outputs) staged_fit

    -- the results in both cases
    pub closed_leads : closed_by (get old.store.store.live reads.right.id) ≡ true → asked (state_of old notices) number found.rule parameter reads.right.id live.0 ≡ with_stage (record (state_of old notices) { store = old.store.store }) number found.rule parameter Ready
    closed_leads e = let c : is_closed live.0 ≡ true = sym (ap closed_by live.1) ∙ e in rw c refl

    pub open_leads : closed_by (get old.store.store.live reads.right.id) ≡ false
        → asked (state_of old notices) number found.rule parameter reads.right.id live.0 ≡ with_stage (record (state_of old notices) { store = subscribed old.store.store reads.right.id (record { rule = number; parameter = parameter }) }) number found.rule parameter Waiting
    open_leads e = let c : is_closed live.0 ≡ false = sym (ap closed_by live.1) ∙ e in rw c refl
