-- A program is opened: on the parts.
use Rattle.std.proofs.Common.{map as each, ◌≡◌, ℕ, pos, zero, suc, false, List, [], ◌∷◌, Some, None, refl, sym, ap, subst, ◌∙◌, length, replicate}
use Rattle.tw_pool_state.proofs.PartNames.{ActorCounts, AreApart, AreAt, AreInputsOf, AreQueued, Arg, ArgsMatch, Control, HasTargets, Input, IsLayout, IsMade, IsOpening, IsProgram, IsReached, MainWaits, Notice, OpenedParts, Parts, Places, Procedure, Right, RightsFit, RunningView, Served, TaskOf, Tasks, TypedProgram, Went, actor_cmp, bare_frame, bare_rule, bare_task, empty_mapped, get-empty, insert, insert_mapped, is_among, length-replicate, mapped, nat_cmp, nat_cmp-IsAntisymmetric, nat_cmp_total, notice_cmp, params_of, queue_at, server_of, state_of, typings_of}
use Rattle.std.specs.FinMap as fin
use Rattle.std.specs.FinSet as set
use Rattle.std.specs.FinSet.{contains-empty}
use Rattle.tw_code.specs.machine.Machine.{run}
use Rattle.tw_code.specs.machine.Opening.{main_params, main_task, nothing_opened, opened, opening}
use Rattle.tw_soundness.specs.NoTrap.{AreRight}
use Rattle.tw_pool_state.proofs.Fitting.{fit_put}

-- ---- no notices

abbrev quiet : ℕ → List (List Notice)
quiet n = replicate n []

none_at : (n k : ℕ) → queue_at (quiet n) k ≡ []
none_at zero k = refl
none_at (suc n) zero = refl
none_at (suc n) (suc k) = none_at n k

none_queued : (n : ℕ) → AreQueued (quiet n) set.empty
none_queued n = record {
  all = λ m. contains-empty notice_cmp m ∙ sym (ap (is_among m) (none_at n (server_of (length (quiet n)) m.datum)));
  own = λ k m there. let no : is_among m (queue_at (quiet n) k) ≡ false = ap (is_among m) (none_at n k) in cc;
  apart = λ k. subst AreApart (sym (none_at n k)) tt;
}

-- ---- main waits

main_is : (program : List Procedure) → params_of program 0 ≡ main_params program
main_is [] = refl
main_is (main ∷ others) = refl

nothing_fits : (verified : TypedProgram) (places : Places) (given : List Right) → AreAt places given → RightsFit verified places fin.empty fin.empty fin.empty given
nothing_fits verified places given h = record {
  frames = λ actor f there. let none : None ≡ Some f = sym (get-empty actor_cmp actor) ∙ there in cc;
  tasks = λ number t there. let none : None ≡ Some t = sym (get-empty nat_cmp number) ∙ there in cc;
  rules = λ number r there. let none : None ≡ Some r = sym (get-empty nat_cmp number) ∙ there in cc;
  outputs = h;
}

module _ (verified : TypedProgram) (inputs : List Input) (layout : ActorCounts) (o : OpenedParts) (p : Parts)
    (made : IsMade layout.servers (main_params verified.program) o (opened nothing_opened (main_params verified.program) inputs)) (waits : MainWaits (record { layout = layout; tasks = fin.empty }) o p) where
  abbrev main : TaskOf Arg
  main = record { kind = Control; procedure = 0; priority = pos 0; target = None; args = o.args }

  tasks_are : mapped bare_task p.tasks.tasks ≡ insert fin.empty 1 (main_task (opened nothing_opened (main_params verified.program) inputs).rights)
  tasks_are = ap (mapped bare_task) waits.tasks ∙ insert_mapped bare_task nat_cmp_total nat_cmp-IsAntisymmetric fin.empty 1 main
      ∙ ap (λ (m : Tasks). insert m 1 (bare_task main)) (empty_mapped bare_task)
      ∙ ap (λ list. insert fin.empty 1 (record { kind = Control; procedure = 0; priority = pos 0; target = None; args = list })) made.args

  same_state : state_of p set.empty ≡ opening verified.program inputs
  unfolding opening
  same_state = λ i. record {
    store = (ap (λ (s : Served). s.store) waits.store ∙ made.store) i;
    rules = (ap (mapped bare_rule) waits.rules ∙ empty_mapped bare_rule) i;
    next_rule = waits.next_rule i;
    tasks = tasks_are i;
    next_task = waits.next_task i;
    frames = (ap (λ (r : RunningView). mapped bare_frame r.tasks) waits.running_tasks ∙ empty_mapped bare_frame) i;
    notices = set.empty;
    outputs = (ap (each (λ (r : Right). r.id)) waits.outputs ∙ made.outputs) i;
  }

  queues_are : p.store.queues ≡ replicate layout.servers []
  queues_are = ap (λ (s : Served). s.queues) waits.store ∙ made.queues

  fits_place : RightsFit verified p.store.places p.running_tasks.tasks p.tasks.tasks p.rules.rules p.outputs
  fits_place =
      let s = waits.store in
      let running_tasks = waits.running_tasks in
      let tasks = waits.tasks in
      let rules = waits.rules in
      let outputs = waits.outputs in
      let args : ArgsMatch o.store.places (params_of verified.program 0) o.args = subst (λ ps. ArgsMatch o.store.places ps o.args) (sym (main_is verified.program)) made.rights_fit in
      rw (s, running_tasks, tasks, rules, outputs) (fit_put verified o.store.places fin.empty fin.empty fin.empty o.outputs (nothing_fits verified o.store.places o.outputs made.outputs_at) 1 main args)

  reached_is : AreInputsOf verified.program inputs → IsReached verified.program layout (state_of p set.empty)
  unfolding run
  reached_is given = record { inputs = inputs; given = given; history = []; replays = ap Went (sym same_state) }

  pub is_opening : IsProgram verified.program → AreRight verified.program (typings_of verified) → IsLayout layout → HasTargets verified.program layout → AreInputsOf verified.program inputs → IsOpening verified inputs layout p
  is_opening is right counts targets given = record {
    state = same_state;
    parts = record {
      runnable = record { is = is; right = right; counts = counts; targets = targets };
      law = reached_is given;
      queued = subst (λ qs. AreQueued qs set.empty) (sym queues_are) (none_queued layout.servers);
      servers = ap length queues_are ∙ length-replicate layout.servers [];
      layout_is = ap (λ (r : RunningView). r.layout) waits.running_tasks;
      rights_fit = fits_place;
    };
    nobody = ap (λ (r : RunningView). r.tasks) waits.running_tasks;
  }
