-- An actor takes a task: on the parts.
use Rattle.std.proofs.Common.{map as each, ◌≡◌, ◌-◌, ℕ, zero, suc, true, List, [], ◌∷◌, ◌++◌, Option, Some, None, Result, Ok, Err, refl, sym, ap, subst, ◌∙◌, slice_get, option_map, length, replicate, option_to_list}
use Rattle.tw_pool_state.proofs.PartNames.{Actor, ActorCounts, AreParts, ArePlaced, Arg, ArgMatches, ArgsMatch, Begins, Cause, FrameFits, FrameView, IsBegun, IsHeld, IsTaken, JobView, MayBeAt, MayStart, Notices, Param, Parts, Places, Procedure, Read, Right, RightType, RightsFit, StartsAsMachine, Succeeds, Take, TaskOf, TasksByActor, TasksOf, Trap, TypedProgram, Val, Value, Went, Write, actor_cmp-IsAntisymmetric, actor_cmp_total, bare_arg, bare_file, bare_frame, bare_rule, bare_task, best, best_mapped, best_waits, entry_by, filed, first_rights, frame_of, get, insert, insert_mapped, is_in, is_write, kinds_in, mapped, nat_cmp-IsAntisymmetric, nat_cmp_total, params_in, remove, remove_mapped, right_of, rights_given, rights_in, safe, started, state_of, typed_at_start, typings_of, with_frame, with_running}
use Rattle.tw_code.specs.machine.Machine.{step}
use Rattle.tw_frame.proofs.Frames.{first_each}
use Rattle.tw_rights.specs.Kinds.{writes}
use Rattle.tw_pool_state.proofs.Fitting.{seen, fit_by_actor, fit_without}
use Rattle.tw_pool_state.proofs.Law.{goes_to, held}
use Rattle.tw_pool_state.proofs.Goings.{may_be_at}
use Rattle.tw_pool_state.proofs.Runners.{get_other, get_own}

-- ---- the first registers

kinds_given : (places : Places) (params : List Param) (args : List Arg) → ArgsMatch places params args → each writes (rights_in args) ≡ each (λ (t : RightType). is_write t.mode) (rights_given params)
kinds_given places [] [] h = refl
kinds_given places [] (arg ∷ args) h = absurd h
kinds_given places (p ∷ params) [] h = absurd h
kinds_given places (p ∷ params) (arg ∷ args) h = by (right_of p) arg h.0 (kinds_given places params args h.1)
  where
    by : (o : Option RightType) (arg : Arg) → ArgMatches places o arg → each writes (rights_in args) ≡ each (λ (t : RightType). is_write t.mode) (rights_given params)
        → each writes (rights_in (arg ∷ args)) ≡ each (λ (t : RightType). is_write t.mode) (option_to_list o ++ rights_given params)
    by None (Val x) s rest = rest
    by None (Read right) s rest = absurd s
    by None (Write right) s rest = absurd s
    by (Some t) (Val x) s rest = absurd s
    by (Some t) (Read right) s rest = ap (λ b. b ∷ each writes (rights_in args)) (sym s.0) ∙ ap (λ xs. is_write t.mode ∷ xs) rest
    by (Some t) (Write right) s rest = ap (λ b. b ∷ each writes (rights_in args)) (sym s.0) ∙ ap (λ xs. is_write t.mode ∷ xs) rest

none_placed : (places : Places) (n : ℕ) → ArePlaced places (replicate n None)
none_placed places zero = tt
none_placed places (suc n) = (tt, none_placed places n)

placed_given : (places : Places) (params : List Param) (args : List Arg) (n : ℕ) → ArgsMatch places params args → ArePlaced places (each Some (rights_in args) ++ replicate n None)
placed_given places [] [] n h = none_placed places n
placed_given places [] (arg ∷ args) n h = absurd h
placed_given places (p ∷ params) [] n h = absurd h
placed_given places (p ∷ params) (arg ∷ args) n h = by (right_of p) arg h.0 (placed_given places params args n h.1)
  where
    by : (o : Option RightType) (arg : Arg) → ArgMatches places o arg → ArePlaced places (each Some (rights_in args) ++ replicate n None) → ArePlaced places (each Some (rights_in (arg ∷ args)) ++ replicate n None)
    by None (Val x) s rest = rest
    by None (Read right) s rest = absurd s
    by None (Write right) s rest = absurd s
    by (Some t) (Val x) s rest = absurd s
    by (Some t) (Read right) s rest = (s.1, rest)
    by (Some t) (Write right) s rest = (s.1, rest)

-- the result, whether a task has started or not
pub taken : {E : Type 0} (verified : TypedProgram) (actor : Actor) (event_no : ℕ) (old : TasksByActor) (waiting : TasksOf Arg) (new : TasksByActor) (left : TasksOf Arg) (Made : ℕ × TaskOf Arg → JobView → Type 0) (Same : Type 0)
    (r : Result (Option JobView) E) → IsBegun verified actor event_no old waiting new left r → ((job : JobView) (b : Begins verified actor event_no old waiting new left job) → Made b.e job) → (new ≡ old → left ≡ waiting → Same)
    → IsTaken (best actor waiting) Made Same r
taken verified actor event_no old waiting new left Made Same (Ok None) b made same = (b.0, same b.1 b.2)
taken verified actor event_no old waiting new left Made Same (Ok (Some job)) b made same = (b.e, b.due, made job b)
taken verified actor event_no old waiting new left Made Same (Err e) b made same = (b.0, same b.1 b.2)

-- ---- the task that is taken

module _ (verified : TypedProgram) (layout : ActorCounts) (old : Parts) (notices : Notices) (h : AreParts verified layout old notices)
    (actor : Actor) (there : is_in layout actor ≡ true) (free : get old.running_tasks.tasks actor ≡ None) (e : ℕ × TaskOf Arg) (due : best actor old.tasks.tasks ≡ Some e) where
  law : IsHeld verified.program (typings_of verified) (state_of old notices)
  law = held verified layout old notices h

  waits : get old.tasks.tasks e.0 ≡ Some e.1
  waits = best_waits actor old.tasks.tasks e due

  bare_waits : get (mapped bare_task old.tasks.tasks) e.0 ≡ Some (bare_task e.1)
  bare_waits = seen bare_task old.tasks.tasks e.0 (Some e.1) waits

  bare_due : best actor (mapped bare_task old.tasks.tasks) ≡ Some (entry_by bare_task e)
  bare_due = best_mapped bare_arg actor old.tasks.tasks ∙ ap (option_map (entry_by bare_task)) due

  none : get (mapped bare_frame old.running_tasks.tasks) actor ≡ None
  none = seen bare_frame old.running_tasks.tasks actor None free

  pub procedure : (p : Procedure) × (slice_get verified.program e.1.procedure ≡ Some p)
  procedure = law.types.procedures.tasks e.0 (bare_task e.1) bare_waits

  trapped : (why : Cause) → started e.1.args procedure.0.registers ≡ Err why → step verified.program layout (Take actor) (state_of old notices) ≡ Trap why
  unfolding step
  trapped why err = let n = none in let d = bare_due in let p = procedure.1 in rw (there, n, d, p, err) refl

  values : (xs : List Value) × (started e.1.args procedure.0.registers ≡ Ok xs)
  values = by (started e.1.args procedure.0.registers) refl
    where
      by : (o : Result (List Value) Cause) → started e.1.args procedure.0.registers ≡ o → (xs : List Value) × (started e.1.args procedure.0.registers ≡ Ok xs)
      by (Ok xs) ok = (xs, ok)
      by (Err why) err = absurd ((safe verified.program (typings_of verified) h.runnable.is h.runnable.right layout (state_of old notices) law).no_trap (Take actor) why (trapped why err))

  pub may_start : MayStart verified.program e.1.procedure e.1.args
  may_start = record { p = procedure.0; here = procedure.1; values = values.0; starts = values.1 }

  module _ (own : List Value) (starts : (p : Procedure) → slice_get verified.program e.1.procedure ≡ Some p → started e.1.args p.registers ≡ Ok own)
      (machine : StartsAsMachine verified.program e.0 e.1.procedure e.1.args own (record { task = e.0; procedure = e.1.procedure; position = record { place = 0; values = own; loops = [] }; rights = bare_file (filed (rights_in e.1.args)); spent = 0 })) where
    abbrev pub begun : FrameView
    begun = record { program = verified; task = e.0; procedure = e.1.procedure; actor = actor; event_no = 0; position = record { place = 0; values = own; loops = [] }; held = filed (rights_in e.1.args); spent = 0 }

    begins : frame_of verified.program e.0 (bare_task e.1) ≡ Ok (bare_frame begun)
    begins = machine (bare_task e.1) procedure.0 refl refl procedure.1 (starts procedure.0 procedure.1)

    goes : step verified.program layout (Take actor) (state_of old notices) ≡ Went (with_frame (record (state_of old notices) { tasks = remove (mapped bare_task old.tasks.tasks) e.0 }) actor (bare_frame begun))
    unfolding step
    goes = let n = none in let d = bare_due in let b = begins in rw (there, n, d, b) refl

    fits_place : ArgsMatch old.store.places procedure.0.params e.1.args
    fits_place = subst (λ ps. ArgsMatch old.store.places ps e.1.args) (ap params_in procedure.1) (h.rights_fit.tasks e.0 e.1 waits)

    fits : (event_no : ℕ) → FrameFits verified old.store.places actor (record begun { event_no = event_no })
    fits event_no = record {
      program = refl;
      own = refl;
      placed = placed_given old.store.places procedure.0.params e.1.args (16 - length (rights_in e.1.args)) fits_place;
      kinds = first_each writes (rights_in e.1.args) ∙ ap first_rights (kinds_given old.store.places procedure.0.params e.1.args fits_place)
          ∙ sym (first_each (λ (t : RightType). is_write t.mode) (rights_given procedure.0.params))
          ∙ ap kinds_in (sym (typed_at_start verified.program (typings_of verified) h.runnable.is h.runnable.right e.1.procedure procedure.0 procedure.1));
    }

    module _ (event_no : ℕ) (new : Parts) (tasks : new.tasks.tasks ≡ remove old.tasks.tasks e.0) (running_tasks : new.running_tasks.tasks ≡ insert old.running_tasks.tasks actor (record begun { event_no = event_no })) (layout_is : new.running_tasks.layout ≡ old.running_tasks.layout) (store : new.store ≡ old.store) (rules : new.rules ≡ old.rules) (next_task : new.next_task ≡ old.next_task) (outputs : new.outputs ≡ old.outputs) where
      same_state : state_of new notices ≡ with_frame (record (state_of old notices) { tasks = remove (mapped bare_task old.tasks.tasks) e.0 }) actor (bare_frame begun)
      same_state = λ i. record {
        store = (store i).store;
        rules = mapped bare_rule (rules i).rules;
        next_rule = (rules i).next;
        tasks = (ap (mapped bare_task) tasks ∙ remove_mapped bare_task nat_cmp_total nat_cmp-IsAntisymmetric old.tasks.tasks e.0) i;
        next_task = next_task i;
        frames = (ap (mapped bare_frame) running_tasks ∙ insert_mapped bare_frame actor_cmp_total actor_cmp-IsAntisymmetric old.running_tasks.tasks actor (record begun { event_no = event_no })) i;
        notices = notices;
        outputs = each (λ (right : Right). right.id) (outputs i);
      }

      pub takes : Succeeds verified layout (Take actor) old notices new
      takes = goes_to verified layout old notices h (Take actor) new notices _ goes same_state (rw store h.queued) (rw store h.servers) (rw store refl) layout_is fit_is
          (λ other apart. ap (λ m. get m other) running_tasks ∙ get_other old.running_tasks.tasks actor (record begun { event_no = event_no }) other apart)
        where
          without_it : RightsFit verified old.store.places old.running_tasks.tasks (remove old.tasks.tasks e.0) old.rules.rules old.outputs
          without_it = fit_without verified old.store.places old.running_tasks.tasks old.tasks.tasks old.rules.rules old.outputs h.rights_fit e.0

          fit_is : RightsFit verified new.store.places new.running_tasks.tasks new.tasks.tasks new.rules.rules new.outputs
          fit_is = rw (store, running_tasks, tasks, rules, outputs) (fit_by_actor verified old.store.places old.running_tasks.tasks (remove old.tasks.tasks e.0) old.rules.rules old.outputs without_it actor (record begun { event_no = event_no }) (fits event_no))

    -- it may run from there
    pub begun_fits : MayBeAt verified.program e.1.procedure begun.position
    begun_fits = let g = takes 0 next refl refl refl refl refl refl refl in may_be_at verified layout next g.left g.parts actor begun (get_own old.running_tasks.tasks actor begun)
      where
        next : Parts
        next = record old { tasks = record old.tasks { tasks = remove old.tasks.tasks e.0 }; running_tasks = with_running old.running_tasks actor begun }
