-- Ask, Deliver and Release keep numbers, types and counts, and don't trap.
use Rattle.std.proofs.Common.{◌≡◌, ℕ, zero, suc, Bool, true, false, if◌then◌else◌, List, [], ◌∷◌, slice_get, slice_set, Option, Some, None, refl, sym, ap, subst, ◌∙◌, arith, inl, inr, nat_cmp}
use Rattle.tw_soundness.proofs.MachineNames.{Arg, ArgFits, ArgsFit, CountsHeld, Datum, Free, HasWriters, Notices, NumbersHeld, Param, Procedure, Ready, Ref, RightArg, RightType, Rule, RuleArgsFit, Stage, State, Store, Subscriber, Task, TypesHeld, Typings, Unasked, ValueArg, Waiting, and_parts, at_stage, balanced_same, balanced_some, before_removal, get, insert, is_asked_for, is_closed, is_settled, is_val, list_all, nat_cmp-IsAntisymmetric, nat_cmp_total, put_balanced, put_or_before, reads_of, remove, right_of, right_until, rule_reads, rule_writes, same_Some, task_from, task_reads, task_writes, typing_of, with_stage, with_subscriber, with_task, writes_of}
use Rattle.tw_soundness.proofs.Aging.{Aged, later_put}
use Rattle.tw_soundness.proofs.Registers.{Undisturbed, holds_undisturbed, rights_kept, later_undisturbed, later_store}
use Rattle.tw_soundness.proofs.Sums.{sum_apart, sum_new, sum_replaced}

-- ---- arguments in another store

pub arg_kept : (s t : Store) → Undisturbed s t → (p : Param) (o : Option RightType) (arg : Arg) → ArgFits s p o arg → ArgFits t p o arg
arg_kept s t u p None (ValueArg x) h = h
arg_kept s t u p None (RightArg id) h = h
arg_kept s t u p (Some right) (ValueArg x) h = h
arg_kept s t u p (Some right) (RightArg id) h = holds_undisturbed s t u right id h

pub args_kept : (s t : Store) → Undisturbed s t → (params : List Param) (args : List Arg) → ArgsFit s params args → ArgsFit t params args
args_kept s t u [] [] h = h
args_kept s t u [] (arg ∷ args) h = h
args_kept s t u (p ∷ params) [] h = h
args_kept s t u (p ∷ params) (arg ∷ args) h = (arg_kept s t u p (right_of p) arg h.0, args_kept s t u params args h.1)

pub rule_args_kept : (s t : Store) → Undisturbed s t → (params : List Param) (stages : List Stage) (args : List Arg) → RuleArgsFit s params stages args → RuleArgsFit t params stages args
rule_args_kept s t u [] [] [] h = h
rule_args_kept s t u [] [] (arg ∷ args) h = h
rule_args_kept s t u [] (stage ∷ stages) args h = h
rule_args_kept s t u (p ∷ params) [] args h = h
rule_args_kept s t u (p ∷ params) (stage ∷ stages) [] h = h
rule_args_kept s t u (p ∷ params) (stage ∷ stages) (arg ∷ args) h = (h.0, arg_kept s t u p (right_until stage p) arg h.1, rule_args_kept s t u params stages args h.2)

-- ---- a stage of a rule changes

-- an argument that is as the new stage says takes it
pub fit_staged : (s : Store) (params : List Param) (stages : List Stage) (args : List Arg) (k : ℕ) (old stage : Stage) → RuleArgsFit s params stages args → slice_get stages k ≡ Some old → is_asked_for stage ≡ is_asked_for old
    → ((p : Param) (arg : Arg) → slice_get args k ≡ Some arg → ArgFits s p (right_until old p) arg → ArgFits s p (right_until stage p) arg) → RuleArgsFit s params (slice_set stages k stage) args
fit_staged s [] [] [] k old stage h at asked f = cc
fit_staged s [] [] (arg ∷ args) k old stage h at asked f = absurd h
fit_staged s [] (first ∷ stages) args k old stage h at asked f = absurd h
fit_staged s (p ∷ params) [] args k old stage h at asked f = absurd h
fit_staged s (p ∷ params) (first ∷ stages) [] k old stage h at asked f = absurd h
fit_staged s (p ∷ params) (first ∷ stages) (arg ∷ args) zero old stage h at asked f =
    let first_is : first ≡ old = same_Some first old at in
    (asked ∙ ap is_asked_for (sym first_is) ∙ h.0, f p arg refl (subst (λ (z : Stage). ArgFits s p (right_until z p) arg) first_is h.1), h.2)
fit_staged s (p ∷ params) (first ∷ stages) (arg ∷ args) (suc k) old stage h at asked f = (h.0, h.1, fit_staged s params stages args k old stage h.2 at asked f)

-- a closed datum is held by a closed read
pub made_ready : (s : Store) (p : Param) (stage : Stage) (id : ℕ) → right_until stage p ≡ (if is_val p.mode then None else Some (record { mode = Ref; ty = p.ty })) → ((x : Datum) → get s.live id ≡ Some x → is_closed x ≡ true)
    → ArgFits s p (right_until stage p) (RightArg id) → ArgFits s p (right_of p) (RightArg id)
made_ready s p stage id is closed h = by (is_val p.mode) (subst (λ o. ArgFits s p o (RightArg id)) is h)
  where
    by : (b : Bool) → ArgFits s p (if b then None else Some (record { mode = Ref; ty = p.ty })) (RightArg id) → ArgFits s p (if b then None else Some (record { mode = p.mode; ty = p.ty })) (RightArg id)
    by true h = h
    by false h = record { given = h.given; ty = h.ty; closed = λ x at _. closed x at }

-- all settled is as a task's
pub settled_fit : (s : Store) (params : List Param) (stages : List Stage) (args : List Arg) → RuleArgsFit s params stages args → list_all is_settled stages ≡ true → ArgsFit s params args
settled_fit s [] [] [] h e = tt
settled_fit s [] [] (arg ∷ args) h e = absurd h
settled_fit s [] (stage ∷ stages) args h e = absurd h
settled_fit s (p ∷ params) [] args h e = absurd h
settled_fit s (p ∷ params) (stage ∷ stages) [] h e = absurd h
settled_fit s (p ∷ params) (stage ∷ stages) (arg ∷ args) h e =
    let both = and_parts (is_settled stage) (list_all is_settled stages) e in
    (one stage both.0 h.1, settled_fit s params stages args h.2 both.1)
  where
    one : (stage : Stage) → is_settled stage ≡ true → ArgFits s p (right_until stage p) arg → ArgFits s p (right_of p) arg
    one Free e f = f
    one Unasked e f = cc
    one Waiting e f = cc
    one Ready e f = f

module _ (program : List Procedure) (typings : Typings) where
  -- notices say nothing of types and counts
  pub types_noticed : (s : State) (n : Notices) → TypesHeld program typings s → TypesHeld program typings (record s { notices = n })
  types_noticed s n h = record { procedures = record { frames = h.procedures.frames; tasks = h.procedures.tasks; rules = h.procedures.rules }; store = h.store; values = h.values; rights = h.rights; args = h.args; rules = h.rules }

  pub counts_noticed : (s : State) (n : Notices) → CountsHeld program typings s → CountsHeld program typings (record s { notices = n })
  counts_noticed s n h = record { balanced = h.balanced; writers = h.writers }

  module _ (s : State) (number : ℕ) (rule : Rule) (is : get s.rules number ≡ Some rule) where
    -- ---- a stage, with the store as it is

    module _ (parameter : ℕ) (stage : Stage) where
      pub numbers_staged : NumbersHeld s → NumbersHeld (with_stage s number rule parameter stage)
      numbers_staged h = record {
        tasks = h.tasks;
        rules = λ m r at. elim (put_or_before nat_cmp_total nat_cmp-IsAntisymmetric s.rules number (at_stage rule parameter stage) m r at) [
          | inl e ↦ let l = h.rules number rule is in let m_is = e.0 in omega arith
          | inr old ↦ h.rules m r old
        ];
      }

      pub types_staged : TypesHeld program typings s → ((p : Procedure) → slice_get program rule.procedure ≡ Some p → RuleArgsFit s.store p.params (slice_set rule.stages parameter stage) rule.args)
          → TypesHeld program typings (with_stage s number rule parameter stage)
      types_staged h fit = record {
        procedures = record {
          frames = h.procedures.frames;
          tasks = h.procedures.tasks;
          rules = λ m r at. elim (put_or_before nat_cmp_total nat_cmp-IsAntisymmetric s.rules number (at_stage rule parameter stage) m r at) [
            | inl e ↦ let p = h.procedures.rules number rule is in (p.0, ap (λ (z : Rule). slice_get program z.procedure) (sym e.1) ∙ p.1)
            | inr old ↦ h.procedures.rules m r old
          ];
        };
        store = h.store;
        values = h.values;
        rights = h.rights;
        args = h.args;
        rules = λ m r q at there. elim (put_or_before nat_cmp_total nat_cmp-IsAntisymmetric s.rules number (at_stage rule parameter stage) m r at) [
          | inl e ↦ subst (λ (z : Rule). RuleArgsFit s.store q.params z.stages z.args) e.1 (fit q (ap (λ (z : Rule). slice_get program z.procedure) e.1 ∙ there))
          | inr old ↦ h.rules m r q old there
        ];
      }

      pub counts_staged : CountsHeld program typings s → CountsHeld program typings (with_stage s number rule parameter stage)
      counts_staged h = record {
        writers = h.writers;
        balanced = balanced_same s.store.live _ _ _ _ h.balanced (λ d.
            let a = sum_replaced nat_cmp nat_cmp_total nat_cmp-IsAntisymmetric (rule_reads program d) s.rules number rule (at_stage rule parameter stage) is in
            let b = sum_replaced nat_cmp nat_cmp_total nat_cmp-IsAntisymmetric (rule_writes program d) s.rules number rule (at_stage rule parameter stage) is in
            (omega arith, omega arith));
      }

    -- ---- a release: the rule becomes a task

    module _ (p : Procedure) (here : slice_get program rule.procedure ≡ Some p) where
      abbrev pub released : State
      released = with_task (record s { rules = remove s.rules number }) (task_from p.kind rule)

      pub numbers_released : NumbersHeld s → NumbersHeld released
      numbers_released h = record {
        tasks = λ m t at. elim (put_or_before nat_cmp_total nat_cmp-IsAntisymmetric s.tasks s.next_task (task_from p.kind rule) m t at) [
          | inl e ↦ let m_is = e.0 in omega arith
          | inr old ↦ let l = h.tasks m t old in omega arith
        ];
        rules = λ m r at. h.rules m r ((before_removal nat_cmp_total nat_cmp-IsAntisymmetric s.rules number m r at).1);
      }

      pub types_released : TypesHeld program typings s → list_all is_settled rule.stages ≡ true → TypesHeld program typings released
      types_released h settled = record {
        procedures = record {
          frames = h.procedures.frames;
          tasks = λ m t at. elim (put_or_before nat_cmp_total nat_cmp-IsAntisymmetric s.tasks s.next_task (task_from p.kind rule) m t at) [
            | inl e ↦ (p, ap (λ (z : Task). slice_get program z.procedure) (sym e.1) ∙ here)
            | inr old ↦ h.procedures.tasks m t old
          ];
          rules = λ m r at. h.procedures.rules m r ((before_removal nat_cmp_total nat_cmp-IsAntisymmetric s.rules number m r at).1);
        };
        store = h.store;
        values = h.values;
        rights = h.rights;
        args = λ m t q at there. elim (put_or_before nat_cmp_total nat_cmp-IsAntisymmetric s.tasks s.next_task (task_from p.kind rule) m t at) [
          | inl e ↦ subst (λ (z : Task). ArgsFit s.store q.params z.args) e.1 (settled_fit s.store q.params rule.stages rule.args (h.rules number rule q is (ap (λ (z : Task). slice_get program z.procedure) e.1 ∙ there)) settled)
          | inr old ↦ h.args m t q old there
        ];
        rules = λ m r q at there. h.rules m r q ((before_removal nat_cmp_total nat_cmp-IsAntisymmetric s.rules number m r at).1) there;
      }

      pub counts_released : CountsHeld program typings s → get s.tasks s.next_task ≡ None → CountsHeld program typings released
      counts_released h fresh = record {
        writers = h.writers;
        balanced = balanced_same s.store.live _ _ _ _ h.balanced (λ d.
            let a = sum_apart nat_cmp nat_cmp_total nat_cmp-IsAntisymmetric (rule_reads program d) s.rules number rule is in
            let b = sum_apart nat_cmp nat_cmp_total nat_cmp-IsAntisymmetric (rule_writes program d) s.rules number rule is in
            let c = sum_new nat_cmp nat_cmp_total nat_cmp-IsAntisymmetric (task_reads program d) s.tasks s.next_task (task_from p.kind rule) fresh in
            let e = sum_new nat_cmp nat_cmp_total nat_cmp-IsAntisymmetric (task_writes program d) s.tasks s.next_task (task_from p.kind rule) fresh in
            (omega arith, omega arith));
      }

  -- ---- a datum has one subscriber more

  module _ (s : State) (id : ℕ) (x : Datum) (there : get s.store.live id ≡ Some x) (sub : Subscriber) where
    abbrev pub subscribed_to : State
    subscribed_to = record s { store = record s.store { live = insert s.store.live id (with_subscriber sub x) } }

    subscribed_aged : Aged x (with_subscriber sub x)
    subscribed_aged = record { ty = refl; members = refl; closed = λ c. c; content = λ h. h; writers = λ h. h }

    pub subscribed_undisturbed : Undisturbed s.store (record s.store { live = insert s.store.live id (with_subscriber sub x) })
    subscribed_undisturbed = later_undisturbed s.store (record s.store { live = insert s.store.live id (with_subscriber sub x) }) (later_put s.store.live id x (with_subscriber sub x) there subscribed_aged) refl

    pub types_subscribed : TypesHeld program typings s → TypesHeld program typings subscribed_to
    types_subscribed h = record {
      procedures = record { frames = h.procedures.frames; tasks = h.procedures.tasks; rules = h.procedures.rules };
      store = later_store s.store (record s.store { live = insert s.store.live id (with_subscriber sub x) }) (later_put s.store.live id x (with_subscriber sub x) there subscribed_aged) refl h.store;
      values = h.values;
      rights = λ a f at. rights_kept s.store (record s.store { live = insert s.store.live id (with_subscriber sub x) }) (typing_of typings f) f.rights (holds_undisturbed s.store (record s.store { live = insert s.store.live id (with_subscriber sub x) }) subscribed_undisturbed) (h.rights a f at);
      args = λ m t q at here. args_kept s.store (record s.store { live = insert s.store.live id (with_subscriber sub x) }) subscribed_undisturbed q.params t.args (h.args m t q at here);
      rules = λ m r q at here. rule_args_kept s.store (record s.store { live = insert s.store.live id (with_subscriber sub x) }) subscribed_undisturbed q.params r.stages r.args (h.rules m r q at here);
    }

    pub counts_subscribed : CountsHeld program typings s → CountsHeld program typings subscribed_to
    counts_subscribed h =
        let at = balanced_some s.store.live _ _ id x h.balanced there in
        record {
          balanced = put_balanced s.store.live _ _ (reads_of program typings s) (writes_of program typings s) id x (with_subscriber sub x) there h.balanced (λ d _. (refl, refl)) (omega (arith, at.0)) at.1 at.2;
          writers = λ d z e. elim (put_or_before nat_cmp_total nat_cmp-IsAntisymmetric s.store.live id (with_subscriber sub x) d z e) [
            | inl same ↦ subst (λ (w : Datum). HasWriters w.content w.writes) same.1 (h.writers id x there)
            | inr old ↦ h.writers d z old
          ];
        }
