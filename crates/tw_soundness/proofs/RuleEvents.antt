-- Ask, Deliver and Release keep the invariant, and never trap.
use Rattle.std.proofs.Common.{◌≡◌, ℕ, ◌==◌, true, false, ◌&&◌, nat_lt, List, slice_get, is_none, Option, Some, None, refl, sym, ap, subst, ◌∙◌, arith, inl, inr}
use Rattle.tw_soundness.proofs.MachineNames.{ActorCounts, Arg, ArgFits, Datum, FreedDatum, IsHeld, Notice, Procedure, Ready, RightArg, Rule, State, Subscriber, Task, Typings, Unasked, ValueArg, Waiting, WrongCall, ask_event, asked, cases_Bool, deliver_event, get, id_in, is_closed, is_releasable, is_unasked, own_rule, ready_at, release_event, right_of, right_until, same_Some, server_of, settled_waits, unasked, with_stage}
use Rattle.std.specs.FinSet as set
use Rattle.tw_types.specs.declared.actor.Actor.TheVariants.{Engine}
use Rattle.tw_soundness.proofs.Asked.{Noted, noted, named_staged, named_asked, named_delivered, named_released}
use Rattle.tw_soundness.proofs.Wanted.{asked_is_there}
use Rattle.tw_soundness.proofs.Stages.{fit_staged, made_ready, types_noticed, counts_noticed, numbers_staged, types_staged, counts_staged, numbers_released, types_released, counts_released, subscribed_to, types_subscribed, counts_subscribed}
use Rattle.tw_soundness.proofs.Steps.{Keeps, there_keeps, keeps_more, enabled_keeps, only_if_keeps}

own_keeps : (engine number : ℕ) (s : State) → Keeps (own_rule engine number s) (λ rule. get s.rules number ≡ Some rule)
own_keeps engine number s = only_if_keeps (is_none (get s.frames (Engine engine))) _ _ (λ _. enabled_keeps (get s.rules number) _ _ (λ rule e. only_if_keeps (rule.engine == engine) _ _ (λ _. e)))

id_keeps : (o : Option Arg) → Keeps (id_in o) (λ id. o ≡ Some (RightArg id))
id_keeps None = tt
id_keeps (Some (ValueArg x)) = tt
id_keeps (Some (RightArg id)) = refl

module _ (program : List Procedure) (typings : Typings) (s : State) (held : IsHeld program typings s) where
  -- ---- Ask

  module _ (number parameter : ℕ) (rule : Rule) (id : ℕ) (x : Datum) (is : get s.rules number ≡ Some rule) (at : slice_get rule.stages parameter ≡ Some Unasked) (arg : slice_get rule.args parameter ≡ Some (RightArg id)) (there_is : get s.store.live id ≡ Some x) where
    ready : is_closed x ≡ true → IsHeld program typings (with_stage s number rule parameter Ready)
    ready closed = record {
      numbers = numbers_staged program typings s number rule is parameter Ready held.numbers;
      types = types_staged program typings s number rule is parameter Ready held.types (λ p here. fit_staged s.store p.params rule.stages rule.args parameter Unasked Ready (held.types.rules number rule p is here) at refl
          (λ q a e f.
          let a_is : RightArg id ≡ a = same_Some (RightArg id) a (sym arg ∙ e) in
          subst (λ b. ArgFits s.store q (right_of q) b) a_is (made_ready s.store q Unasked id refl (λ y y_at. subst (λ (z : Datum). is_closed z ≡ true) (same_Some x y (sym there_is ∙ y_at)) closed) (subst (λ b. ArgFits s.store q (right_until Unasked q) b) (sym a_is) f))));
      counts = counts_staged program typings s number rule is parameter Ready held.counts;
      notices = named_staged s.store.live s.notices s.rules held.notices number rule is parameter Unasked at Ready refl;
      budgets = record { begun = held.budgets.begun; within = held.budgets.within };
    }

    abbrev sub : Subscriber
    sub = record { rule = number; parameter = parameter }

    abbrev after : State
    after = subscribed_to program typings s id x there_is sub

    waits : is_closed x ≡ false → IsHeld program typings (with_stage after number rule parameter Waiting)
    waits is_open =
        let types = types_subscribed program typings s id x there_is sub held.types in
        record {
          numbers = numbers_staged program typings after number rule is parameter Waiting (record { tasks = held.numbers.tasks; rules = held.numbers.rules });
          types = types_staged program typings after number rule is parameter Waiting types (λ p here. fit_staged after.store p.params rule.stages rule.args parameter Unasked Waiting (types.rules number rule p is here) at refl (λ q a e f. f));
          counts = counts_staged program typings after number rule is parameter Waiting (counts_subscribed program typings s id x there_is sub held.counts);
          notices = named_asked s.store.live s.notices s.rules held.notices number rule is parameter Unasked at id x refl arg there_is is_open;
          budgets = record { begun = held.budgets.begun; within = held.budgets.within };
        }

    asked_held : IsHeld program typings (asked s number rule parameter id x)
    asked_held = elim (cases_Bool (is_closed x)) [
      | inl closed ↦ rw closed (ready closed)
      | inr is_open ↦ rw (is_open, there_is) (waits is_open)
    ]

  pub ask_keeps : (engine number parameter : ℕ) → Keeps (ask_event engine number parameter s) (IsHeld program typings)
  ask_keeps engine number parameter =
      keeps_more (own_rule engine number s) _ _ _ (own_keeps engine number s) (λ rule is.
      enabled_keeps (slice_get rule.stages parameter) _ _ (λ stage at.
      only_if_keeps (is_unasked stage) _ _ (λ u.
      keeps_more (id_in (slice_get rule.args parameter)) _ _ _ (id_keeps (slice_get rule.args parameter)) (λ id arg.
      let now : slice_get rule.stages parameter ≡ Some Unasked = at ∙ ap Some (unasked stage u) in
      let x = asked_is_there program typings s held.types held.counts number rule parameter id Unasked is now refl arg in
      there_keeps (get s.store.live id) FreedDatum _ _ x.0 x.1 (asked_held number parameter rule id x.0 is now arg x.1)))))

  -- ---- Deliver

  pub deliver_keeps : (layout : ActorCounts) (server : ℕ) (n : Notice) → Keeps (deliver_event layout server n s) (IsHeld program typings)
  deliver_keeps layout server n =
      only_if_keeps (nat_lt server layout.servers && (server_of layout.servers n.datum == server)) _ _ (λ _.
      only_if_keeps (set.contains s.notices n) _ _ (λ has.
      by (noted s.store.live s.notices s.rules n held.notices has) has))
    where
      by : Noted s.rules n → set.contains s.notices n ≡ true → IsHeld program typings (ready_at (record s { notices = set.remove s.notices n }) n (get s.rules n.rule))
      by k has =
          let closed = (held.notices.notices n has).1 in
          let left = set.remove s.notices n in
          let types = types_noticed program typings s left held.types in
          let done : IsHeld program typings (with_stage (record s { notices = left }) n.rule k.rule n.parameter Ready) = record {
            numbers = numbers_staged program typings (record s { notices = left }) n.rule k.rule k.is n.parameter Ready (record { tasks = held.numbers.tasks; rules = held.numbers.rules });
            types = types_staged program typings (record s { notices = left }) n.rule k.rule k.is n.parameter Ready types (λ p here. fit_staged s.store p.params k.rule.stages k.rule.args n.parameter Waiting Ready (held.types.rules n.rule k.rule p k.is here) k.stage refl
                (λ q a e f.
                let a_is : RightArg n.datum ≡ a = same_Some (RightArg n.datum) a (sym k.arg ∙ e) in
                subst (λ b. ArgFits s.store q (right_of q) b) a_is (made_ready s.store q Waiting n.datum refl closed (subst (λ b. ArgFits s.store q (right_until Waiting q) b) (sym a_is) f))));
            counts = counts_staged program typings (record s { notices = left }) n.rule k.rule k.is n.parameter Ready (counts_noticed program typings s left held.counts);
            notices = named_delivered s.store.live s.notices s.rules n held.notices has k.rule k.is;
            budgets = record { begun = held.budgets.begun; within = held.budgets.within };
          } in
          subst (λ o. IsHeld program typings (ready_at (record s { notices = left }) n o)) (sym k.is) done

  -- ---- Release

  fresh_task : get s.tasks s.next_task ≡ None
  fresh_task = by (get s.tasks s.next_task) refl
    where
      by : (o : Option Task) → get s.tasks s.next_task ≡ o → o ≡ None
      by None e = refl
      by (Some task) e = let l = held.numbers.tasks s.next_task task e in absurd (omega arith)

  pub release_keeps : (engine number : ℕ) → Keeps (release_event program engine number s) (IsHeld program typings)
  release_keeps engine number =
      keeps_more (own_rule engine number s) _ _ _ (own_keeps engine number s) (λ rule is.
      only_if_keeps (is_releasable rule) _ _ (λ settled.
      let p = held.types.procedures.rules number rule is in
      there_keeps (slice_get program rule.procedure) WrongCall _ _ p.0 p.1 (record {
        numbers = numbers_released program typings s number rule is p.0 p.1 held.numbers;
        types = types_released program typings s number rule is p.0 p.1 held.types settled;
        counts = counts_released program typings s number rule is p.0 p.1 held.counts fresh_task;
        notices = named_released s.store.live s.notices s.rules held.notices number rule is (settled_waits rule.stages settled);
        budgets = record { begun = held.budgets.begun; within = held.budgets.within };
      })))
