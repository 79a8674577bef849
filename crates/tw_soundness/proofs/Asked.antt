-- Rules are made, asked for, notified and released, and still exactly the waiting parameters are named.
use Rattle.std.proofs.Common.{◌≡◌, ◌≢◌, ℕ, ◌+◌, ◌≤◌, inl, inr, Bool, true, false, if◌then◌else◌, List, [], ◌∷◌, slice_get, Option, Some, None, refl, sym, ap, subst, ◌∙◌, arith, nat_cmp}
use Rattle.tw_soundness.proofs.MachineNames.{AreNamed, Arg, Data, Datum, Free, Input, NothingWaits, Notice, Notices, NoticesHeld, Procedure, Ready, RightArg, Rule, Rules, Stage, Unasked, ValueArg, Waiting, arg_at, cases_eq, data_insert_other, data_insert_same, empty, get, get-empty, gone_has, gone_only, gone_other, insert, is_closed, is_that, named-append, notice_cmp, noticed_alike, noticed_at, noticed_one, remove, rule_gone, rule_kept, rule_other, rule_put, same_Some, stage_at, staged, staged_arg, staged_here, staged_noticed, staged_other, subscribed-le, subscribed_put, that_itself, that_or_other, that_other, times_among, times_at, times_noticed, times_noticed_by, times_subscribed, times_waiting, total, unsubscribed, waits-le, was_here, with_subscriber}
use Rattle.std.specs.FinSet as set
use Rattle.tw_code.proofs.Opened.{opening_silent}
use Rattle.tw_code.specs.machine.Opening.{opening}

-- ---- a stage changes

module _ (m : Data) (s : Notices) (rules : Rules) (h : AreNamed m s rules) (number : ℕ) (rule : Rule) (is : get rules number ≡ Some rule) (parameter : ℕ) (old : Stage) (at : slice_get rule.stages parameter ≡ Some old) where
  -- it waits no more and no less
  pub named_staged : (stage : Stage) → times_at (Some stage) ≡ times_at (Some old) → AreNamed m s (staged rules number rule is parameter stage)
  named_staged stage same = record {
    once = λ r p.
        let n = staged_noticed rules number rule is parameter stage s r p in
        let o = h.once r p in
        let w : times_waiting (staged rules number rule is parameter stage) r p ≡ times_waiting rules r p = (elim (that_or_other number parameter r p) [
          | inl e ↦
              let here = staged_here rules number rule is parameter stage old at ∙ same ∙ sym (was_here rules number rule is parameter stage old at) in
              ap (λ k. times_waiting (staged rules number rule is parameter stage) k p) e.0 ∙ ap (times_waiting (staged rules number rule is parameter stage) number) e.1 ∙ here ∙ sym (ap (λ k. times_waiting rules k p) e.0 ∙ ap (times_waiting rules number) e.1)
          | inr e ↦ staged_other rules number rule is parameter stage r p e
        ]) in
        omega arith;
    subscribers = λ d x r p there some. let k = h.subscribers d x r p there some in (k.0, staged_arg rules number rule is parameter stage r p ∙ k.1);
    notices = λ q there. let k = h.notices q there in (staged_arg rules number rule is parameter stage q.rule q.parameter ∙ k.0, k.1);
  }

  -- a parameter whose datum is open when it is asked for waits as a subscriber
  pub named_asked : (id : ℕ) (x : Datum) → old ≡ Unasked → slice_get rule.args parameter ≡ Some (RightArg id) → get m id ≡ Some x → is_closed x ≡ false
      → AreNamed (insert m id (with_subscriber (record { rule = number; parameter = parameter }) x)) s (staged rules number rule is parameter Waiting)
  named_asked id x unasked arg there is_open = record {
    once = λ r p. counted r p;
    subscribers = λ d z r p at some. elim (cases_eq d id) [
      | inl e ↦
          let z_is : with_subscriber (record { rule = number; parameter = parameter }) x ≡ z = same_Some _ z (sym (data_insert_same m id (with_subscriber (record { rule = number; parameter = parameter }) x)) ∙ subst (λ k. get (insert m id (with_subscriber (record { rule = number; parameter = parameter }) x)) k ≡ Some z) e at) in
          (ap is_closed (sym z_is) ∙ is_open, staged_arg rules number rule is parameter Waiting r p ∙ own r p (λ n. some (n ∙ ap (times_subscribed r p) z_is)) ∙ ap (λ k. Some (RightArg k)) (sym e))
      | inr e ↦
          let k = h.subscribers d z r p (sym (data_insert_other m id (with_subscriber (record { rule = number; parameter = parameter }) x) d e) ∙ at) some in
          (k.0, staged_arg rules number rule is parameter Waiting r p ∙ k.1)
    ];
    notices = λ q has. let k = h.notices q has in (
      staged_arg rules number rule is parameter Waiting q.rule q.parameter ∙ k.0,
      λ z at. elim (cases_eq q.datum id) [
        | inl e ↦ let no : true ≡ false = sym (k.1 x (ap (get m) e ∙ there)) ∙ is_open in cc
        | inr e ↦ k.1 z (sym (data_insert_other m id (with_subscriber (record { rule = number; parameter = parameter }) x) q.datum e) ∙ at)
      ],
    );
  }
    where
      one_more : (r p : ℕ) → times_subscribed r p (with_subscriber (record { rule = number; parameter = parameter }) x) ≡ times_subscribed r p x + is_that r p (record { rule = number; parameter = parameter })
      one_more r p = let e = named-append r p x.subscribers (record { rule = number; parameter = parameter } ∷ []) in omega arith

      own : (r p : ℕ) → 0 ≢ times_subscribed r p (with_subscriber (record { rule = number; parameter = parameter }) x) → arg_at (get rules r) p ≡ Some (RightArg id)
      own r p some = elim (that_or_other number parameter r p) [
        | inl e ↦ ap (λ k. arg_at (get rules k) p) e.0 ∙ ap (λ o. arg_at o p) is ∙ ap (slice_get rule.args) e.1 ∙ arg
        | inr e ↦
            let more = one_more r p in
            let zero_of : is_that r p (record { rule = number; parameter = parameter }) ≡ 0 = that_other r p (record { rule = number; parameter = parameter }) (λ a b. e (sym a) (sym b)) in
            (h.subscribers id x r p there (λ n. some (omega arith))).1
      ]

      counted : (r p : ℕ) → total (times_subscribed r p) (insert m id (with_subscriber (record { rule = number; parameter = parameter }) x)) + times_noticed s (staged rules number rule is parameter Waiting) r p ≡ times_waiting (staged rules number rule is parameter Waiting) r p
      counted r p =
          let put = subscribed_put r p m id x (with_subscriber (record { rule = number; parameter = parameter }) x) there in
          let more = one_more r p in
          let n = staged_noticed rules number rule is parameter Waiting s r p in
          let o = h.once r p in
          elim (that_or_other number parameter r p) [
            | inl e ↦
                let hit : is_that r p (record { rule = number; parameter = parameter }) ≡ 1 = ap (λ k. is_that k p (record { rule = number; parameter = parameter })) e.0 ∙ ap (λ k. is_that number k (record { rule = number; parameter = parameter })) e.1 ∙ that_itself (record { rule = number; parameter = parameter }) in
                let now : times_waiting (staged rules number rule is parameter Waiting) r p ≡ 1 = ap (λ k. times_waiting (staged rules number rule is parameter Waiting) k p) e.0 ∙ ap (times_waiting (staged rules number rule is parameter Waiting) number) e.1 ∙ staged_here rules number rule is parameter Waiting old at in
                let before : times_waiting rules r p ≡ 0 = ap (λ k. times_waiting rules k p) e.0 ∙ ap (times_waiting rules number) e.1 ∙ was_here rules number rule is parameter Waiting old at ∙ ap (λ z. times_at (Some z)) unasked in
                omega arith
            | inr e ↦
                let miss : is_that r p (record { rule = number; parameter = parameter }) ≡ 0 = that_other r p (record { rule = number; parameter = parameter }) (λ a b. e (sym a) (sym b)) in
                let now = staged_other rules number rule is parameter Waiting r p e in
                omega arith
          ]

-- ---- a notice is delivered

-- the rule of a notice, with the stage of its parameter
pub record Noted (rules : Rules) (n : Notice) : Type 0 where
  pub rule : Rule
  pub is : get rules n.rule ≡ Some rule
  pub stage : slice_get rule.stages n.parameter ≡ Some Waiting
  pub arg : slice_get rule.args n.parameter ≡ Some (RightArg n.datum)

pub noted : (m : Data) (s : Notices) (rules : Rules) (n : Notice) → AreNamed m s rules → set.contains s n ≡ true → Noted rules n
noted m s rules n h has = by (get rules n.rule) refl (h.notices n has).0
  where
    waits : (o : Option Stage) → times_at o ≡ 1 → o ≡ Some Waiting
    waits None e = cc
    waits (Some Free) e = cc
    waits (Some Unasked) e = cc
    waits (Some Waiting) e = refl
    waits (Some Ready) e = cc

    once : times_waiting rules n.rule n.parameter ≡ 1
    once =
        let o = h.once n.rule n.parameter in
        let l : times_waiting rules n.rule n.parameter ≤ 1 = waits-le (stage_at (get rules n.rule) n.parameter) in
        let one = noticed_one s rules n (h.notices n has).0 has in
        omega arith

    by : (o : Option Rule) → get rules n.rule ≡ o → arg_at (get rules n.rule) n.parameter ≡ Some (RightArg n.datum) → Noted rules n
    by None e a = let z : None ≡ Some (RightArg n.datum) = sym (ap (λ o. arg_at o n.parameter) e) ∙ a in cc
    by (Some rule) e a = record {
      rule = rule;
      is = e;
      stage = waits (slice_get rule.stages n.parameter) (sym (ap (λ o. times_at (stage_at o n.parameter)) e) ∙ once);
      arg = sym (ap (λ o. arg_at o n.parameter) e) ∙ a;
    }

pub named_delivered : (m : Data) (s : Notices) (rules : Rules) (n : Notice) → AreNamed m s rules → set.contains s n ≡ true → (rule : Rule) (is : get rules n.rule ≡ Some rule) → AreNamed m (set.remove s n) (staged rules n.rule rule is n.parameter Ready)
named_delivered m s rules n h has rule is = record {
  once = λ r p. counted r p;
  subscribers = λ d x r p there some. let k = h.subscribers d x r p there some in (k.0, staged_arg rules n.rule rule is n.parameter Ready r p ∙ k.1);
  notices = λ q there. let k = h.notices q (gone_only s n q there).1 in (staged_arg rules n.rule rule is n.parameter Ready q.rule q.parameter ∙ k.0, k.1);
}
  where
    stage : slice_get rule.stages n.parameter ≡ Some Waiting
    stage = ap (λ (k : Rule). slice_get k.stages n.parameter) (same_Some rule (noted m s rules n h has).rule (sym is ∙ (noted m s rules n h has).is)) ∙ (noted m s rules n h has).stage

    counted : (r p : ℕ) → total (times_subscribed r p) m + times_noticed (set.remove s n) (staged rules n.rule rule is n.parameter Ready) r p ≡ times_waiting (staged rules n.rule rule is n.parameter Ready) r p
    counted r p =
        let t = staged_noticed rules n.rule rule is n.parameter Ready (set.remove s n) r p in
        let o = h.once r p in
        elim (that_or_other n.rule n.parameter r p) [
          | inl e ↦
              let arg = (h.notices n has).0 in
              let before : times_noticed s rules r p ≡ 1 = ap (λ k. times_noticed s rules k p) e.0 ∙ ap (times_noticed s rules n.rule) e.1 ∙ noticed_one s rules n arg has in
              let gone : times_noticed (set.remove s n) rules r p ≡ 0 = ap (λ k. times_noticed (set.remove s n) rules k p) e.0 ∙ ap (times_noticed (set.remove s n) rules n.rule) e.1 ∙ noticed_at (set.remove s n) rules n.rule n.parameter n.datum arg ∙ ap (λ b. if b then 1 else 0) (gone_has s n) in
              let now : times_waiting (staged rules n.rule rule is n.parameter Ready) r p ≡ 0 = ap (λ k. times_waiting (staged rules n.rule rule is n.parameter Ready) k p) e.0 ∙ ap (times_waiting (staged rules n.rule rule is n.parameter Ready) n.rule) e.1 ∙ staged_here rules n.rule rule is n.parameter Ready Waiting stage in
              let l : times_waiting rules r p ≤ 1 = waits-le (stage_at (get rules r) p) in
              omega arith
          | inr e ↦
              let now = staged_other rules n.rule rule is n.parameter Ready r p e in
              let same : times_noticed (set.remove s n) rules r p ≡ times_noticed s rules r p = noticed_alike s (set.remove s n) r p (arg_at (get rules r) p) (λ d _. gone_other s n (record { datum = d; rule = r; parameter = p }) (λ z. e (ap (λ (q : Notice). q.rule) z) (ap (λ (q : Notice). q.parameter) z))) in
              omega arith
        ]

-- ---- a rule that doesn't wait is added, or removed

module _ (m : Data) (s : Notices) (rules : Rules) (h : AreNamed m s rules) where
  -- a parameter that doesn't wait isn't named
  pub unnamed : (r p : ℕ) → times_waiting rules r p ≡ 0 → (total (times_subscribed r p) m ≡ 0) × (times_noticed s rules r p ≡ 0)
  unnamed r p none = let o = h.once r p in (omega arith, omega arith)

  no_subscriber : (d : ℕ) (x : Datum) (r p : ℕ) → get m d ≡ Some x → times_waiting rules r p ≡ 0 → 0 ≡ times_subscribed r p x
  no_subscriber d x r p there none = let l = subscribed-le r p m d x there in let z = (unnamed r p none).0 in omega arith

  no_notice : (q : Notice) → times_waiting rules q.rule q.parameter ≡ 0 → set.contains s q ≡ true → ⊥
  no_notice q none has = let one = noticed_one s rules q (h.notices q has).0 has in let z = (unnamed q.rule q.parameter none).1 in absurd (omega arith)

  pub named_new : (number : ℕ) (rule : Rule) → get rules number ≡ None → NothingWaits rule → AreNamed m s (insert rules number rule)
  named_new number rule none still = record {
    once = λ r p. elim (cases_eq r number) [
      | inl e ↦
          let was : times_waiting rules r p ≡ 0 = ap (λ o. times_at (stage_at o p)) (ap (get rules) e ∙ none) in
          let z = unnamed r p was in
          let now : times_waiting (insert rules number rule) r p ≡ 0 = ap (λ o. times_at (stage_at o p)) (ap (get (insert rules number rule)) e ∙ rule_put rules number rule) ∙ still p in
          let gone : times_noticed s (insert rules number rule) r p ≡ 0 = unseen r p was (arg_at (get (insert rules number rule) r) p) in
          omega arith
      | inr e ↦
          let w : times_waiting (insert rules number rule) r p ≡ times_waiting rules r p = ap (λ o. times_at (stage_at o p)) (rule_other rules number rule r e) in
          let n : times_noticed s (insert rules number rule) r p ≡ times_noticed s rules r p = ap (λ o. times_noticed_by s r p (arg_at o p)) (rule_other rules number rule r e) in
          let o = h.once r p in
          omega arith
    ];
    subscribers = λ d x r p there some.
        let k = h.subscribers d x r p there some in
        (k.0, ap (λ o. arg_at o p) (rule_other rules number rule r (λ e. some (no_subscriber d x r p there (ap (λ o. times_at (stage_at o p)) (ap (get rules) e ∙ none))))) ∙ k.1);
    notices = λ q has.
        let k = h.notices q has in
        (ap (λ o. arg_at o q.parameter) (rule_other rules number rule q.rule (λ e. no_notice q (ap (λ o. times_at (stage_at o q.parameter)) (ap (get rules) e ∙ none)) has)) ∙ k.0, k.1);
  }
    where
      unseen : (r p : ℕ) → times_waiting rules r p ≡ 0 → (o : Option Arg) → times_noticed_by s r p o ≡ 0
      unseen r p was o = noticed_none o (λ d e. no_notice (record { datum = d; rule = r; parameter = p }) was e)
        where
          no : (b : Bool) → (b ≡ true → ⊥) → ◌≡◌ {A = ℕ} (if b then 1 else 0) 0
          no true f = absurd (f refl)
          no false f = refl

          noticed_none : (o : Option Arg) → ((d : ℕ) → set.contains s (record { datum = d; rule = r; parameter = p }) ≡ true → ⊥) → times_noticed_by s r p o ≡ 0
          noticed_none None f = refl
          noticed_none (Some arg) f = of_arg arg
            where
              of_arg : (arg : Arg) → times_noticed_by s r p (Some arg) ≡ 0
              of_arg (ValueArg x) = refl
              of_arg (RightArg id) = no (set.contains s (record { datum = id; rule = r; parameter = p })) (f id)

  pub named_released : (number : ℕ) (rule : Rule) → get rules number ≡ Some rule → NothingWaits rule → AreNamed m s (remove rules number)
  named_released number rule is still = record {
    once = λ r p. elim (cases_eq r number) [
      | inl e ↦
          let was : times_waiting rules r p ≡ 0 = ap (λ o. times_at (stage_at o p)) (ap (get rules) e ∙ is) ∙ still p in
          let z = unnamed r p was in
          let none : get (remove rules number) r ≡ None = ap (get (remove rules number)) e ∙ rule_gone rules number in
          let now : times_waiting (remove rules number) r p ≡ 0 = ap (λ o. times_at (stage_at o p)) none in
          let gone : times_noticed s (remove rules number) r p ≡ 0 = ap (λ o. times_noticed_by s r p (arg_at o p)) none in
          omega arith
      | inr e ↦
          let w : times_waiting (remove rules number) r p ≡ times_waiting rules r p = ap (λ o. times_at (stage_at o p)) (rule_kept rules number r e) in
          let n : times_noticed s (remove rules number) r p ≡ times_noticed s rules r p = ap (λ o. times_noticed_by s r p (arg_at o p)) (rule_kept rules number r e) in
          let o = h.once r p in
          omega arith
    ];
    subscribers = λ d x r p there some.
        let k = h.subscribers d x r p there some in
        (k.0, ap (λ o. arg_at o p) (rule_kept rules number r (λ e. some (no_subscriber d x r p there (ap (λ o. times_at (stage_at o p)) (ap (get rules) e ∙ is) ∙ still p)))) ∙ k.1);
    notices = λ q has.
        let k = h.notices q has in
        (ap (λ o. arg_at o q.parameter) (rule_kept rules number q.rule (λ e. no_notice q (ap (λ o. times_at (stage_at o q.parameter)) (ap (get rules) e ∙ is) ∙ still q.parameter) has)) ∙ k.0, k.1);
  }

-- ---- nothing waits yet

pub named_silent : (m : Data) → ((id : ℕ) (x : Datum) → get m id ≡ Some x → x.subscribers ≡ []) → AreNamed m set.empty empty
named_silent m silent = record {
  once = λ r p.
      let none : get (empty {X = Rule} {R = nat_cmp}) r ≡ None = get-empty nat_cmp r in
      let w : times_waiting empty r p ≡ 0 = ap (λ o. times_at (stage_at o p)) none in
      let n : times_noticed set.empty empty r p ≡ 0 = ap (λ o. times_noticed_by set.empty r p (arg_at o p)) none in
      let z : total (times_subscribed r p) m ≡ 0 = unsubscribed m silent r p in
      omega arith;
  subscribers = λ d x r p there some. absurd (some (sym (ap (times_among r p) (silent d x there))));
  notices = λ q has. let no : false ≡ true = sym (set.contains-empty notice_cmp q) ∙ has in cc;
}

-- nor in the state in which main waits, for any program and inputs
pub opening_named : (program : List Procedure) (inputs : List Input) → NoticesHeld (opening program inputs)
unfolding opening
opening_named program inputs = named_silent _ (opening_silent program inputs)
