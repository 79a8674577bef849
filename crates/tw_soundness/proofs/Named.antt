-- Subscribers and notices name exactly the parameters that wait, after any change of data, notices and rules.
use Rattle.std.proofs.Common.{◌≡◌, ◌≢◌, ℕ, ◌+◌, ◌≤◌, inl, inr, Bool, true, false, if◌then◌else◌, [], Option, Some, None, refl, sym, ap, subst, ◌∙◌, arith}
use Rattle.tw_soundness.proofs.MachineNames.{AreNamed, Data, Datum, Notice, Notices, RightArg, Rules, and_notified, arg_at, cases_Bool, cases_eq, data_insert_other, data_insert_same, get, insert, is_closed, noticed_alike, noticed_at, noticed_one, notices_of, notified_has, notified_keeps, notified_only, part, same_Some, silenced, stage_at, subscribed-le, subscribed_put, subscribers_cleared, times_among, times_noticed, times_subscribed, times_waiting, total, waits-le, with_notices}
use Rattle.std.specs.FinSet as set
use Rattle.tw_soundness.proofs.Sums.{same_bool, subscribed_same}

-- ---- waiting parameters

-- a datum for which a parameter waits
pub record Wanted (rules : Rules) (id : ℕ) : Type 0 where
  pub rule : ℕ
  pub parameter : ℕ
  pub waits : times_waiting rules rule parameter ≡ 1
  pub arg : arg_at (get rules rule) parameter ≡ Some (RightArg id)

module _ (m : Data) (s : Notices) (rules : Rules) (h : AreNamed m s rules) where
  pub named-le : (rule parameter : ℕ) → total (times_subscribed rule parameter) m + times_noticed s rules rule parameter ≤ 1
  named-le rule parameter =
      let e = h.once rule parameter in
      let l : times_waiting rules rule parameter ≤ 1 = waits-le (stage_at (get rules rule) parameter) in
      omega arith

  -- a parameter waits for the datum of a subscriber
  pub subscriber_wants : (id : ℕ) (x : Datum) (rule parameter : ℕ) → get m id ≡ Some x → 0 ≢ times_subscribed rule parameter x → Wanted rules id
  subscriber_wants id x rule parameter is some =
      let e = h.once rule parameter in
      let l : times_waiting rules rule parameter ≤ 1 = waits-le (stage_at (get rules rule) parameter) in
      let k = subscribed-le rule parameter m id x is in
      record { rule = rule; parameter = parameter; waits = omega arith; arg = (h.subscribers id x rule parameter is some).1 }

  -- a parameter waits for the datum of a notice
  pub notice_wants : (n : Notice) → set.contains s n ≡ true → Wanted rules n.datum
  notice_wants n is =
      let e = h.once n.rule n.parameter in
      let l : times_waiting rules n.rule n.parameter ≤ 1 = waits-le (stage_at (get rules n.rule) n.parameter) in
      let one = noticed_one s rules n (h.notices n is).0 is in
      record { rule = n.rule; parameter = n.parameter; waits = omega arith; arg = (h.notices n is).0 }

-- ---- data change, with their subscribers and as closed as before

-- a datum is a change of an earlier one, or is new and has no subscribers
abbrev pub IsFrom : Option Datum → Datum → Type 0
IsFrom None y = y.subscribers ≡ []
IsFrom (Some x) y = (y.subscribers ≡ x.subscribers) × (is_closed y ≡ is_closed x)

-- each datum is a change of an earlier one, and each one that is waited for was there and stays
pub record Follows (m n : Data) (rules : Rules) : Type 0 where
  pub from : (d : ℕ) (y : Datum) → get n d ≡ Some y → IsFrom (get m d) y
  pub was : (d : ℕ) → Wanted rules d → (x : Datum) × (get m d ≡ Some x)
  pub stays : (d : ℕ) → Wanted rules d → (y : Datum) × (get n d ≡ Some y)

pub named_follows : (m n : Data) (s : Notices) (rules : Rules) → AreNamed m s rules → Follows m n rules → AreNamed n s rules
named_follows m n s rules h f = record {
  once = λ r p. ap (λ k. k + times_noticed s rules r p) (subscribed_same r p m n (λ d. parts r p d)) ∙ h.once r p;
  subscribers = λ d y r p is some. at_subscriber d y r p is some (get m d) refl (f.from d y is);
  notices = λ q is. ((h.notices q is).0, λ y there. at_notice q is y (get m q.datum) refl (f.from q.datum y there));
}
  where
    parts : (r p d : ℕ) → part (times_subscribed r p) (get n d) ≡ part (times_subscribed r p) (get m d)
    parts r p d = by (get m d) (get n d) refl refl
      where
        by : (o u : Option Datum) → get m d ≡ o → get n d ≡ u → part (times_subscribed r p) u ≡ part (times_subscribed r p) o
        by None None e g = refl
        by (Some x) None e g = elim (cases_eq 0 (times_subscribed r p x)) [
          | inl none ↦ none
          | inr some ↦ let there = f.stays d (subscriber_wants m s rules h d x r p e some) in let z : None ≡ Some there.0 = sym g ∙ there.1 in cc
        ]
        by o (Some y) e g = from_old o (subst (λ z. IsFrom z y) e (f.from d y g))
          where
            from_old : (o : Option Datum) → IsFrom o y → times_subscribed r p y ≡ part (times_subscribed r p) o
            from_old None w = ap (times_among r p) w
            from_old (Some x) w = ap (times_among r p) w.0

    at_subscriber : (d : ℕ) (y : Datum) (r p : ℕ) → get n d ≡ Some y → 0 ≢ times_subscribed r p y → (o : Option Datum) → get m d ≡ o → IsFrom (get m d) y → (is_closed y ≡ false) × (arg_at (get rules r) p ≡ Some (RightArg d))
    at_subscriber d y r p is some None e w = let w : y.subscribers ≡ [] = subst (λ z. IsFrom z y) e w in absurd (some (sym (ap (times_among r p) w)))
    at_subscriber d y r p is some (Some x) e w =
        let w : IsFrom (Some x) y = subst (λ z. IsFrom z y) e w in
        let same : times_subscribed r p y ≡ times_subscribed r p x = ap (times_among r p) w.0 in
        let old = h.subscribers d x r p e (λ z. some (z ∙ sym same)) in
        (w.1 ∙ old.0, old.1)

    at_notice : (q : Notice) → set.contains s q ≡ true → (y : Datum) → (o : Option Datum) → get m q.datum ≡ o → IsFrom (get m q.datum) y → is_closed y ≡ true
    at_notice q is y None e w = let there = f.was q.datum (notice_wants m s rules h q is) in let z : None ≡ Some there.0 = sym e ∙ there.1 in cc
    at_notice q is y (Some x) e w =
        let w : IsFrom (Some x) y = subst (λ z. IsFrom z y) e w in
        w.1 ∙ (h.notices q is).1 x e

-- ---- a datum changes, and its subscribers become notices where it is closed

pub named_notified : (m : Data) (s : Notices) (rules : Rules) (id : ℕ) (x y : Datum) → AreNamed m s rules → get m id ≡ Some x → y.subscribers ≡ x.subscribers → (is_closed x ≡ true → is_closed y ≡ true)
    → AreNamed (insert m id (subscribers_cleared y)) (with_notices s (notices_of id y)) rules
named_notified m s rules id x y h is same stays = by (is_closed y) refl
  where
    open_case : is_closed y ≡ false → AreNamed (insert m id y) s rules
    open_case is_open =
        let x_open : is_closed x ≡ false = (elim (cases_Bool (is_closed x)) [ inl t ↦ let z : true ≡ false = sym (stays t) ∙ is_open in cc | inr u ↦ u ]) in
        record {
          once = λ r p.
              let put = subscribed_put r p m id x y is in
              let e : times_subscribed r p y ≡ times_subscribed r p x = ap (times_among r p) same in
              let o = h.once r p in
              omega arith;
          subscribers = λ d z r p at some. elim (cases_eq d id) [
            | inl e ↦
                let z_is : y ≡ z = same_Some y z (sym (data_insert_same m id y) ∙ subst (λ k. get (insert m id y) k ≡ Some z) e at) in
                let old = h.subscribers id x r p is (λ n. some (n ∙ ap (times_among r p) (sym same ∙ ap (λ (w : Datum). w.subscribers) z_is))) in
                (ap is_closed (sym z_is) ∙ is_open, old.1 ∙ ap (λ k. Some (RightArg k)) (sym e))
            | inr e ↦ h.subscribers d z r p (sym (data_insert_other m id y d e) ∙ at) some
          ];
          notices = λ q there. (
            (h.notices q there).0,
            λ z at. elim (cases_eq q.datum id) [
              | inl e ↦ let old = (h.notices q there).1 x (ap (get m) e ∙ is) in let no : true ≡ false = sym old ∙ x_open in cc
              | inr e ↦ (h.notices q there).1 z (sym (data_insert_other m id y q.datum e) ∙ at)
            ],
          );
        }

    closed_case : is_closed y ≡ true → AreNamed (insert m id (silenced y)) (and_notified s id y) rules
    closed_case closed = record {
      once = λ r p. counted r p;
      subscribers = λ d z r p at some. elim (cases_eq d id) [
        | inl e ↦
            let z_is : (silenced y) ≡ z = same_Some (silenced y) z (sym (data_insert_same m id (silenced y)) ∙ subst (λ k. get (insert m id (silenced y)) k ≡ Some z) e at) in
            absurd (some (ap (times_subscribed r p) z_is))
        | inr e ↦ h.subscribers d z r p (sym (data_insert_other m id (silenced y) d e) ∙ at) some
      ];
      notices = λ q there. elim (notified_only s id y.subscribers q there) [
        | inl before ↦ (
          (h.notices q before).0,
          λ z at. elim (cases_eq q.datum id) [
            | inl e ↦
                let z_is : (silenced y) ≡ z = same_Some (silenced y) z (sym (data_insert_same m id (silenced y)) ∙ subst (λ k. get (insert m id (silenced y)) k ≡ Some z) e at) in
                ap is_closed (sym z_is) ∙ closed
            | inr e ↦ (h.notices q before).1 z (sym (data_insert_other m id (silenced y) q.datum e) ∙ at)
          ],
        )
        | inr now ↦
            let old = h.subscribers id x q.rule q.parameter is (λ n. now.1 (n ∙ ap (times_among q.rule q.parameter) (sym same))) in (
              old.1 ∙ ap (λ k. Some (RightArg k)) (sym now.0),
              λ z at.
                  let z_is : (silenced y) ≡ z = same_Some (silenced y) z (sym (data_insert_same m id (silenced y)) ∙ subst (λ k. get (insert m id (silenced y)) k ≡ Some z) now.0 at) in
                  ap is_closed (sym z_is) ∙ closed,
            )
      ];
    }
      where
        counted : (r p : ℕ) → total (times_subscribed r p) (insert m id (silenced y)) + times_noticed (and_notified s id y) rules r p ≡ times_waiting rules r p
        counted r p =
            let put = subscribed_put r p m id x (silenced y) is in
            let o = h.once r p in
            let l = named-le m s rules h r p in
            let k = subscribed-le r p m id x is in
            elim (cases_eq 0 (times_subscribed r p x)) [
              | inl none ↦
                  let unchanged : times_noticed (and_notified s id y) rules r p ≡ times_noticed s rules r p = noticed_alike s (and_notified s id y) r p (arg_at (get rules r) p) (λ d arg. same_bool _ _ (λ t. old_only d t none) (λ t. notified_keeps s id y.subscribers _ t)) in
                  omega arith
              | inr some ↦
                  let arg = (h.subscribers id x r p is some).1 in
                  let has = notified_has s id r p y.subscribers (λ n. some (n ∙ ap (times_among r p) same)) in
                  let one : times_noticed (and_notified s id y) rules r p ≡ 1 = noticed_at (and_notified s id y) rules r p id arg ∙ ap (λ b. if b then 1 else 0) has in
                  omega arith
            ]
          where
            old_only : (d : ℕ) → set.contains (and_notified s id y) (record { datum = d; rule = r; parameter = p }) ≡ true → 0 ≡ times_subscribed r p x → set.contains s (record { datum = d; rule = r; parameter = p }) ≡ true
            old_only d t none = elim (notified_only s id y.subscribers (record { datum = d; rule = r; parameter = p }) t) [
              | inl before ↦ before
              | inr now ↦ absurd (now.1 (none ∙ ap (times_among r p) (sym same)))
            ]

    by : (b : Bool) → is_closed y ≡ b → AreNamed (insert m id (subscribers_cleared y)) (with_notices s (notices_of id y)) rules
    by true e = rw e (closed_case e)
    by false e = rw e (open_case e)
