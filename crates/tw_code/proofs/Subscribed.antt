-- Sums over the subscribers of data, and notices of a parameter.
use Rattle.std.proofs.Common.{◌≡◌, ℕ, ◌+◌, ◌≤◌, true, if◌then◌else◌, [], map, Option, Some, None, refl, ap, subst, ◌∙◌, arith, nat_cmp}
use Rattle.std.specs.Cmp.{nat_cmp_total}
use Rattle.std.specs.FinMap.{get, insert, empty, nat_cmp-IsAntisymmetric}
use Rattle.std.specs.FinSet as set
use Rattle.tw_types.specs.declared.notice.Notice.{Notice}
use Rattle.tw_types.specs.declared.stage.Stage.{Stage}
use Rattle.tw_types.specs.declared.stage.Stage.TheVariants.{Free, Unasked, Waiting, Ready}
use Rattle.tw_types.specs.Notices.{Notices, with_notices}
use Rattle.tw_types.specs.Rule.{Rules}
use Rattle.tw_types.specs.Store.{Data, Datum, notice_to}
use Rattle.tw_types.specs.Task.{Arg, ValueArg, RightArg}
use Rattle.tw_types.specs.Totals.{total}
use Rattle.tw_types.proofs.Parts.{total-le}
use Rattle.tw_types.proofs.Totals.{part, total-empty, total-insert, part-le-total}
use Rattle.tw_code.specs.machine.Waiting.{times_among, times_subscribed, times_at, arg_at, times_noticed_by, times_noticed}

-- ---- sums of subscribers

pub subscribed_put : (rule parameter : ℕ) (m : Data) (id : ℕ) (x y : Datum) → get m id ≡ Some x → total (times_subscribed rule parameter) (insert m id y) + times_subscribed rule parameter x ≡ total (times_subscribed rule parameter) m + times_subscribed rule parameter y
subscribed_put rule parameter m id x y is = subst (λ o. total (times_subscribed rule parameter) (insert m id y) + part (times_subscribed rule parameter) o ≡ total (times_subscribed rule parameter) m + times_subscribed rule parameter y) is (total-insert nat_cmp nat_cmp_total (times_subscribed rule parameter) m id y)

pub subscribed-le : (rule parameter : ℕ) (m : Data) (id : ℕ) (x : Datum) → get m id ≡ Some x → times_subscribed rule parameter x ≤ total (times_subscribed rule parameter) m
subscribed-le rule parameter m id x is = subst (λ o. part (times_subscribed rule parameter) o ≤ total (times_subscribed rule parameter) m) is (part-le-total nat_cmp nat_cmp_total nat_cmp-IsAntisymmetric (times_subscribed rule parameter) m id)

-- if no datum has subscribers
pub unsubscribed : (m : Data) → ((id : ℕ) (x : Datum) → get m id ≡ Some x → x.subscribers ≡ []) → (r p : ℕ) → total (times_subscribed r p) m ≡ 0
unsubscribed m silent r p =
    let none = total-empty nat_cmp (times_subscribed r p) in
    let no_more = total-le nat_cmp_total nat_cmp-IsAntisymmetric (times_subscribed r p) m (empty {X = Datum} {R = nat_cmp}) (λ d. each d (get m d) refl) in
    omega arith
  where
    each : (d : ℕ) (o : Option Datum) → get m d ≡ o → part (times_subscribed r p) (get m d) ≤ part (times_subscribed r p) (get (empty {X = Datum} {R = nat_cmp}) d)
    each d None e = let zero : part (times_subscribed r p) (get m d) ≡ 0 = ap (part (times_subscribed r p)) e in omega arith
    each d (Some x) e = let zero : part (times_subscribed r p) (get m d) ≡ 0 = ap (part (times_subscribed r p)) e ∙ ap (times_among r p) (silent d x e) in omega arith

-- ---- counts that are 0 or 1

pub waits-le : (o : Option Stage) → times_at o ≤ 1
waits-le None = omega arith
waits-le (Some Free) = omega arith
waits-le (Some Unasked) = omega arith
waits-le (Some Waiting) = omega arith
waits-le (Some Ready) = omega arith

-- a notice counts if its datum is the parameter's argument
pub noticed_at : (s : Notices) (rules : Rules) (rule parameter id : ℕ) → arg_at (get rules rule) parameter ≡ Some (RightArg id)
    → times_noticed s rules rule parameter ≡ (if set.contains s (record { datum = id; rule = rule; parameter = parameter }) then 1 else 0)
noticed_at s rules rule parameter id e = ap (times_noticed_by s rule parameter) e

pub noticed_one : (s : Notices) (rules : Rules) (n : Notice) → arg_at (get rules n.rule) n.parameter ≡ Some (RightArg n.datum) → set.contains s n ≡ true → times_noticed s rules n.rule n.parameter ≡ 1
noticed_one s rules n e h = noticed_at s rules n.rule n.parameter n.datum e ∙ ap (λ b. if b then 1 else 0) h

-- two sets that have the same notices of a parameter
pub noticed_alike : (s t : Notices) (rule parameter : ℕ) (o : Option Arg)
    → ((id : ℕ) → o ≡ Some (RightArg id) → set.contains t (record { datum = id; rule = rule; parameter = parameter }) ≡ set.contains s (record { datum = id; rule = rule; parameter = parameter }))
    → times_noticed_by t rule parameter o ≡ times_noticed_by s rule parameter o
noticed_alike s t rule parameter None h = refl
noticed_alike s t rule parameter (Some (ValueArg x)) h = refl
noticed_alike s t rule parameter (Some (RightArg id)) h = ap (λ b. if b then 1 else 0) (h id refl)

-- ---- a datum whose subscribers become notices

abbrev pub silenced : Datum → Datum
silenced y = record y { subscribers = [] }

abbrev pub and_notified : Notices → ℕ → Datum → Notices
and_notified s id y = with_notices s (map (notice_to id) y.subscribers)
