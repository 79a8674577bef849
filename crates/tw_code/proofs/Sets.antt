-- Notices in a set, and subscribers that become notices.
use Rattle.std.proofs.Common.{◌≡◌, ◌≢◌, ℕ, ◌+◌, ◌⊎◌, inl, inr, true, false, not, ◌&&◌, ◌||◌, ◌==◌, if◌then◌else◌, List, [], ◌∷◌, ◌++◌, map, refl, sym, ap, subst, ◌∙◌, arith}
use Rattle.std.proofs.lemmas.Bool.{and_parts, eqb-true, eq-eqb, cases_Bool, or_right, cases_eq}
use Rattle.std.specs.Ordering.{eq_by_cmp, is_eq}
use Rattle.std.specs.Cmp.{Equal-is, tied_itself}
use Rattle.std.specs.FinSet as set
use Rattle.tw_types.specs.declared.notice.Notice.{Notice}
use Rattle.tw_types.specs.declared.notice.Subscriber.{Subscriber}
use Rattle.tw_types.specs.Notices.{Notices, notice_cmp, with_notices}
use Rattle.tw_types.specs.Store.{notice_to}
use Rattle.tw_types.proofs.NoticeOrder.{notice_cmp_total, notice_cmp-IsAntisymmetric}
use Rattle.tw_code.specs.machine.Waiting.{times_among}

-- ---- notices in a set

pub put_has : (s : Notices) (n : Notice) → set.contains (set.insert s n) n ≡ true
put_has s n = set.contains-insert notice_cmp_total s n n ∙ ap (λ r. is_eq r || set.contains s n) (tied_itself notice_cmp_total n)

pub put_keeps : (s : Notices) (n q : Notice) → set.contains s q ≡ true → set.contains (set.insert s n) q ≡ true
put_keeps s n q h = set.contains-insert notice_cmp_total s n q ∙ or_right (eq_by_cmp notice_cmp q n) (set.contains s q) h

pub put_only : (s : Notices) (n q : Notice) → set.contains (set.insert s n) q ≡ true → (q ≡ n) ⊎ (set.contains s q ≡ true)
put_only s n q h = elim (cases_Bool (eq_by_cmp notice_cmp q n)) [
  | inl t ↦ inl (notice_cmp-IsAntisymmetric q n ((Equal-is (notice_cmp q n)).0 t))
  | inr u ↦ inr (sym (ap (λ b. b || set.contains s q) u) ∙ sym (set.contains-insert notice_cmp_total s n q) ∙ h)
]

pub gone_has : (s : Notices) (n : Notice) → set.contains (set.remove s n) n ≡ false
gone_has s n = set.contains-remove notice_cmp_total s n n ∙ ap (λ r. not (is_eq r) && set.contains s n) (tied_itself notice_cmp_total n)

pub gone_other : (s : Notices) (n q : Notice) → (q ≡ n → ⊥) → set.contains (set.remove s n) q ≡ set.contains s q
gone_other s n q h = elim (cases_Bool (eq_by_cmp notice_cmp q n)) [
  | inl t ↦ absurd (h (notice_cmp-IsAntisymmetric q n ((Equal-is (notice_cmp q n)).0 t)))
  | inr u ↦ set.contains-remove notice_cmp_total s n q ∙ ap (λ b. not b && set.contains s q) u
]

pub gone_only : (s : Notices) (n q : Notice) → set.contains (set.remove s n) q ≡ true → (q ≡ n → ⊥) × (set.contains s q ≡ true)
gone_only s n q h = (other, sym (gone_other s n q other) ∙ h)
  where
    other : q ≡ n → ⊥
    other e = let no : set.contains (set.remove s n) q ≡ false = ap (set.contains (set.remove s n)) e ∙ gone_has s n in cc

-- ---- subscribers that have become notices

-- 1 if it is that parameter
abbrev pub is_that : ℕ → ℕ → Subscriber → ℕ
is_that rule parameter x = if (x.rule == rule) && (x.parameter == parameter) then 1 else 0

pub that_itself : (x : Subscriber) → is_that x.rule x.parameter x ≡ 1
that_itself x = rw (eq-eqb x.rule x.rule refl, eq-eqb x.parameter x.parameter refl) refl

pub that_parts : (rule parameter : ℕ) (x : Subscriber) → 0 ≢ is_that rule parameter x → (x.rule ≡ rule) × (x.parameter ≡ parameter)
that_parts rule parameter x h = elim (cases_Bool ((x.rule == rule) && (x.parameter == parameter))) [
  | inl t ↦ let both = and_parts (x.rule == rule) (x.parameter == parameter) t in (eqb-true x.rule rule both.0, eqb-true x.parameter parameter both.1)
  | inr u ↦ absurd (h (rw u refl))
]

pub that_other : (rule parameter : ℕ) (x : Subscriber) → ((x.rule ≡ rule) → (x.parameter ≡ parameter) → ⊥) → is_that rule parameter x ≡ 0
that_other rule parameter x h = elim (cases_Bool ((x.rule == rule) && (x.parameter == parameter))) [
  | inl t ↦ let both = and_parts (x.rule == rule) (x.parameter == parameter) t in absurd (h (eqb-true x.rule rule both.0) (eqb-true x.parameter parameter both.1))
  | inr u ↦ rw u refl
]

pub named-append : (rule parameter : ℕ) (xs ys : List Subscriber) → times_among rule parameter (xs ++ ys) ≡ times_among rule parameter xs + times_among rule parameter ys
named-append rule parameter [] ys = omega arith
named-append rule parameter (x ∷ xs) ys = let h = named-append rule parameter xs ys in omega arith

with_keeps : (s : Notices) (more : List Notice) (q : Notice) → set.contains s q ≡ true → set.contains (with_notices s more) q ≡ true
with_keeps s [] q h = h
with_keeps s (n ∷ more) q h = with_keeps (set.insert s n) more q (put_keeps s n q h)

-- a notice that was there is still there
pub notified_keeps : (s : Notices) (id : ℕ) (xs : List Subscriber) (q : Notice) → set.contains s q ≡ true → set.contains (with_notices s (map (notice_to id) xs)) q ≡ true
notified_keeps s id xs q h = with_keeps s (map (notice_to id) xs) q h

-- the notice of each subscriber is there
pub notified_has : (s : Notices) (id rule parameter : ℕ) (xs : List Subscriber) → 0 ≢ times_among rule parameter xs
    → set.contains (with_notices s (map (notice_to id) xs)) (record { datum = id; rule = rule; parameter = parameter }) ≡ true
notified_has s id rule parameter [] h = absurd (h refl)
notified_has s id rule parameter (x ∷ xs) h = elim (cases_eq 0 (is_that rule parameter x)) [
  | inl none ↦ notified_has (set.insert s (notice_to id x)) id rule parameter xs (λ e. h (omega arith))
  | inr some ↦
      let both = that_parts rule parameter x some in
      let same : notice_to id x ≡ record { datum = id; rule = rule; parameter = parameter } = rw (both.0, both.1) refl in
      with_keeps (set.insert s (notice_to id x)) (map (notice_to id) xs) _ (subst (λ n. set.contains (set.insert s (notice_to id x)) n ≡ true) same (put_has s (notice_to id x)))
]

-- and there is no other
pub notified_only : (s : Notices) (id : ℕ) (xs : List Subscriber) (q : Notice) → set.contains (with_notices s (map (notice_to id) xs)) q ≡ true
    → (set.contains s q ≡ true) ⊎ ((q.datum ≡ id) × (0 ≢ times_among q.rule q.parameter xs))
notified_only s id [] q h = inl h
notified_only s id (x ∷ xs) q h = elim (notified_only (set.insert s (notice_to id x)) id xs q h) [
  | inr later ↦ inr (later.0, λ e. later.1 (omega arith))
  | inl now ↦ elim (put_only s (notice_to id x) q now) [
    | inr before ↦ inl before
    | inl here ↦
        let one = that_itself x in
        let at : is_that q.rule q.parameter x ≡ 1 = subst (λ (n : Notice). is_that n.rule n.parameter x ≡ 1) (sym here) one in
        inr (ap (λ (n : Notice). n.datum) here, λ e. let z : 0 ≡ is_that q.rule q.parameter x + times_among q.rule q.parameter xs = e in absurd (omega arith))
  ]
]
