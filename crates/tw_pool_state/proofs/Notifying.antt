-- A datum closes: its subscribers become notices in the queue of its server.
use Rattle.std.proofs.Common.{map as each, ◌≡◌, ◌≢◌, ◌<◌, ◌≤◌, ◌+◌, ℕ, Bool, true, false, ◌||◌, List, [], ◌∷◌, ◌++◌, Some, refl, sym, ap, subst, ◌∙◌, length, arith, inl, inr}
use Rattle.tw_pool_state.proofs.PartNames.{AreApart, AreQueued, Data, Datum, Notice, Notices, Rules, Subscriber, cases_eq, eq_by_cmp, get, get_or-set_other, get_or-set_same, is_among, length-set, notice_cmp, notice_cmp_total, notice_to, queue_at, queued, server_of, with_notices}
use Rattle.std.specs.FinSet as set_of
use Rattle.tw_code.specs.machine.Waiting.{stage_at, times_among, times_noticed, times_subscribed}
use Rattle.tw_code.proofs.Sets.{is_that, that_itself}
use Rattle.tw_code.proofs.Subscribed.{noticed_one, subscribed-le, waits-le}
use Rattle.tw_soundness.specs.Noticed.{AreNamed}
use Rattle.tw_pool_state.proofs.Notes.{itself, same_is}

-- ---- lists

among_append : (m : Notice) (xs ys : List Notice) → is_among m (xs ++ ys) ≡ (is_among m xs || is_among m ys)
among_append m [] ys = refl
among_append m (x ∷ xs) ys = ap (λ b. eq_by_cmp notice_cmp m x || b) (among_append m xs ys) ∙ regroup (eq_by_cmp notice_cmp m x) (is_among m xs) (is_among m ys)
  where
    regroup : (a b c : Bool) → (a || (b || c)) ≡ ((a || b) || c)
    regroup true b c = refl
    regroup false b c = refl

apart_append : (xs ys : List Notice) → AreApart xs → AreApart ys → ((m : Notice) → is_among m ys ≡ true → is_among m xs ≡ false) → AreApart (xs ++ ys)
apart_append [] ys p q off = q
apart_append (x ∷ xs) ys p q off = (
  among_append x xs ys ∙ ap (λ b. b || is_among x ys) p.0 ∙ none (is_among x ys) refl,
  apart_append xs ys p.1 q (λ m there. later m (off m there)),
)
  where
    none : (b : Bool) → is_among x ys ≡ b → is_among x ys ≡ false
    none true e = let no : (eq_by_cmp notice_cmp x x || is_among x xs) ≡ false = off x e in let yes : (eq_by_cmp notice_cmp x x || is_among x xs) ≡ true = ap (λ b. b || is_among x xs) (itself x) in cc
    none false e = e

    later : (m : Notice) → (eq_by_cmp notice_cmp m x || is_among m xs) ≡ false → is_among m xs ≡ false
    later m h = by (eq_by_cmp notice_cmp m x) h
      where
        by : (b : Bool) → (b || is_among m xs) ≡ false → is_among m xs ≡ false
        by true e = cc
        by false e = e

-- ---- the set

notified_contains : (ns : Notices) (more : List Notice) (m : Notice) → set_of.contains (with_notices ns more) m ≡ (set_of.contains ns m || is_among m more)
notified_contains ns [] m = by (set_of.contains ns m)
  where
    by : (b : Bool) → b ≡ (b || false)
    by true = refl
    by false = refl
notified_contains ns (n ∷ more) m = notified_contains (set_of.insert ns n) more m ∙ ap (λ b. b || is_among m more) (set_of.contains-insert notice_cmp_total ns n m) ∙ turn (eq_by_cmp notice_cmp m n) (set_of.contains ns m) (is_among m more)
  where
    turn : (a b c : Bool) → ((a || b) || c) ≡ (b || (a || c))
    turn true true c = refl
    turn true false c = refl
    turn false b c = refl

-- ---- those of one datum

its_datum : (id : ℕ) (xs : List Subscriber) (m : Notice) → is_among m (each (notice_to id) xs) ≡ true → m.datum ≡ id
its_datum id [] m e = cc
its_datum id (x ∷ xs) m e = by (eq_by_cmp notice_cmp m (notice_to id x)) refl (its_datum id xs m) e
  where
    by : (b : Bool) → eq_by_cmp notice_cmp m (notice_to id x) ≡ b → (is_among m (each (notice_to id) xs) ≡ true → m.datum ≡ id) → (b || is_among m (each (notice_to id) xs)) ≡ true → m.datum ≡ id
    by true same others e = ap (λ (n : Notice). n.datum) (same_is m (notice_to id x) same)
    by false same others e = others e

-- a parameter that is named is among the subscribers
is_named : (id : ℕ) (xs : List Subscriber) (m : Notice) → is_among m (each (notice_to id) xs) ≡ true → 1 ≤ times_among m.rule m.parameter xs
is_named id [] m e = cc
is_named id (x ∷ xs) m e = by (eq_by_cmp notice_cmp m (notice_to id x)) refl (is_named id xs m) e
  where
    by : (b : Bool) → eq_by_cmp notice_cmp m (notice_to id x) ≡ b → (is_among m (each (notice_to id) xs) ≡ true → 1 ≤ times_among m.rule m.parameter xs) → (b || is_among m (each (notice_to id) xs)) ≡ true → 1 ≤ times_among m.rule m.parameter (x ∷ xs)
    by true same others e =
        let n_is = same_is m (notice_to id x) same in
        let one : is_that m.rule m.parameter x ≡ 1 = ap (λ (n : Notice). is_that n.rule n.parameter x) n_is ∙ that_itself x in
        omega (arith, one)
    by false same others e = omega (arith, others e)

apart_notified : (id : ℕ) (xs : List Subscriber) → ((r p : ℕ) → times_among r p xs ≤ 1) → AreApart (each (notice_to id) xs)
apart_notified id [] few = tt
apart_notified id (x ∷ xs) few = (once (is_among (notice_to id x) (each (notice_to id) xs)) refl, apart_notified id xs (λ r p. omega (arith, few r p)))
  where
    once : (b : Bool) → is_among (notice_to id x) (each (notice_to id) xs) ≡ b → is_among (notice_to id x) (each (notice_to id) xs) ≡ false
    once true e =
        let more : 1 ≤ times_among x.rule x.parameter xs = is_named id xs (notice_to id x) e in
        let one = that_itself x in
        let both : is_that x.rule x.parameter x + times_among x.rule x.parameter xs ≤ 1 = few x.rule x.parameter in
        absurd (omega (arith, more, one, both))
    once false e = e

-- ---- by the theorem

module _ (live : Data) (ns : Notices) (rules : Rules) (h : AreNamed live ns rules) (id : ℕ) (x : Datum) (is : get live id ≡ Some x) where
  in_all : (r p : ℕ) → times_subscribed r p x + times_noticed ns rules r p ≤ 1
  in_all r p =
      let once = h.once r p in
      let l = waits-le (stage_at (get rules r) p) in
      let m = subscribed-le r p live id x is in
      omega (arith, once, l, m)

  few : (r p : ℕ) → times_among r p x.subscribers ≤ 1
  few r p = omega (arith, in_all r p)

  -- the notices of its subscribers are new
  unsaid : (m : Notice) → is_among m (each (notice_to id) x.subscribers) ≡ true → set_of.contains ns m ≡ false
  unsaid m there = by (set_of.contains ns m) refl
    where
      by : (b : Bool) → set_of.contains ns m ≡ b → set_of.contains ns m ≡ false
      by true e =
          let some = is_named id x.subscribers m there in
          let noticed = noticed_one ns rules m (h.notices m e).0 e in
          absurd (omega (arith, in_all m.rule m.parameter, some, noticed))
      by false e = e

  module _ (queues : List (List Notice)) (q : AreQueued queues ns) (some : 0 < length queues) where
    abbrev more : List Notice
    more = each (notice_to id) x.subscribers

    abbrev server : ℕ
    server = server_of (length queues) id

    pub notified : server < length queues → AreQueued (queued id more queues) (with_notices ns more)
    notified inside = record {
      all = λ m. notified_contains ns more m ∙ at m ∙ ap (λ k. is_among m (queue_at (queued id more queues) (server_of k m.datum))) (sym long);
      own = λ k m there. ap (λ l. server_of l m.datum) long ∙ own_at k m there;
      apart = λ k. apart_at k;
    }
      where
        long : length (queued id more queues) ≡ length queues
        long = length-set queues server (queue_at queues server ++ more)

        here : queue_at (queued id more queues) server ≡ queue_at queues server ++ more
        here = get_or-set_same queues server (queue_at queues server ++ more) [] inside

        other : (k : ℕ) → k ≢ server → queue_at (queued id more queues) k ≡ queue_at queues k
        other k apart = get_or-set_other queues server k (queue_at queues server ++ more) [] apart

        none : (m : Notice) → (server_of (length queues) m.datum ≡ server → ⊥) → is_among m more ≡ false
        none m apart = by (is_among m more) refl
          where
            by : (b : Bool) → is_among m more ≡ b → is_among m more ≡ false
            by true e = absurd (apart (ap (server_of (length queues)) (its_datum id x.subscribers m e)))
            by false e = e

        same_or : (a b : Bool) → b ≡ false → (a || b) ≡ a
        same_or true b e = refl
        same_or false b e = e

        at : (m : Notice) → (set_of.contains ns m || is_among m more) ≡ is_among m (queue_at (queued id more queues) (server_of (length queues) m.datum))
        at m = elim (cases_eq (server_of (length queues) m.datum) server) as (λ _. (set_of.contains ns m || is_among m more) ≡ is_among m (queue_at (queued id more queues) (server_of (length queues) m.datum))) [
          | inl same ↦ ap (λ b. b || is_among m more) (q.all m ∙ ap (λ k. is_among m (queue_at queues k)) same) ∙ sym (among_append m (queue_at queues server) more) ∙ ap (is_among m) (sym here) ∙ ap (λ k. is_among m (queue_at (queued id more queues) k)) (sym same)
          | inr apart ↦ same_or (set_of.contains ns m) (is_among m more) (none m apart) ∙ q.all m ∙ ap (is_among m) (sym (other (server_of (length queues) m.datum) apart))
        ]

        either : (m : Notice) (a b : Bool) → is_among m (queue_at queues server) ≡ a → is_among m more ≡ b → (a || b) ≡ true → server_of (length queues) m.datum ≡ server
        either m true b e f h = q.own server m e
        either m false true e f h = ap (server_of (length queues)) (its_datum id x.subscribers m f)
        either m false false e f h = cc

        own_at : (k : ℕ) (m : Notice) → is_among m (queue_at (queued id more queues) k) ≡ true → server_of (length queues) m.datum ≡ k
        own_at k m there = elim (cases_eq k server) as (λ _. server_of (length queues) m.datum ≡ k) [
          | inl same ↦ either m (is_among m (queue_at queues server)) (is_among m more) refl refl (sym (among_append m (queue_at queues server) more) ∙ ap (is_among m) (sym here) ∙ ap (λ j. is_among m (queue_at (queued id more queues) j)) (sym same) ∙ there) ∙ sym same
          | inr apart ↦ q.own k m (ap (is_among m) (sym (other k apart)) ∙ there)
        ]

        fresh : (m : Notice) → is_among m more ≡ true → is_among m (queue_at queues server) ≡ false
        fresh m there = ap (λ k. is_among m (queue_at queues k)) (sym (ap (server_of (length queues)) (its_datum id x.subscribers m there))) ∙ sym (q.all m) ∙ unsaid m there

        apart_at : (k : ℕ) → AreApart (queue_at (queued id more queues) k)
        apart_at k = elim (cases_eq k server) as (λ _. AreApart (queue_at (queued id more queues) k)) [
          | inl same ↦ subst AreApart (sym (ap (queue_at (queued id more queues)) same ∙ here)) (apart_append (queue_at queues server) more (q.apart server) (apart_notified id x.subscribers few) fresh)
          | inr apart ↦ subst AreApart (sym (other k apart)) (q.apart k)
        ]
