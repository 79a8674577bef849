-- Notices leave the queues, and are added to them.
use Rattle.std.proofs.Common.{◌≡◌, ◌≢◌, ◌<◌, ℕ, Bool, true, false, not, ◌&&◌, ◌||◌, List, [], ◌∷◌, Some, None, refl, sym, ap, subst, ◌∙◌, length, set, slice_get, drop, inl, inr}
use Rattle.tw_pool_state.proofs.PartNames.{AreApart, AreQueued, Equal-is, Notice, Notices, cases_eq, eq_by_cmp, get_or-set_other, get_or-set_same, is_among, is_eq, is_queued, length-set, notice_cmp, notice_cmp-IsAntisymmetric, notice_cmp_total, queue_at, server_of, tied_itself}
use Rattle.std.specs.FinSet as set_of

pub same_is : (m n : Notice) → eq_by_cmp notice_cmp m n ≡ true → m ≡ n
same_is m n e = notice_cmp-IsAntisymmetric m n ((Equal-is (notice_cmp m n)).0 e)

pub itself : (n : Notice) → eq_by_cmp notice_cmp n n ≡ true
itself n = ap is_eq (tied_itself notice_cmp_total n)

-- the first of a queue, and the others
pub record IsFirst (queue : List Notice) (n : Notice) : Type 0 where
  pub rest : List Notice
  pub is : queue ≡ n ∷ rest
  pub dropped : drop 1 queue ≡ rest

pub first_of : (queue : List Notice) (n : Notice) → slice_get queue 0 ≡ Some n → IsFirst queue n
first_of [] n e = cc
first_of (m ∷ queue) n e = let same : m ≡ n = cc in record { rest = queue; is = ap (λ x. x ∷ queue) same; dropped = refl }

pub none_of : (queue : List Notice) → slice_get queue 0 ≡ None → queue ≡ []
none_of [] e = refl
none_of (m ∷ queue) e = cc

-- the first notice of a server's queue is taken
module _ (queues : List (List Notice)) (notices : Notices) (q : AreQueued queues notices) (server : ℕ) (inside : server < length queues) (n : Notice) (rest : List Notice) (is : queue_at queues server ≡ n ∷ rest) where
  abbrev left : List (List Notice)
  left = set queues server rest

  pub has : set_of.contains notices n ≡ true
  has = q.all n ∙ ap (λ k. is_among n (queue_at queues k)) (q.own server n (ap (is_among n) is ∙ ap (λ b. b || is_among n rest) (itself n))) ∙ ap (is_among n) is ∙ ap (λ b. b || is_among n rest) (itself n)

  pub own : server_of (length queues) n.datum ≡ server
  own = q.own server n (ap (is_among n) is ∙ ap (λ b. b || is_among n rest) (itself n))

  apart_there : AreApart (n ∷ rest)
  apart_there = subst AreApart is (q.apart server)

  here : queue_at left server ≡ rest
  here = get_or-set_same queues server rest [] inside

  other : (k : ℕ) → k ≢ server → queue_at left k ≡ queue_at queues k
  other k h = get_or-set_other queues server k rest [] h

  among_rest : (m : Notice) → is_among m rest ≡ true → is_among m (queue_at queues server) ≡ true
  among_rest m e = ap (is_among m) is ∙ ap (λ b. eq_by_cmp notice_cmp m n || b) e ∙ or_true (eq_by_cmp notice_cmp m n)
    where
      or_true : (b : Bool) → (b || true) ≡ true
      or_true true = refl
      or_true false = refl

  one_less : (m : Notice) (b : Bool) → eq_by_cmp notice_cmp m n ≡ b → (not b && (b || is_among m rest)) ≡ is_among m rest
  one_less m true e = sym (ap (λ k. is_among k rest) (same_is m n e) ∙ apart_there.0)
  one_less m false e = refl

  not_that : (m : Notice) (b : Bool) → eq_by_cmp notice_cmp m n ≡ b → (server_of (length queues) m.datum ≡ server → ⊥) → (r : Bool) → (not b && r) ≡ r
  not_that m true e h r = absurd (h (ap (λ (k : Notice). server_of (length queues) k.datum) (same_is m n e) ∙ own))
  not_that m false e h r = refl

  pub taken : AreQueued left (set_of.remove notices n)
  taken = record {
    all = λ m. set_of.contains-remove notice_cmp_total notices n m ∙ ap (λ b. not (eq_by_cmp notice_cmp m n) && b) (q.all m) ∙ at m ∙ ap (λ k. is_among m (queue_at left (server_of k m.datum))) (sym (length-set queues server rest));
    own = λ k m there. ap (λ l. server_of l m.datum) (length-set queues server rest) ∙ own_at k m there;
    apart = λ k. apart_at k;
  }
    where
      at : (m : Notice) → (not (eq_by_cmp notice_cmp m n) && is_queued queues m) ≡ is_among m (queue_at left (server_of (length queues) m.datum))
      at m = elim (cases_eq (server_of (length queues) m.datum) server) as (λ _. (not (eq_by_cmp notice_cmp m n) && is_queued queues m) ≡ is_among m (queue_at left (server_of (length queues) m.datum))) [
        | inl same ↦ ap (λ k. not (eq_by_cmp notice_cmp m n) && is_among m (queue_at queues k)) same ∙ ap (λ x. not (eq_by_cmp notice_cmp m n) && is_among m x) is
            ∙ one_less m (eq_by_cmp notice_cmp m n) refl ∙ ap (is_among m) (sym here) ∙ ap (λ k. is_among m (queue_at left k)) (sym same)
        | inr apart ↦ not_that m (eq_by_cmp notice_cmp m n) refl apart (is_queued queues m) ∙ ap (is_among m) (sym (other (server_of (length queues) m.datum) apart))
      ]

      own_at : (k : ℕ) (m : Notice) → is_among m (queue_at left k) ≡ true → server_of (length queues) m.datum ≡ k
      own_at k m there = elim (cases_eq k server) as (λ _. server_of (length queues) m.datum ≡ k) [
        | inl same ↦ q.own server m (among_rest m (ap (is_among m) (sym here) ∙ ap (λ j. is_among m (queue_at left j)) (sym same) ∙ there)) ∙ sym same
        | inr apart ↦ q.own k m (ap (is_among m) (sym (other k apart)) ∙ there)
      ]

      apart_at : (k : ℕ) → AreApart (queue_at left k)
      apart_at k = elim (cases_eq k server) as (λ _. AreApart (queue_at left k)) [
        | inl same ↦ subst AreApart (sym (ap (queue_at left) same ∙ here)) apart_there.1
        | inr apart ↦ subst AreApart (sym (other k apart)) (q.apart k)
      ]
