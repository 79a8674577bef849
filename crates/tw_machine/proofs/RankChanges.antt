-- The ranks after a task is put or removed.
use Rattle.std.proofs.Common.{◌≡◌, ◌≤◌, ◌+◌, ℕ, Bool, true, false, cond, ◌&&◌, refl, sym, ap, ◌∙◌, arith, nat_cmp}
use Rattle.tw_machine.proofs.Names.{AreRanked, IsMarked, Kind, None, Option, Rank, Ranks, Some, Task, Tasks, empty, eq_by_cmp, get, get-empty, get-insert, get-remove, has_rank, insert, is_rank, nat_cmp-IsAntisymmetric, nat_cmp_total, other_key, rank_cmp, rank_of, remove, same_kind, same_target, tied}
use Rattle.tw_machine.proofs.RankOrder.{other_number}

cond_same : (b : Bool) → cond b true false ≡ b
cond_same true = refl
cond_same false = refl

cond_false : (b : Bool) → cond b false b ≡ false
cond_false true = refl
cond_false false = refl

twice : (b c : Bool) → c ≡ false → cond b false (cond b true c) ≡ false
twice true c e = refl
twice false c e = e

cond_none : (b : Bool) (o : Option Task) → o ≡ None → cond b None o ≡ None
cond_none true o e = refl
cond_none false o e = e

and_false : (a b : Bool) → b ≡ false → (a && b) ≡ false
and_false true b e = e
and_false false b e = refl

-- the kind, the target and the rank are the task's
is_it : Kind → Option ℕ → Rank → ℕ → Task → Bool
is_it kind target r number task = (same_kind task.kind kind && same_target task.target target) && eq_by_cmp rank_cmp (rank_of number task) r

pub none_ranked : (ranks : Ranks) → ((kind : Kind) (target : Option ℕ) (r : Rank) → has_rank ranks kind target r ≡ false) → AreRanked empty 1 ranks
none_ranked ranks none = record {
  ranked = λ kind target r. none kind target r ∙ ap (is_rank kind target r) (sym (get-empty nat_cmp r.number));
  unused = λ number low. get-empty nat_cmp number;
}

module _ (tasks : Tasks) (next : ℕ) (old : Ranks) (are : AreRanked tasks next old) (number : ℕ) (task : Task) where
  -- the task of the rank's number, if that is this one
  at : (r : Rank) (there : Option Task) → eq_by_cmp nat_cmp r.number number ≡ true → get tasks number ≡ there → get tasks r.number ≡ there
  at r there e is = ap (get tasks) (nat_cmp-IsAntisymmetric r.number number (tied (nat_cmp r.number number) e)) ∙ is

  renumbered : (kind : Kind) (target : Option ℕ) (r : Rank) → eq_by_cmp nat_cmp r.number number ≡ true → is_it kind target r number task ≡ is_it kind target r r.number task
  unfolding is_it
  renumbered kind target r e = ap (λ (n : ℕ). (same_kind task.kind kind && same_target task.target target) && eq_by_cmp rank_cmp (rank_of n task) r) (sym (nat_cmp-IsAntisymmetric r.number number (tied (nat_cmp r.number number) e)))

  apart : (kind : Kind) (target : Option ℕ) (r : Rank) → eq_by_cmp nat_cmp r.number number ≡ false → is_it kind target r number task ≡ false
  unfolding is_it
  apart kind target r e = and_false (same_kind task.kind kind && same_target task.target target) _ (other_number number task r e)

  pub put_ranked : (new : Ranks) → number ≡ next → IsMarked task.kind task.target (rank_of number task) true old new → AreRanked (insert tasks number task) (next + 1) new
  unfolding is_it
  put_ranked new is marked = record { ranked = λ kind target r. marked kind target r ∙ by kind target r (eq_by_cmp nat_cmp r.number number) refl; unused = later }
    where
      free : get tasks number ≡ None
      free = are.unused number (omega (arith, is))

      by : (kind : Kind) (target : Option ℕ) (r : Rank) (b : Bool) → eq_by_cmp nat_cmp r.number number ≡ b → cond (is_it kind target r number task) true (has_rank old kind target r) ≡ is_rank kind target r (get (insert tasks number task) r.number)
      by kind target r true e =
          ap (cond (is_it kind target r number task) true) (are.ranked kind target r ∙ ap (is_rank kind target r) (at r None e free))
          ∙ cond_same (is_it kind target r number task) ∙ renumbered kind target r e
          ∙ ap (is_rank kind target r) (sym (get-insert nat_cmp_total tasks number task r.number ∙ ap (λ (b : Bool). cond b (Some task) (get tasks r.number)) e))
      by kind target r false e =
          ap (λ (b : Bool). cond b true (has_rank old kind target r)) (apart kind target r e) ∙ are.ranked kind target r
          ∙ ap (is_rank kind target r) (sym (get-insert nat_cmp_total tasks number task r.number ∙ ap (λ (b : Bool). cond b (Some task) (get tasks r.number)) e))

      later : (n : ℕ) → next + 1 ≤ n → get (insert tasks number task) n ≡ None
      later n low =
          get-insert nat_cmp_total tasks number task n ∙ ap (λ (b : Bool). cond b (Some task) (get tasks n)) (other_key nat_cmp-IsAntisymmetric n number (λ e. omega (arith, e, is)))
          ∙ are.unused n (omega arith)

  -- the rank was added, and is removed again
  pub undone_ranked : (added new : Ranks) → number ≡ next → IsMarked task.kind task.target (rank_of number task) true old added
      → IsMarked task.kind task.target (rank_of number task) false added new → AreRanked tasks next new
  unfolding is_it
  undone_ranked added new is marked gone = record {
    ranked = λ kind target r.
        gone kind target r ∙ ap (λ (b : Bool). cond (is_it kind target r number task) false b) (marked kind target r)
        ∙ by kind target r (eq_by_cmp nat_cmp r.number number) refl;
    unused = are.unused;
  }
    where
      free : get tasks number ≡ None
      free = are.unused number (omega (arith, is))

      by : (kind : Kind) (target : Option ℕ) (r : Rank) (b : Bool) → eq_by_cmp nat_cmp r.number number ≡ b
          → cond (is_it kind target r number task) false (cond (is_it kind target r number task) true (has_rank old kind target r)) ≡ is_rank kind target r (get tasks r.number)
      by kind target r true e =
          let none : is_rank kind target r (get tasks r.number) ≡ false = ap (is_rank kind target r) (at r None e free) in
          twice (is_it kind target r number task) (has_rank old kind target r) (are.ranked kind target r ∙ none) ∙ sym none
      by kind target r false e = ap (λ (b : Bool). cond b false (cond b true (has_rank old kind target r))) (apart kind target r e) ∙ are.ranked kind target r

  pub removed_ranked : (new : Ranks) → get tasks number ≡ Some task → IsMarked task.kind task.target (rank_of number task) false old new → AreRanked (remove tasks number) next new
  unfolding is_it
  removed_ranked new there marked = record {
    ranked = λ kind target r. marked kind target r ∙ by kind target r (eq_by_cmp nat_cmp r.number number) refl;
    unused = λ n low. get-remove nat_cmp_total tasks number n ∙ cond_none (eq_by_cmp nat_cmp n number) (get tasks n) (are.unused n low);
  }
    where
      by : (kind : Kind) (target : Option ℕ) (r : Rank) (b : Bool) → eq_by_cmp nat_cmp r.number number ≡ b → cond (is_it kind target r number task) false (has_rank old kind target r) ≡ is_rank kind target r (get (remove tasks number) r.number)
      by kind target r true e =
          ap (cond (is_it kind target r number task) false) (are.ranked kind target r ∙ ap (is_rank kind target r) (at r (Some task) e there) ∙ sym (renumbered kind target r e))
          ∙ cond_false (is_it kind target r number task)
          ∙ ap (is_rank kind target r) (sym (get-remove nat_cmp_total tasks number r.number ∙ ap (λ (b : Bool). cond b None (get tasks r.number)) e))
      by kind target r false e =
          ap (λ (b : Bool). cond b false (has_rank old kind target r)) (apart kind target r e) ∙ are.ranked kind target r
          ∙ ap (is_rank kind target r) (sym (get-remove nat_cmp_total tasks number r.number ∙ ap (λ (b : Bool). cond b None (get tasks r.number)) e))
