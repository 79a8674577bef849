-- Without ranks for a target, no task has it.
use Rattle.tw_queue.proofs.Names.{Actor, Arg, Contains, Control, Engine, HasNoRank, HaveTargets, IsIndex, IsNoTarget, Kind, Leaf, List, None, Option, Ranking, Server, Some, TaskOf, Waiting, Worker, [], ap, contains_none, get, may_take, queue_of, rank_of, refl, slot_at, subst, tasks_in, true, ℕ, ◌∙◌, ◌≡◌}
use Rattle.tw_queue.proofs.Entries.{seen}

module _ (slots : List (Option Waiting)) (ranks : Ranking) (index : IsIndex (slot_at slots) ranks) where
  -- a task of the kind with this target has a rank in its run queue
  lacks : (kind : Kind) (target : Option ℕ) → ranks kind (queue_of target) ≡ [] → (number : ℕ) (t : TaskOf Arg) → get (tasks_in slots) number ≡ Some t → t.kind ≡ kind → t.target ≡ target → ⊥
  lacks kind target none number t e of_kind is =
      let found = (seen slots index.apart).found number t e in
      let w = found.0.waiting in
      let rank = rank_of found.0.slot w in
      let its = index.complete found.0.slot w found.0.there in
      let here = subst (λ (k : Kind). Contains (ranks k (queue_of w.target)) rank) (ap (λ (u : TaskOf Arg). u.kind) found.1 ∙ of_kind) its in
      let there = subst (λ (o : Option ℕ). Contains (ranks kind (queue_of o)) rank) (ap (λ (u : TaskOf Arg). u.target) found.1 ∙ is) here in
      contains_none rank (subst (λ rs. Contains rs rank) none there)

  control : (kind : Kind) (n : ℕ) → may_take (Engine n) kind ≡ true → kind ≡ Control
  control Control n may = refl
  control Leaf n may = cc

  leaf : (kind : Kind) (n : ℕ) → may_take (Worker n) kind ≡ true → kind ≡ Leaf
  leaf Control n may = cc
  leaf Leaf n may = refl

  pub no_target : (actor : Actor) → HasNoRank actor ranks → IsNoTarget actor (tasks_in slots)
  no_target (Engine n) none number t e may is = lacks Control (Some n) none number t e (control t.kind n may) is
  no_target (Server n) none number t e may is = cc
  no_target (Worker n) none number t e may is = lacks Leaf (Some n) none number t e (leaf t.kind n may) is

  pub have_targets : (kind : Kind) → ranks kind 16 ≡ [] → HaveTargets kind (tasks_in slots)
  have_targets kind none number t e of_kind is = lacks kind None none number t e of_kind is
