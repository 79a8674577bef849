-- The best task is that of the first of the ranks that are offered to the actor.
use Rattle.std.proofs.Common.{◌≡◌, ℕ, Bool, true, false, ◌&&◌, ◌||◌, refl, sym, ap, subst, ◌∙◌, ℤ, is_lt, int_cmp, nat_cmp}
use Rattle.tw_machine.proofs.Names.{Actor, AreRanked, Control, Engine, IsLeast, Kind, Leaf, None, Option, Rank, Ranks, Server, Some, Task, Tasks, Worker, and_parts, best, eq_by_cmp, get, has_rank, has_rank_for, is_eligible, is_for, is_offered, is_rank, may_take, ordering_then, own_key, rank_cmp, rank_of, same_kind, same_target}
use Rattle.tw_types.proofs.Numbers.{nat_itself, nat_same}
use Rattle.tw_machine.proofs.BestTasks.{IsAhead, best_is, best_none}
use Rattle.tw_machine.proofs.RankOrder.{rank_cmp_total, same_priority}
use Rattle.tw_machine.proofs.Targets.{kind_is, own_kind, own_target, target_is}

control_is : (number : ℕ) (kind : Kind) → may_take (Engine number) kind ≡ true → kind ≡ Control
control_is number Control e = refl
control_is number Leaf e = cc

leaf_is : (number : ℕ) (kind : Kind) → may_take (Worker number) kind ≡ true → kind ≡ Leaf
leaf_is number Control e = cc
leaf_is number Leaf e = refl

or_right : (a b : Bool) → b ≡ true → (a || b) ≡ true
or_right true b e = refl
or_right false b e = e

both : (a b : Bool) → a ≡ true → b ≡ true → (a && b) ≡ true
both true b e f = f
both false b e f = cc

is_for_own : (target : Option ℕ) (number : ℕ) → target ≡ Some number → is_for target number ≡ true
is_for_own target number is = ap (λ (t : Option ℕ). is_for t number) is ∙ nat_itself number

module _ (tasks : Tasks) (next : ℕ) (ranks : Ranks) (are : AreRanked tasks next ranks) where
  -- ---- the ranks of tasks are offered

  has_own : (number : ℕ) (task : Task) → get tasks number ≡ Some task → has_rank ranks task.kind task.target (rank_of number task) ≡ true
  has_own number task there =
      are.ranked task.kind task.target (rank_of number task) ∙ ap (is_rank task.kind task.target (rank_of number task)) there
      ∙ both (same_kind task.kind task.kind && same_target task.target task.target) (eq_by_cmp rank_cmp (rank_of number task) (rank_of number task))
      (both (same_kind task.kind task.kind) (same_target task.target task.target) (own_kind task.kind) (own_target task.target)) (own_key rank_cmp_total (rank_of number task))

  has_for : (kind : Kind) (number : ℕ) (target : Option ℕ) (rank : Rank) → is_for target number ≡ true → has_rank ranks kind target rank ≡ true → has_rank_for ranks kind number rank ≡ true
  has_for kind number None rank for there = ap (λ b. b || has_rank ranks kind (Some number) rank) there
  has_for kind number (Some target) rank for there =
      or_right (has_rank ranks kind None rank) (has_rank ranks kind (Some number) rank) (ap (λ (n : ℕ). has_rank ranks kind (Some n) rank) (sym (nat_same target number for)) ∙ there)

  offered : (actor : Actor) (number : ℕ) (task : Task) → get tasks number ≡ Some task → is_eligible actor task ≡ true → is_offered ranks actor (rank_of number task) ≡ true
  offered (Engine own) number task there may =
      let parts = and_parts (may_take (Engine own) task.kind) (is_for task.target own) may in
      has_for Control own task.target (rank_of number task) parts.1
      (subst (λ (kind : Kind). has_rank ranks kind task.target (rank_of number task) ≡ true) (control_is own task.kind parts.0) (has_own number task there))
  offered (Server own) number task there may = cc
  offered (Worker own) number task there may =
      let parts = and_parts (may_take (Worker own) task.kind) (is_for task.target own) may in
      has_for Leaf own task.target (rank_of number task) parts.1
      (subst (λ (kind : Kind). has_rank ranks kind task.target (rank_of number task) ≡ true) (leaf_is own task.kind parts.0) (has_own number task there))

  -- ---- what is offered is the rank of a task

  -- holds if the task is of this kind, for this number, and of the rank's priority
  abbrev IsOf : Kind → ℕ → Rank → Task → Type 0
  IsOf kind number rank task = (task.kind ≡ kind) × (is_for task.target number ≡ true) × (rank.priority ≡ task.priority)

  is_ranked : (kind : Kind) (target : Option ℕ) (rank : Rank) (task : Task) → has_rank ranks kind target rank ≡ true → get tasks rank.number ≡ Some task
      → (task.kind ≡ kind) × (task.target ≡ target) × (rank.priority ≡ task.priority)
  is_ranked kind target rank task has there =
      let all : ((same_kind task.kind kind && same_target task.target target) && eq_by_cmp rank_cmp (rank_of rank.number task) rank) ≡ true = ap (is_rank kind target rank) (sym there) ∙ sym (are.ranked kind target rank) ∙ has in
      let parts = and_parts (same_kind task.kind kind && same_target task.target target) (eq_by_cmp rank_cmp (rank_of rank.number task) rank) all in
      let same = and_parts (same_kind task.kind kind) (same_target task.target target) parts.0 in
      (kind_is task.kind kind same.0, target_is task.target target same.1, same_priority (rank_of rank.number task) rank parts.1)

  is_of : (kind : Kind) (number : ℕ) (rank : Rank) (task : Task) → has_rank_for ranks kind number rank ≡ true → get tasks rank.number ≡ Some task → IsOf kind number rank task
  is_of kind number rank task has there = by (has_rank ranks kind None rank) refl has
    where
      by : (b : Bool) → has_rank ranks kind None rank ≡ b → (b || has_rank ranks kind (Some number) rank) ≡ true → IsOf kind number rank task
      by true any e = let is = is_ranked kind None rank task any there in (is.0, ap (λ (t : Option ℕ). is_for t number) is.1, is.2)
      by false none own = let is = is_ranked kind (Some number) rank task own there in (is.0, is_for_own task.target number is.1, is.2)

  is_offered_to : (actor : Actor) (rank : Rank) (task : Task) → is_offered ranks actor rank ≡ true → get tasks rank.number ≡ Some task → (is_eligible actor task ≡ true) × (rank.priority ≡ task.priority)
  is_offered_to (Engine own) rank task has there =
      let is = is_of Control own rank task has there in (both (may_take (Engine own) task.kind) (is_for task.target own) (ap (may_take (Engine own)) is.0) is.1, is.2)
  is_offered_to (Server own) rank task has there = cc
  is_offered_to (Worker own) rank task has there =
      let is = is_of Leaf own rank task has there in (both (may_take (Worker own) task.kind) (is_for task.target own) (ap (may_take (Worker own)) is.0) is.1, is.2)

  not_for : (kind : Kind) (number : ℕ) (rank : Rank) → get tasks rank.number ≡ None → has_rank_for ranks kind number rank ≡ true → ⊥
  not_for kind number rank none has =
      let any : has_rank ranks kind None rank ≡ false = are.ranked kind None rank ∙ ap (is_rank kind None rank) none in
      let own : has_rank ranks kind (Some number) rank ≡ false = are.ranked kind (Some number) rank ∙ ap (is_rank kind (Some number) rank) none in
      let absent : has_rank_for ranks kind number rank ≡ false = ap (λ b. b || has_rank ranks kind (Some number) rank) any ∙ own in
      cc

  -- an offered rank has a task
  pub has_task : (actor : Actor) (rank : Rank) → is_offered ranks actor rank ≡ true → get tasks rank.number ≡ None → ⊥
  has_task (Engine own) rank has none = not_for Control own rank none has
  has_task (Server own) rank has none = cc
  has_task (Worker own) rank has none = not_for Leaf own rank none has

  -- ---- the best task

  pub best_without : (actor : Actor) → IsLeast (is_offered ranks actor) None → best actor tasks ≡ None
  best_without actor none = best_none actor tasks (λ number task there. by number task there (is_eligible actor task) refl)
    where
      by : (number : ℕ) (task : Task) → get tasks number ≡ Some task → (b : Bool) → is_eligible actor task ≡ b → is_eligible actor task ≡ false
      by number task there true e = let has = offered actor number task there e in let hasnt = none (rank_of number task) in cc
      by number task there false e = e

  pub best_first : (actor : Actor) (rank : Rank) (task : Task) → IsLeast (is_offered ranks actor) (Some rank) → get tasks rank.number ≡ Some task → best actor tasks ≡ Some (rank.number, task)
  best_first actor rank task least there = best_is actor tasks (rank.number, task) there is.0 ahead
    where
      is : (is_eligible actor task ≡ true) × (rank.priority ≡ task.priority)
      is = is_offered_to actor rank task least.0 there

      ahead : (number : ℕ) (other : Task) → get tasks number ≡ Some other → is_eligible actor other ≡ true → IsAhead (rank.number, task) (number, other)
      ahead number other here may =
          subst (λ (p : ℤ). is_lt (ordering_then (int_cmp p other.priority) (nat_cmp number rank.number)) ≡ false) is.1
          (least.1 (rank_of number other) (offered actor number other here may))
