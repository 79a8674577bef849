-- The index has the best task.
use Rattle.tw_queue.proofs.Names.{Actor, Arg, Bool, Contains, Control, Engine, Equal, Greater, IsBest, IsEntryAt, IsIndex, IsOwnQueue, IsRankBest, IsTarget, Kind, Leaf, Less, None, Option, Ordering, Rank, Ranking, Server, Some, TaskOf, TasksOf, Waiting, Worker, all_at, and_parts, ap, arith, best, contains_none, false, inl, inr, int_cmp, is_eligible, is_for, is_lt, may_take, nat_cmp, nat_eq, nat_itself, nat_same, number_in_kind, option_map, ordering_then, queue_of, rank_cmp, rank_of, refl, subst, sym, taken_task, task_in, true, ℕ, ◌&&◌, ◌∙◌, ◌≡◌, ◌⊎◌}
use Rattle.tw_queue.proofs.Bests.{IsAhead, best_is, best_none}
use Rattle.tw_queue.proofs.Indexing.{Entries}
use Rattle.tw_queue.proofs.Entries.{AreSeen, HasEntry}

-- the entry of the best rank is the best task's
pub record IsBestTask (actor : Actor) (entry : Entries) (tasks : TasksOf Arg) (rank : Rank) : Type 0 where
  pub waiting : Waiting
  pub there : entry rank.slot ≡ Some waiting
  pub best_is : best actor tasks ≡ Some (waiting.task.no, task_in waiting)

for_itself : (target : Option ℕ) (number queue : ℕ) → IsTarget target → queue_of target ≡ queue → IsOwnQueue number queue → is_for target number ≡ true
for_itself None number queue few at own = refl
for_itself (Some t) number queue few at (inl last) = absurd (omega arith)
for_itself (Some t) number queue few at (inr same) = subst (λ n. nat_eq t n ≡ true) (at ∙ same) (nat_itself t)

own_queue : (target : Option ℕ) (number : ℕ) → is_for target number ≡ true → IsOwnQueue number (queue_of target)
own_queue None number e = inl refl
own_queue (Some t) number e = inr (nat_same t number e)

-- slots decide last
but_for_slots : (o p q : Ordering) → is_lt (ordering_then o (ordering_then p q)) ≡ false → is_lt (ordering_then o p) ≡ false
but_for_slots Less p q e = e
but_for_slots Equal Less q e = e
but_for_slots Equal Equal q e = refl
but_for_slots Equal Greater q e = refl
but_for_slots Greater p q e = refl

module _ (entry : Entries) (ranks : Ranking) (is : IsIndex entry ranks) (tasks : TasksOf Arg) (seen : AreSeen entry tasks) where
  module _ (actor : Actor) (kind : Kind) (number : ℕ) (own : (k : Kind) → may_take actor k ≡ true → k ≡ kind) (may : may_take actor kind ≡ true) (is_number : number_in_kind actor ≡ number) where
    -- the rank of each task that the actor may take is one of those
    candidate : (q : ℕ) (v : Waiting) → entry q ≡ Some v → is_eligible actor (task_in v) ≡ true → Contains (ranks kind 16) (rank_of q v) ⊎ Contains (ranks kind number) (rank_of q v)
    candidate q v e eligible = by (own_queue v.target number (subst (λ n. is_for v.target n ≡ true) is_number (and_parts (may_take actor v.kind) _ eligible).1))
      where
        there : Contains (ranks kind (queue_of v.target)) (rank_of q v)
        there = subst (λ k. Contains (ranks k (queue_of v.target)) (rank_of q v)) (own v.kind (and_parts (may_take actor v.kind) _ eligible).0) (is.complete q v e)

        by : IsOwnQueue number (queue_of v.target) → Contains (ranks kind 16) (rank_of q v) ⊎ Contains (ranks kind number) (rank_of q v)
        by (inl any) = inl (subst (λ p. Contains (ranks kind p) (rank_of q v)) any there)
        by (inr same) = inr (subst (λ p. Contains (ranks kind p) (rank_of q v)) same there)

    none_eligible : IsBest number (ranks kind) None → best actor tasks ≡ None
    none_eligible empty = best_none actor tasks (λ q other e. by q other (is_eligible actor other) refl (seen.found q other e))
      where
        nobody : (q : ℕ) (v : Waiting) → Contains (ranks kind 16) (rank_of q v) ⊎ Contains (ranks kind number) (rank_of q v) → ⊥
        nobody q v (inl c) = contains_none (rank_of q v) (subst (λ xs. Contains xs (rank_of q v)) empty.0 c)
        nobody q v (inr c) = contains_none (rank_of q v) (subst (λ xs. Contains xs (rank_of q v)) empty.1 c)

        by : (q : ℕ) (other : TaskOf Arg) (b : Bool) → is_eligible actor other ≡ b → (s : HasEntry q entry) × (task_in s.waiting ≡ other) → is_eligible actor other ≡ false
        by q other false e found = e
        by q other true e found = absurd (nobody found.0.slot found.0.waiting (candidate found.0.slot found.0.waiting found.0.there (ap (is_eligible actor) found.1 ∙ e)))

    finds : (rank : Rank) → IsBest number (ranks kind) (Some rank) → IsBestTask actor entry tasks rank
    finds rank first = by (entry rank.slot) refl (is.sound kind first.0 rank first.2)
      where
        not_better : (v : Waiting) (q : ℕ) → Contains (ranks kind 16) (rank_of q v) ⊎ Contains (ranks kind number) (rank_of q v) → is_lt (rank_cmp rank (rank_of q v)) ≡ false
        not_better v q (inl c) = all_at (λ y. is_lt (rank_cmp rank y) ≡ false) (ranks kind 16) (rank_of q v) first.3.0 c
        not_better v q (inr c) = all_at (λ y. is_lt (rank_cmp rank y) ≡ false) (ranks kind number) (rank_of q v) first.3.1 c

        ahead : (w : Waiting) → w.priority ≡ rank.priority → w.task.no ≡ rank.number → (q : ℕ) (other : TaskOf Arg) → is_eligible actor other ≡ true → (s : HasEntry q entry) × (task_in s.waiting ≡ other) → IsAhead (w.task.no, task_in w) (q, other)
        ahead w same named q other eligible found =
            let v = found.0.waiting in
            let low = not_better v found.0.slot (candidate found.0.slot v found.0.there (ap (is_eligible actor) found.1 ∙ eligible)) in
            let low_number : is_lt (ordering_then (int_cmp rank.priority v.priority) (nat_cmp v.task.no rank.number)) ≡ false = but_for_slots (int_cmp rank.priority v.priority) (nat_cmp v.task.no rank.number) (nat_cmp found.0.slot rank.slot) low in
            subst (λ t. is_lt (ordering_then (int_cmp w.priority t.priority) (nat_cmp q w.task.no)) ≡ false) found.1
            (subst (λ n. is_lt (ordering_then (int_cmp w.priority v.priority) (nat_cmp n w.task.no)) ≡ false) found.0.number_is
            (subst (λ n. is_lt (ordering_then (int_cmp w.priority v.priority) (nat_cmp v.task.no n)) ≡ false) (sym named)
            (subst (λ p. is_lt (ordering_then (int_cmp p v.priority) (nat_cmp v.task.no rank.number)) ≡ false) (sym same) low_number)))

        by : (o : Option Waiting) → entry rank.slot ≡ o → IsEntryAt kind first.0 rank o → IsBestTask actor entry tasks rank
        by None e at = absurd at
        by (Some w) e at =
            let target = is.targets rank.slot w e in
            let for_it : is_for w.target (number_in_kind actor) ≡ true = subst (λ n. is_for w.target n ≡ true) (sym is_number) (for_itself w.target number first.0 target at.1 first.1) in
            let may_it : may_take actor w.kind ≡ true = subst (λ k. may_take actor k ≡ true) (sym at.0) may in
            let eligible : is_eligible actor (task_in w) ≡ true = rw (may_it, for_it) refl in
            record {
              waiting = w;
              there = e;
              best_is = best_is actor tasks (w.task.no, task_in w) (seen.here rank.slot w e) eligible
                  (λ q other f may_q. ahead w at.2 at.3 q other may_q (seen.found q other f));
            }

  engine_takes : (number : ℕ) (k : Kind) → may_take (Engine number) k ≡ true → k ≡ Control
  engine_takes number Control e = refl
  engine_takes number Leaf e = cc

  worker_takes : (number : ℕ) (k : Kind) → may_take (Worker number) k ≡ true → k ≡ Leaf
  worker_takes number Control e = cc
  worker_takes number Leaf e = refl

  server_takes : (number : ℕ) (task : TaskOf Arg) → is_eligible (Server number) task ≡ false
  server_takes number task = by task.kind
    where
      by : (k : Kind) → (may_take (Server number) k && is_for task.target number) ≡ false
      by Control = refl
      by Leaf = refl

  -- ---- for each actor

  pub index_finds : (actor : Actor) (rank : Rank) → IsRankBest actor ranks (Some rank) → IsBestTask actor entry tasks rank
  index_finds (Engine number) rank first = finds (Engine number) Control number (engine_takes number) refl refl rank first
  index_finds (Server number) rank first = cc
  index_finds (Worker number) rank first = finds (Worker number) Leaf number (worker_takes number) refl refl rank first

  pub index_none : (actor : Actor) → IsRankBest actor ranks None → best actor tasks ≡ None
  index_none (Engine number) empty = none_eligible (Engine number) Control number (engine_takes number) refl refl empty
  index_none (Server number) empty = best_none (Server number) tasks (λ q other e. server_takes number other)
  index_none (Worker number) empty = none_eligible (Worker number) Leaf number (worker_takes number) refl refl empty

-- ---- the task that is taken

-- the task of the best rank is handed out
pub handed_best : (entry : Entries) (tasks : TasksOf Arg) (actor : Actor) (rank : Rank) → (t : IsBestTask actor entry tasks rank)
    → option_map taken_task (best actor tasks) ≡ Some t.waiting.task
handed_best entry tasks actor rank t = ap (option_map taken_task) t.best_is
