-- Actors that have nothing to do, from the parts of a pool.
use Rattle.tw_pool.proofs.Names.{Actor, ActorCounts, AreIdle, Bool, Engine, Event, HasNoneDue, HasState, HistoryView, Input, IsDueFree, IsFree, IsIdle, IsKept, IsNextBusy, List, None, Option, Parts, PoolView, RunsOn, Server, Some, State, TypedProgram, Worker, [], actor_at, ap, arith, bare_arg, bare_task, best_mapped, cases_eq, cases_lt, entry_by, false, first_of, get, if◌then◌else◌, index_of, inl, inr, ltb-false, nat_lt, nat_tests, next_ask, next_ask_mapped, next_release, next_release_mapped, not, option_map, queue_at, refl, subst, sym, take_of, true, ℕ, ◌+◌, ◌-◌, ◌<◌, ◌∙◌, ◌≡◌, ◌≤◌}
use Rattle.tw_types.specs.Task.{best}
use Rattle.tw_pool.proofs.Freely.{deliver_none, state, viewed}
use Rattle.tw_pool.proofs.Turning as turning

pub unset : (b : Bool) → not b ≡ true → b ≡ false
unset true e = cc
unset false e = refl

module _ (verified : TypedProgram) (inputs : List Input) (layout : ActorCounts) (stopped : Bool) (traced : HistoryView) (old : Parts) (h : IsKept verified inputs layout traced.limit traced.events old) (w : PoolView) (seen : viewed verified inputs layout stopped traced ≡ w) where
  abbrev here : State
  here = state verified inputs layout stopped traced old h w seen

  at_here : HasState w here
  at_here = turning.at_here verified inputs layout stopped traced old h w seen

  everywhere : (actor : Actor) → ((due : Event) → IsDueFree w.layout actor here due → ⊥) → HasNoneDue w actor
  everywhere actor none s at = subst (λ (t : State). (due : Event) → IsDueFree w.layout actor t due → ⊥) (sym (turning.only_here verified inputs layout stopped traced old h w seen s at)) none

  none_best : (actor : Actor) → best actor old.tasks.tasks ≡ None → best actor here.tasks ≡ None
  none_best actor none = best_mapped bare_arg actor old.tasks.tasks ∙ ap (option_map (entry_by bare_task)) none

  pub server_none : (server : ℕ) → queue_at old.store.queues server ≡ [] → HasNoneDue w (Server server)
  server_none server empty = everywhere (Server server) (deliver_none verified inputs layout stopped traced old h w seen server empty)

  pub worker_none : (worker : ℕ) → best (Worker worker) old.tasks.tasks ≡ None → HasNoneDue w (Worker worker)
  worker_none worker none = everywhere (Worker worker) (λ due d. let no : None ≡ Some due = sym (ap (take_of (Worker worker)) (none_best (Worker worker) none)) ∙ d in cc)

  pub engine_none : (engine : ℕ) → next_ask engine old.rules.rules ≡ None → next_release engine old.rules.rules ≡ None → best (Engine engine) old.tasks.tasks ≡ None → HasNoneDue w (Engine engine)
  engine_none engine ask release none = everywhere (Engine engine) (λ due d.
      let asks : next_ask engine here.rules ≡ None = next_ask_mapped bare_arg engine old.rules.rules ∙ ask in
      let releases : next_release engine here.rules ≡ None = next_release_mapped bare_arg engine old.rules.rules ∙ release in
      let all : first_of engine (next_ask engine here.rules) (next_release engine here.rules) (best (Engine engine) here.tasks) ≡ None =
      ap (λ o. first_of engine o (next_release engine here.rules) (best (Engine engine) here.tasks)) asks ∙ ap (λ o. first_of engine None o (best (Engine engine) here.tasks)) releases ∙ ap (take_of (Engine engine)) (none_best (Engine engine) none) in
      let no : None ≡ Some due = sym all ∙ d in
      cc)

  pub idle_if : (actor : Actor) → IsFree w actor → HasNoneDue w actor → RunsOn w → IsIdle w actor
  idle_if actor free none on = record { state = here; has_state = at_here; free = free here at_here; none_due = none here at_here; runs_on = on here at_here }

  pub rests_if : (actor : Actor) → get old.running_tasks.tasks actor ≡ None → HasNoneDue w actor → RunsOn w → IsIdle w actor
  rests_if actor empty none on = idle_if actor (turning.is_free verified inputs layout stopped traced old h w seen actor empty) none on

-- ---- several actors

pub none_between : (p : PoolView) (from end : ℕ) → end ≤ from → AreIdle p from end
none_between p from end none index low high = let no_one : ⊥ = omega (arith, none, low, high) in absurd no_one

pub joined : (p : PoolView) (from middle end : ℕ) → AreIdle p from middle → AreIdle p middle end → AreIdle p from end
joined p from middle end first last index low high = elim (cases_lt index middle) as (λ _. IsIdle p (actor_at p.layout index)) [ inl less ↦ first index low less | inr more ↦ last index (omega (arith, more)) high ]

pub one_more : (p : PoolView) (from index : ℕ) → AreIdle p from index → IsIdle p (actor_at p.layout index) → AreIdle p from (index + 1)
one_more p from index idle own k low high = elim (cases_eq k index) as (λ _. IsIdle p (actor_at p.layout k)) [ inl is ↦ subst (λ n. IsIdle p (actor_at p.layout n)) (sym is) own | inr apart ↦ idle k low (omega (arith, high, apart)) ]

pub shorter : (p : PoolView) (from end far : ℕ) → end ≤ far → AreIdle p from far → AreIdle p from end
shorter p from end far near idle index low high = idle index low (omega (arith, near, high))

-- one more of a group of actors
pub group_goes_on : (p : PoolView) (from first number : ℕ) (actor : Actor) → actor_at p.layout (first + number) ≡ actor → AreIdle p from (first + number) → IsIdle p actor → AreIdle p from (first + (number + 1))
group_goes_on p from first number actor at idle own = shorter p from (first + (number + 1)) (first + number + 1) (omega arith) (one_more p from (first + number) idle (subst (IsIdle p) (sym at) own))

-- the first that may be busy is one after them
pub goes_on : (p : PoolView) (from middle far end : ℕ) (result : Option ℕ) → from ≤ middle → middle ≤ far → AreIdle p from far → IsNextBusy p middle end result → IsNextBusy p from end result
goes_on p from middle far end None low near idle rest = joined p from middle end (shorter p from middle far near idle) rest
goes_on p from middle far end (Some index) low near idle rest = (omega (arith, low, rest.0), rest.1, joined p from middle index (shorter p from middle far near idle) rest.2)

-- it is the first of them
pub found : (p : PoolView) (from index end result : ℕ) → index ≡ result → from ≤ index → index < end → AreIdle p from index → IsNextBusy p from end (Some result)
found p from index end result is low high idle = subst (λ n. IsNextBusy p from end (Some n)) is (low, high, idle)

pub engine_at : (layout : ActorCounts) (engine : ℕ) → engine < layout.engines → actor_at layout engine ≡ Engine engine
engine_at layout engine low = let inside : nat_lt engine layout.engines ≡ true = grind (arith, nat_tests, low) in rw inside refl

pub server_at : (layout : ActorCounts) (server : ℕ) → server < layout.servers → actor_at layout (layout.engines + server) ≡ Server server
server_at layout server low =
    let not_first : nat_lt (layout.engines + server) layout.engines ≡ false = grind (arith, nat_tests) in
    let second : nat_lt (layout.engines + server) (layout.engines + layout.servers) ≡ true = grind (arith, nat_tests, low) in
    let number : layout.engines + server - layout.engines ≡ server = omega arith in
    rw (not_first, second, number) refl

pub worker_at : (layout : ActorCounts) (worker : ℕ) → actor_at layout (layout.engines + layout.servers + worker) ≡ Worker worker
worker_at layout worker =
    let not_first : nat_lt (layout.engines + layout.servers + worker) layout.engines ≡ false = grind (arith, nat_tests) in
    let not_second : nat_lt (layout.engines + layout.servers + worker) (layout.engines + layout.servers) ≡ false = grind (arith, nat_tests) in
    let number : layout.engines + layout.servers + worker - (layout.engines + layout.servers) ≡ worker = omega arith in
    rw (not_first, not_second, number) refl

-- ---- actors by their index

abbrev at_by : ℕ → ℕ → Bool → Bool → ℕ → Actor
at_by e s in_e in_s n = if in_e then Engine n else (if in_s then Server (n - e) else Worker (n - (e + s)))

index_by : (layout : ActorCounts) (n : ℕ) (a b : Bool) → nat_lt n layout.engines ≡ a → nat_lt n (layout.engines + layout.servers) ≡ b → index_of layout (at_by layout.engines layout.servers a b n) ≡ n
index_by layout n true b is_a is_b = refl
index_by layout n false true is_a is_b = let low = ltb-false n layout.engines is_a in omega (arith, low)
index_by layout n false false is_a is_b = let low = ltb-false n (layout.engines + layout.servers) is_b in omega (arith, low)

-- the index of the actor at an index
pub index_at : (layout : ActorCounts) (n : ℕ) → index_of layout (actor_at layout n) ≡ n
index_at layout n = index_by layout n (nat_lt n layout.engines) (nat_lt n (layout.engines + layout.servers)) refl refl

-- the same search, from an actor's index
pub from_index : (p : PoolView) (from end : ℕ) (actor : Actor) (result : Option ℕ) → actor ≡ actor_at p.layout from → IsNextBusy p (index_of p.layout actor) end result → IsNextBusy p from end result
from_index p from end actor result at = subst (λ n. IsNextBusy p n end result) (ap (index_of p.layout) at ∙ index_at p.layout from)
