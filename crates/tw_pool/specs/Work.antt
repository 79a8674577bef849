-- Whether work waits for one actor alone, or for any actor of a kind; which actors have nothing to do.
use Rattle.std.specs.Prelude.{◌≡◌, ◌≢◌, ◌<◌, ◌≤◌, ℕ, true, MatchOption, None, Option}
use Rattle.std.specs.FinMap.{get}
use Rattle.std.specs.FinSet as set
use Rattle.tw_types.specs.declared.actor.Actor.{Actor}
use Rattle.tw_types.specs.declared.actor.Actor.TheVariants.{Engine, Server, Worker}
use Rattle.tw_types.specs.declared.actor.Kind.{Kind}
use Rattle.tw_types.specs.declared.event.Event.{Event}
use Rattle.tw_types.specs.declared.notice.Notice.{Notice}
use Rattle.tw_types.specs.Actor.{actor_at}
use Rattle.tw_types.specs.Layout.{ActorCounts}
use Rattle.tw_types.specs.Rule.{next_release}
use Rattle.tw_types.specs.Store.{server_of}
use Rattle.tw_code.specs.machine.Due.{IsDueFree}
use Rattle.tw_code.specs.machine.State.{State}
use Rattle.tw_queue.specs.Targets.{HaveTargets, IsNoTarget}
use Rattle.tw_pool.specs.Kept.{InState}
use Rattle.tw_pool.specs.PoolView.{PoolView, HasState}
use Rattle.tw_pool.specs.Turns.{closing_at}

-- holds if an engine has no rule to release, a server no notice, and no task has the actor as its target
abbrev pub HasNoWork : ActorCounts → Actor → State → Type 0
HasNoWork layout (Engine engine) s = (next_release engine s.rules ≡ None) × IsNoTarget (Engine engine) s.tasks
HasNoWork layout (Server server) s = (n : Notice) → set.contains s.notices n ≡ true → server_of layout.servers n.datum ≢ server
HasNoWork layout (Worker worker) s = IsNoTarget (Worker worker) s.tasks

-- holds if this is so in the pool's state
abbrev pub LacksWork : PoolView → Actor → Type 0
LacksWork p actor = InState p (HasNoWork p.layout actor)

-- holds if each waiting task of this kind has a target
abbrev pub AreTargeted : PoolView → Kind → Type 0
AreTargeted p kind = InState p (λ s. HaveTargets kind s.tasks)

-- ---- actors that have nothing to do

-- holds if no event is due to the actor while it has no task
abbrev pub HasNoneDue : PoolView → Actor → Type 0
HasNoneDue p actor = InState p (λ s. (due : Event) → IsDueFree p.layout actor s due → ⊥)

-- holds if the run isn't over
abbrev pub RunsOn : PoolView → Type 0
RunsOn p = InState p (λ s. closing_at p s ≡ None)

-- the actor has nothing to do there, and the run isn't over
pub record IsIdle (p : PoolView) (actor : Actor) : Type 0 where
  pub state : State
  pub has_state : HasState p state
  pub free : get state.frames actor ≡ None
  pub none_due : (due : Event) → IsDueFree p.layout actor state due → ⊥
  pub runs_on : closing_at p state ≡ None

-- holds if no actor from one index up to another has anything to do
abbrev pub AreIdle : PoolView → ℕ → ℕ → Type 0
AreIdle p from end = (index : ℕ) → from ≤ index → index < end → IsIdle p (actor_at p.layout index)

-- holds for the first actor from one index up to another that may have something to do, if one may
abbrev pub IsNextBusy : PoolView → ℕ → ℕ → Option ℕ → Type 0
IsNextBusy p from end result = MatchOption result (AreIdle p from end) (λ index. (from ≤ index) × (index < end) × AreIdle p from index)
