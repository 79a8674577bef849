-- Whether tasks wait that only one actor may take, or any actor of a kind.
use Rattle.std.specs.Prelude.{◌≡◌, ◌≢◌, ℕ, true, [], Some, None}
use Rattle.std.specs.FinMap.{get}
use Rattle.tw_types.specs.declared.actor.Actor.{Actor}
use Rattle.tw_types.specs.declared.actor.Actor.TheVariants.{Engine, Server, Worker}
use Rattle.tw_types.specs.declared.actor.Kind.{Kind}
use Rattle.tw_types.specs.declared.actor.Kind.TheVariants.{Control, Leaf}
use Rattle.tw_types.specs.Actor.{may_take, number_in_kind}
use Rattle.tw_types.specs.Task.{TaskOf, TasksOf}
use Rattle.tw_queue.specs.RankIndex.{Ranking}

-- holds if no task that the actor may take has it as its target
abbrev pub IsNoTarget : {A : Type 0} → Actor → TasksOf A → Type 0
IsNoTarget {A} actor tasks = (number : ℕ) (t : TaskOf A) → get tasks number ≡ Some t → may_take actor t.kind ≡ true → t.target ≢ Some (number_in_kind actor)

-- holds if each task of this kind has a target
abbrev pub HaveTargets : {A : Type 0} → Kind → TasksOf A → Type 0
HaveTargets {A} kind tasks = (number : ℕ) (t : TaskOf A) → get tasks number ≡ Some t → t.kind ≡ kind → t.target ≢ None

-- holds if there is no rank for this actor alone
abbrev pub HasNoRank : Actor → Ranking → Type 0
HasNoRank (Engine number) ranks = ranks Control number ≡ []
HasNoRank (Server number) ranks = Unit {0}
HasNoRank (Worker number) ranks = ranks Leaf number ≡ []
