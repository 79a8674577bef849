-- Whether work waits for one actor alone.
use Rattle.std.specs.Prelude.{◌≡◌, [], None}
use Rattle.tw_types.specs.declared.actor.Actor.{Actor}
use Rattle.tw_types.specs.declared.actor.Actor.TheVariants.{Engine, Server, Worker}
use Rattle.tw_types.specs.Rule.{next_release}
use Rattle.tw_queue.specs.Targets.{IsNoTarget}
use Rattle.tw_pool_state.specs.Notes.{queue_at}
use Rattle.tw_pool_state.specs.declared.parts.Parts.{Parts}

-- holds if an engine has no rule to release, a server no notice, and no task has the actor as its target
abbrev pub HasNoWork : Actor → Parts → Type 0
HasNoWork (Engine engine) p = (next_release engine p.rules.rules ≡ None) × IsNoTarget (Engine engine) p.tasks.tasks
HasNoWork (Server server) p = queue_at p.store.queues server ≡ []
HasNoWork (Worker worker) p = IsNoTarget (Worker worker) p.tasks.tasks
