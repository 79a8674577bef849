use Rattle.tw_store.proofs.Names.{AreOwn, Served, subst}
use Rattle.tw_store.proofs.store.Store.servers.Goals as goal

pub returns-clause-own : goal.returns-clause-own
returns-clause-own c = subst (λ (s : Served). AreOwn s.queues) c.self.view_is c.self.invariant.2
