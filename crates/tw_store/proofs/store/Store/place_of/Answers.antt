use Rattle.tw_store.proofs.Here.{place_is}
use Rattle.tw_store.proofs.store.Store.place_of.Goals as goal

pub returns : goal.returns
returns c = place_is c.self.inside.slab c.self.inside.next c.self.inside.queues.items c.args.self.now c.self.view_is c.self.invariant.0 c.args.id c.place_of.result c.place_of.ensures.found c.place_of.ensures.absent
