use Rattle.tw_store.proofs.Here.{seat, is_there, read_is}
use Rattle.tw_store.proofs.Members.{read_knows}
use Rattle.tw_store.proofs.store.Store.view_at.Goals as goal

pub datum_at-requires : goal.datum_at-requires
datum_at-requires c =
    let x = seat c.self.inside.slab c.self.inside.next c.self.inside.queues.items c.args.self.now c.args.right.now c.place.result c.self.view_is c.self.invariant.0 c.requires c.place.ensures in
    is_there _ _ _ _ x

pub returns-clause-datum : goal.returns-clause-datum
returns-clause-datum c =
    let x = seat c.self.inside.slab c.self.inside.next c.self.inside.queues.items c.args.self.now c.args.right.now c.place.result c.self.view_is c.self.invariant.0 c.requires c.place.ensures in
    read_is _ _ _ _ x c.datum_at.result.now c.datum_at.ensures

pub returns-clause-members : goal.returns-clause-members
returns-clause-members c =
    let x = seat c.self.inside.slab c.self.inside.next c.self.inside.queues.items c.args.self.now c.args.right.now c.place.result c.self.view_is c.self.invariant.0 c.requires c.place.ensures in
    read_knows c.self.inside.slab c.self.inside.next c.self.inside.queues.items c.args.self.now c.self.view_is c.self.invariant.0 c.place.result c.datum_at.result.now x.slot x.there c.datum_at.ensures
