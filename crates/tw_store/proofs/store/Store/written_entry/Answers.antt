use Rattle.tw_store.proofs.Names.{named, ◌∙◌}
use Rattle.tw_store.proofs.Here.{entry_is, is_there, read_is, seat}
use Rattle.tw_store.proofs.store.Store.written_entry.Goals as goal

pub datum_at-requires : goal.datum_at-requires
datum_at-requires c =
    let x = seat c.self.inside.slab c.self.inside.next c.self.inside.queues.items c.args.self.now c.args.right.now c.place.result c.self.view_is c.self.invariant.0 c.requires c.place.ensures in
    is_there _ _ _ _ x

pub returns : goal.returns
returns c =
    let x = seat c.self.inside.slab c.self.inside.next c.self.inside.queues.items c.args.self.now c.args.right.now c.place.result c.self.view_is c.self.invariant.0 c.requires c.place.ensures in
    c.value_at.ensures ∙ entry_is c.args.self.now c.args.right.now.id (named c.args.subscript) c.datum_at.result.now.datum (read_is _ _ _ _ x c.datum_at.result.now c.datum_at.ensures)
