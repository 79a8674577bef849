use Rattle.tw_store.proofs.Names.{ap, arith, get, of_z, option_copied, subscript_after, subscripts_of, to_z, to_z-of_z, w64, ◌∙◌, ◌≡◌}
use Rattle.tw_datum.proofs.Subscripts.{kind_found}
use Rattle.tw_store.proofs.Here.{seat, is_there, read_is, subscripts_is}
use Rattle.tw_store.proofs.store.Store.nth_subscript.Goals as goal

pub datum_at-requires : goal.datum_at-requires
datum_at-requires c =
    let x = seat c.self.inside.slab c.self.inside.next c.self.inside.queues.items c.args.self.now c.args.right.now c.place.result c.self.view_is c.self.invariant.0 c.requires.here c.place.ensures in
    is_there _ _ _ _ x

pub returns-clause-found : goal.returns-clause-found
returns-clause-found c =
    let key : to_z w64 (of_z w64 c.args.index) ≡ c.args.index = grind (arith, to_z-of_z) in
    let x = seat c.self.inside.slab c.self.inside.next c.self.inside.queues.items c.args.self.now c.args.right.now c.place.result c.self.view_is c.self.invariant.0 c.requires.here c.place.ensures in
    c.subscript.ensures.found ∙ ap (λ k. subscript_after k (subscripts_of c.datum_at.result.now.datum.content)) key ∙ ap (subscript_after c.args.index) (subscripts_is c.args.self.now c.args.right.now.id c.datum_at.result.now.datum (read_is _ _ _ _ x c.datum_at.result.now c.datum_at.ensures))

pub returns-clause-kind : goal.returns-clause-kind
returns-clause-kind c = λ by may.
    let x = seat c.self.inside.slab c.self.inside.next c.self.inside.queues.items c.args.self.now c.args.right.now c.place.result c.self.view_is c.self.invariant.0 c.requires.here c.place.ensures in
    kind_found c.datum_at.result.now.datum by (to_z w64 (of_z w64 c.args.index)) (option_copied c.subscript.result) (get c.args.self.now.store.live c.args.right.now.id) (read_is _ _ _ _ x c.datum_at.result.now c.datum_at.ensures) c.subscript.ensures.fits c.subscript.ensures.found may
