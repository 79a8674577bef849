use Rattle.std.proofs.Common.{◌≡◌, Some, List, ◌∷◌, [], ◌+◌, ◌≤◌, sym, ap, subst, arith, length, length-append, drop}
use Rattle.std.specs.Vec.Iter.{into_iter_items}
use Rattle.tw_types.specs.declared.value.Value.{Value}
use Rattle.tw_rights.specs.declared.arg.Arg.{Arg}
use Rattle.tw_rights.specs.Bundled.{bundled}
use Rattle.tw_rights.proofs.Bundling.{IsUnderWay, begins, has_register, one_there, goes_on, ends}
use Rattle.tw_rights.proofs.file.RightFile.bundle.Goals as goal

pub loop-index-init : goal.loop-index-init
loop-index-init c =
    let from = begins c.args.self.now c.args.params.now c.args.args.now c.args.vals.items c.requires.fit in (
      subst (λ (done : List Arg). IsUnderWay (bundled c.args.self.now c.args.params.now c.args.args.now c.args.vals.items) c.args.self.now c.args.params.now c.args.args.now (into_iter_items c.into_iter-vals.result) done) (sym c.requires.room.empty)
          (subst (λ (vs : List Value). IsUnderWay (bundled c.args.self.now c.args.params.now c.args.args.now c.args.vals.items) c.args.self.now c.args.params.now c.args.args.now vs []) (sym c.into_iter-vals.ensures.rest) from),
      ap length c.requires.room.empty,
      c.requires.room.fits,
    )

pub bounds-args-index : goal.bounds-args-index
bounds-args-index c = has_register _ _ _ _ _ _ c.loop-index.index c.loop-index.invariant.0 c.index-params-index.result (omega (arith, c.loop-index-test.true))

pub take_arg-arg-requires : goal.take_arg-arg-requires
take_arg-arg-requires c = one_there _ _ _ _ _ _ c.loop-index.index c.loop-index.invariant.0 c.index-params-index.result (omega (arith, c.loop-index-test.true)) 0

pub loop-index-preserved : goal.loop-index-preserved
loop-index-preserved c =
    let on = goes_on _ _ _ _ _ _ c.loop-index.index c.loop-index.invariant.0 c.index-params-index.result (omega (arith, c.loop-index-test.true)) 0 _ c.take_arg-arg.ensures in (
      subst (λ (done : List Arg). IsUnderWay (bundled c.args.self.now c.args.params.now c.args.args.now c.args.vals.items) c.take_arg-arg.new.self (drop (c.loop-index.index + 1) c.args.params.now) (drop (c.loop-index.index + 1) c.args.args.now) (into_iter_items c.take_arg-arg.new.vals) done) (sym c.push_reserved.ensures.items) on,
      omega (arith, ap length c.push_reserved.ensures.items, length-append c.loop-index.bundle.items (c.take_arg-arg.result ∷ []), c.loop-index.invariant.1),
      subst (λ n. length c.args.params.now ≤ n) (sym c.push_reserved.ensures.capacity) c.loop-index.invariant.2,
    )

pub returns : goal.returns
returns c =
    subst (λ (done : List Arg). bundled c.args.self.now c.args.params.now c.args.args.now c.args.vals.items ≡ Some (record { args = done; file = c.loop-index.self })) (sym c.of.ensures)
    (ends _ _ _ _ _ _ c.loop-index.index c.loop-index.invariant.0 (omega (arith, c.loop-index-test.false)))
