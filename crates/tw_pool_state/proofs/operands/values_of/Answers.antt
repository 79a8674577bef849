use Rattle.tw_pool_state.proofs.PartNames.{Param, ap, arith, is_val, length, refl, slice_get-get_or, slice_get_read, slice_index_or, sym, ◌<◌, ◌∙◌}
use Rattle.tw_pool_state.proofs.Copied.{is_declared, past, with_value}
use Rattle.tw_pool_state.proofs.operands.values_of.Goals as goal

pub loop-index-preserved-then-not-is_val : goal.loop-index-preserved-then-not-is_val
loop-index-preserved-then-not-is_val c =
    let within : c.loop-index.index < length c.args.params.now = c.loop-index-test.true in
    past c.args.done.now.after.values c.args.params.now c.args.args.now c.loop-index.index c.index-params-index.result (slice_index_or c.args.args.now c.loop-index.index 0)
    (slice_get_read c.args.params.now (length c.args.params.now) c.loop-index.index c.index-params-index.result refl within c.index-params-index.is)
    (slice_get-get_or c.args.args.now c.loop-index.index 0 (omega (arith, within, c.requires.long)))
    c.loop-index.vals.items c.loop-index.invariant (ap (λ (p : Param). is_val p.mode) c.index-params-index.is ∙ sym c.is_val.ensures ∙ c.if-not-is_val.true)

pub value-requires : goal.value-requires
value-requires c =
    let within : c.loop-index.index < length c.args.params.now = c.loop-index-test.true in
    is_declared c.args.done.now.after.values c.args.params.now c.args.args.now c.loop-index.index c.index-params-index.result (slice_index_or c.args.args.now c.loop-index.index 0) c.requires.suit
    (slice_get_read c.args.params.now (length c.args.params.now) c.loop-index.index c.index-params-index.result refl within c.index-params-index.is)
    (slice_get-get_or c.args.args.now c.loop-index.index 0 (omega (arith, within, c.requires.long)))
    (ap (λ (p : Param). is_val p.mode) c.index-params-index.is ∙ sym c.is_val.ensures ∙ c.if-not-is_val.false)

pub loop-index-preserved : goal.loop-index-preserved
loop-index-preserved c =
    let within : c.loop-index.index < length c.args.params.now = c.loop-index-test.true in
    with_value c.args.done.now.after.values c.args.params.now c.args.args.now c.loop-index.index c.index-params-index.result (slice_index_or c.args.args.now c.loop-index.index 0)
    (slice_get_read c.args.params.now (length c.args.params.now) c.loop-index.index c.index-params-index.result refl within c.index-params-index.is)
    (slice_get-get_or c.args.args.now c.loop-index.index 0 (omega (arith, within, c.requires.long)))
    c.loop-index.vals.items c.loop-index.invariant (ap (λ (p : Param). is_val p.mode) c.index-params-index.is ∙ sym c.is_val.ensures ∙ c.if-not-is_val.false)
    c.in_ok-value.field-0 c.in_ok-value.ensures.copy _ c.in_ok-push.ensures.items
