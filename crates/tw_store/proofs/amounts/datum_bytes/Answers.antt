use Rattle.tw_store.proofs.Names.{Option, Value, ap, arith, option_map, text_bytes_if, ◌∙◌}
use Rattle.tw_store.proofs.Texts.{bytes_all, bytes_next}
use Rattle.tw_store.proofs.amounts.datum_bytes.Goals as goal

pub loop-index-init : goal.loop-index-init
loop-index-init c = let value = c.text_bytes-bytes.ensures ∙ ap text_bytes_if c.value.ensures in omega (arith, value, c.text_bytes-bytes.type_inv)

pub loop-index-preserved : goal.loop-index-preserved
loop-index-preserved c =
    let subscript = c.text_bytes-subscript.ensures ∙ ap text_bytes_if c.nth_subscript.ensures in
    let value = c.value_bytes-value.ensures ∙ ap (λ (o : Option (Value × Value)). text_bytes_if (option_map (λ e. e.1) o)) c.nth_value.ensures in
    bytes_next c.args.datum.now.datum.content c.loop-index.index c.loop-index.bytes _ _ _ _ c.loop-index.invariant subscript value c.saturating_add.ensures c.saturating_add-bytes.ensures

pub returns : goal.returns
returns c = bytes_all c.args.datum.now.datum.content c.loop-index.index c.loop-index.bytes (omega (arith, c.count-index-end.ensures, c.loop-index-test.false)) c.loop-index.invariant
