use Rattle.tw_handles.proofs.Names.{AreTextsTo, arith, begin_of, length, map, range_with_len, subst, text_in, ℕ, ◌≡◌}
use Rattle.tw_handles.proofs.Listed.{listed_more, texts_more, why_all}
use Rattle.tw_handles.proofs.lists.read_texts.Goals as goal

pub returns-in-Err : goal.returns-in-Err
returns-in-Err c = why_all c.args.bytes.now c.args.ends.now c.loop-index.index c.in-Err.code c.loop-index-test.true c.in-Err.ensures

pub loop-index-preserved : goal.loop-index-preserved
loop-index-preserved c =
    let bytes = c.args.bytes.now in let ends = c.args.ends.now in (
      texts_more bytes ends c.loop-index.index c.loop-index.invariant.0 c.in-Ok.ensures.0,
      listed_more (text_in bytes ends) c.loop-index.texts.items c.push_text.new.texts.items c.loop-index.index c.in-Ok.text c.loop-index.invariant.1 c.in_ok-push_text-in-Ok.ensures c.in-Ok.ensures.1,
    )

pub returns : goal.returns
returns c =
    let bytes = c.args.bytes.now in let ends = c.args.ends.now in
    let last : c.loop-index.index ≡ length ends = omega (arith, c.loop-index-test.false, c.loop-index.auto.index-end) in
    let whole : begin_of ends (length ends) ≡ length bytes = omega (arith, c.begin_at.ensures, c.if-begin_at-bytes.false) in (
      (subst (λ (n : ℕ). AreTextsTo bytes ends n) last c.loop-index.invariant.0, whole),
      subst (λ (n : ℕ). c.loop-index.texts.items ≡ map (text_in bytes ends) (range_with_len 0 n)) last c.loop-index.invariant.1,
    )
