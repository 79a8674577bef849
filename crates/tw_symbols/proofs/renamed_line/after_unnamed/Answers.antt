use Rattle.tw_symbols.proofs.TextNames.{List, arith, filter, is_unnamed, texts, ℕ, ◌++◌, ◌≡◌}
use Rattle.tw_symbols.proofs.WordByWord.{unnamed_end, unnamed_more}
use Rattle.tw_symbols.proofs.renamed_line.after_unnamed.Goals as goal

pub loop-left-preserved : goal.loop-left-preserved
loop-left-preserved c = record {
  so_far = unnamed_more c.loop-left.left.now _ c.loop-left.more c.after_word-more.result c.in_ok-more.field-0 (λ (tail : List (List ℕ)). texts c.args.plains.now ≡ filter is_unnamed (texts c.args.words.now) ++ tail) (omega arith) c.in_ok-more.was
      c.loop-left.invariant.so_far c.after_word-more.ensures;
}

pub returns : goal.returns
returns c = unnamed_end c.loop-left.left.now c.args.plains.now (filter is_unnamed (texts c.args.words.now)) c.loop-left.more (omega arith) c.loop-left.invariant.so_far
