use Rattle.std.proofs.Common.{sym}
use Rattle.tw_lexer.proofs.FirstWords.{gap_grows}
use Rattle.tw_lexer.proofs.Texts.{tail_utf8}
use Rattle.tw_lexer.proofs.word.without_gap.Goals as goal

pub loop-rest-preserved : goal.loop-rest-preserved
loop-rest-preserved c = record {
  gap = gap_grows c.args.bytes.now c.loop-rest.rest.now c.in-len1-up.len_at_least (sym c.if-not-parts_words.ensures) c.loop-rest.invariant.gap;
  utf8 = tail_utf8 c.loop-rest.rest.now c.in-len1-up.len_at_least (sym c.if-not-parts_words.ensures) c.loop-rest.invariant.utf8;
}
