use Rattle.std.proofs.Common.{sym}
use Rattle.tw_report.proofs.LineWords.{gap_shorter}
use Rattle.tw_report.proofs.words.without_gap.Goals as goal

pub loop-rest-preserved : goal.loop-rest-preserved
loop-rest-preserved c = gap_shorter c.args.bytes.now c.loop-rest.rest.now c.in-len1-up.len_at_least (sym c.if-not-parts_words.ensures) c.loop-rest.invariant
