use Rattle.tw_report.proofs.HistoryReading.{cut_more, never}
use Rattle.tw_report.proofs.history.cut_history.Goals as goal

pub loop-line-preserved : goal.loop-line-preserved
loop-line-preserved c =
    let first = rw c.in-Some.is at c.first_line.ensures in
    cut_more c.args.text.now c.loop-line.rest.now c.first_line.result.0.now c.in-Some.others.now c.loop-line.count c.loop-line.invariant first (λ w. never (rw c.if-is_word.false at (c.is_word.ensures.1 w)))
