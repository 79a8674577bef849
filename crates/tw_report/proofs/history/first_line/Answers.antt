use Rattle.tw_report.proofs.HistoryReading.{feed_cut, no_feed}
use Rattle.tw_report.proofs.history.first_line.Goals as goal

pub returns-then-byte-eq10 : goal.returns-then-byte-eq10
returns-then-byte-eq10 c = feed_cut c.args.text.now c.loop-byte.byte-index c.loop-byte.count c.loop-byte.invariant.count c.loop-byte-test.true c.if-byte-eq10.true c.loop-byte.invariant.none

pub returns : goal.returns
returns c = no_feed c.args.text.now c.loop-byte.byte-index c.loop-byte-test.false c.loop-byte.invariant.none
