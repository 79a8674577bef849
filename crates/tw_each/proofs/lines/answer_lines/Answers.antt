use Rattle.tw_each.specs.Answers.{way}
use Rattle.tw_each.proofs.LineAnswers.{one_line_more}
use Rattle.tw_each.proofs.lines.answer_lines.Goals as goal

pub loop-index-preserved : goal.loop-index-preserved
loop-index-preserved g c =
    let line = c.in_ok-end.ensures in
    one_line_more (way c.args.run.now) c.args.before c.loop-index.index c.args.lines.now _ c.loop-index.text.items c.put_line.new.out.items line.0 c.loop-index.worst _ _ c.worse-worst.ensures c.loop-index-test.true c.loop-index.invariant line.1 line.2
