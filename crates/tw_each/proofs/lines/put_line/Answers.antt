use Rattle.tw_each.proofs.Names.{IfOk-weaker, lt-ltb, way}
use Rattle.tw_each.proofs.LineAnswers.{long_line}
use Rattle.tw_each.proofs.lines.put_line.Goals as goal

pub returns-then-line-gt-MOST_BYTES : goal.returns-then-line-gt-MOST_BYTES
returns-then-line-gt-MOST_BYTES g c =
    IfOk-weaker _ _ _ (λ worst h. long_line (way c.args.run.now) c.args.number c.args.line.now c.args.out.now.items c.put_unread.new.out.items worst (lt-ltb _ _ c.if-line-gt-MOST_BYTES.true) h) c.put_unread.ensures
