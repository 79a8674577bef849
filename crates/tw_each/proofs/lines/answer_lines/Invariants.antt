use Rattle.tw_each.proofs.Names.{AreAnswers, map, take, way}
use Rattle.tw_each.proofs.lines.answer_lines.Given as goal

abbrev pub invariant-loop-index : goal.invariant-loop-index
invariant-loop-index g l = AreAnswers (way l.run) l.before (map (λ line. line.now) (take l.index l.lines)) l.text.items l.worst
