use Rattle.tw_asm.proofs.OneLine.{one_line}
use Rattle.tw_asm.proofs.theorems.one_line_each.Goals as goal

pub returns : goal.returns
returns c = one_line
