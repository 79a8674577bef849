use Rattle.std.proofs.Common.{length}
use Rattle.tw_binary.proofs.rows.+operands.Given as goal

abbrev pub decreases-operands : goal.decreases-operands
decreases-operands l = length l.forms.now
