use Rattle.std.proofs.Common.{length}
use Rattle.tw_asm.proofs.instructions.+operands_of.Given as goal

abbrev pub decreases-operands_of : goal.decreases-operands_of
decreases-operands_of l = length l.forms.now
