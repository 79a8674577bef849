use Rattle.std.proofs.Common.{refl}
use Rattle.tw_each.proofs.answer.fault_answer.Goals as goal

pub returns : goal.returns
returns c = (c.in_ok-error_line.ensures, refl)
