use Rattle.tw_asm.proofs.OneFault as one_fault
use Rattle.tw_asm.proofs.theorems.one_first_fault.Goals as goal

pub returns : goal.returns
returns c = one_fault.one_first_fault
