use Rattle.std.proofs.Common.{List, ℕ, subst}
use Rattle.tw_asm.specs.Answers.{HasFault, IsLined}
use Rattle.std.specs.Prelude.{Ok}
use Rattle.tw_source.proofs.Faults.{fault_has}
use Rattle.tw_source.proofs.program.program_of_plain.Goals as goal

pub checked-requires-clause-lined : goal.checked-requires-clause-lined
checked-requires-clause-lined c = subst (λ (t : List ℕ). IsLined t (Ok c.in-Ok.lined)) c.plain_or.ensures c.in-Ok.ensures

pub faulty-requires-clause-fault : goal.faulty-requires-clause-fault
faulty-requires-clause-fault c =
    let fault = c.in-Err.fault in
    subst (λ (t : List ℕ). HasFault t fault.no fault.line fault.found) c.plain_or.ensures (fault_has c.plain_or.result.now fault.no fault.line fault.found c.in_default.not-NoMemory c.in-Err.ensures)
