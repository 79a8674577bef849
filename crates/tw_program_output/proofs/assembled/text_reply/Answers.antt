use Rattle.tw_program_output.proofs.ReplyNames.{IfOk-weaker, Reply, inl, inr}
use Rattle.tw_source.proofs.Faults.{fault_has}
use Rattle.tw_program_output.proofs.assembled.text_reply.Goals as goal

pub returns-in-Ok : goal.returns-in-Ok
returns-in-Ok c = IfOk-weaker _ _ _ (λ (r : Reply) h. inl (c.utf8.text, inl (c.in-Ok.program, c.in-Ok.ensures, h))) c.hex_reply.ensures

pub returns-in_default : goal.returns-in_default
returns-in_default c =
    let fault = c.in-Err.fault in
    IfOk-weaker _ _ _ (λ (r : Reply) h. inl (c.utf8.text, inr (fault.no, fault.line, fault.found, fault_has c.args.text.now fault.no fault.line fault.found c.in_default.not-NoMemory c.in-Err.ensures, h))) c.fault_reply.ensures
