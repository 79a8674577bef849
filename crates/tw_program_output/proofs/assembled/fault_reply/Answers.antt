use Rattle.tw_program_output.proofs.ReplyNames.{Failure, IfOk-weaker, IsFaultReply, Reply, ap, failed, reply, ◌∙◌}
use Rattle.tw_program_output.proofs.assembled.fault_reply.Goals as goal

pub returns : goal.returns
returns c =
    let fault = c.args.fault in
    IfOk-weaker _ _ (λ (r : Reply). IsFaultReply fault.no fault.line (reply r.text.items r.close))
    (λ (r : Reply) h. (c.error_word.result, h ∙ ap (λ (f : Failure). failed f) c.fault_failure.ensures)) c.failed_reply.ensures
