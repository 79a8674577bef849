use Rattle.tw_program_output.proofs.ReplyNames.{IsAdmittedOr, IsPrinted, List, Procedure, inl, refl, subst, text_of}
use Rattle.tw_program_output.proofs.check.checked_reply.Goals as goal

pub returns-in_ok-requested_text-in-Run : goal.returns-in_ok-requested_text-in-Run
returns-in_ok-requested_text-in-Run c =
    let order = c.args.order in
    let text = text_of c.args.source.now in
    let printed = c.in_ok-requested_text-in-Run.field-0.items in
    let admitted = subst (IsAdmittedOr order.places text c.args.program.procedures order.limit order.caps) c.in-Run.is c.in_ok-verified.ensures in
    inl (admitted.1, (printed, subst (λ (p : List Procedure). IsPrinted order p printed) admitted.0 c.in_ok-requested_text-in-Run.ensures, refl))
