use Rattle.tw_program_output.proofs.ReplyNames.{IfOk, IsAccepted, IsAdmittedOr, IsFirstRejection, List, MayBeSource, Procedure, RepliesByRejection, inr, reply, subst, sym, text_of, verify_error_code}
use Rattle.tw_code.specs.format.Program.{Versioned}
use Rattle.tw_program_output.proofs.acceptance.admit.Goals as goal

pub within_caps-requires : goal.within_caps-requires
within_caps-requires c = subst IsAccepted (sym c.in-Ok.ensures.kept) c.in-Ok.ensures.sound

pub returns-in-Ok : goal.returns-in-Ok
returns-in-Ok c =
    let text = text_of c.args.source.now in
    subst (λ (p : List Procedure). IfOk c.within_caps.result (IsAdmittedOr c.args.places text p c.args.limit c.args.caps)) c.in-Ok.ensures.kept (c.within_caps.ensures c.args.places text)

pub rejection_reply-requires : goal.rejection_reply-requires
rejection_reply-requires c =
    let refused = c.in-Err.refused in
    let back = sym c.in-Err.ensures.back in
    record {
      source = subst (λ (p : Versioned). MayBeSource c.args.source.now p.procedures) back c.requires;
      first = subst (λ (p : Versioned). IsFirstRejection p.procedures (verify_error_code refused.no) refused.procedure refused.place) back (c.in-Err.ensures.first c.in_default.not-NoMemory);
    }

pub returns : goal.returns
returns c =
    let r = c.in_ok-reply-in_default.reply in
    inr (subst (λ (p : Versioned). RepliesByRejection c.args.places (text_of c.args.source.now) p.procedures (reply r.text.items r.close)) c.in-Err.ensures.back c.in_ok-reply-in_default.ensures)
