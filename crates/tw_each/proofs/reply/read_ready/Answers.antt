use Rattle.tw_each.proofs.Names.{List, Option, Some, Way, ap, inl, is_some, reply, source_text, subst, text_of, way_of, ℕ, ◌∙◌}
use Rattle.tw_order.specs.declared.form.Places.TheVariants.{Hidden}
use Rattle.tw_program_output.specs.Admission.{IsAdmittedOr, IsRejected}
use Rattle.tw_source.proofs.Nones.{none_printed}
use Rattle.tw_each.proofs.reply.read_ready.Goals as goal

pub returns-in-Run : goal.returns-in-Run
returns-in-Run c =
    let order = c.args.order.now in
    let read = c.in-Ok.read in
    let verified = c.in-Run.verified in
    let admitted = subst (IsAdmittedOr Hidden (text_of read.source) read.program.procedures (Some order.limit) order.caps) c.in-Run.is c.in_ok-verified-in-Ok.ensures in
    let run : ℕ → Way = λ limit. record { text = text_of read.source; verified = verified; layout = order.layout; limit = limit; may_stop = is_some order.seconds } in
    let way = ap run c.events.ensures.value ∙ ap (λ (text : Option (List ℕ)). way_of text order verified) c.in-Ok.ensures.text in
    (read.program, (c.in-Ok.ensures.spells, admitted.1), way, admitted.0)

pub returns-in-Ok : goal.returns-in-Ok
returns-in-Ok c =
    let order = c.args.order.now in
    let read = c.in-Ok.read in
    let error = c.in-Rejected.error in
    let printed = reply error.text.items error.close in
    let rejected = subst (IsAdmittedOr Hidden (text_of read.source) read.program.procedures (Some order.limit) order.caps) c.in-Rejected.is c.in_ok-verified-in-Ok.ensures in
    let text = subst (λ (text : Option (List ℕ)). IsRejected Hidden text read.program.procedures (Some order.limit) order.caps printed) c.in-Ok.ensures.text rejected in
    (printed, inl (read.program, c.in-Ok.ensures.spells, text), c.in_ok-reply-in-Rejected.ensures)

pub returns : goal.returns
returns c =
    let order = c.args.order.now in
    let input = c.args.input.now in
    let error = c.in_ok-error-in-Err.error in
    let printed = reply error.text.items error.close in (
      printed,
      none_printed c.args.source input c.in-Err.why (λ program. IsRejected Hidden (source_text c.args.source input) program.procedures (Some order.limit) order.caps) printed c.in-Err.ensures.none c.in_ok-error-in-Err.ensures,
      c.in_ok-reply-in-Err.ensures,
    )
