use Rattle.tw_each.proofs.Names.{IsReady, None, Some, ap, inl, inr, reply, subst, sym, ◌∙◌}
use Rattle.tw_source.specs.Reply.{Reply}
use Rattle.tw_each.proofs.WholeReplies.{of_cut}
use Rattle.tw_each.proofs.together.each_parts.Goals as goal

pub returns-in_default : goal.returns-in_default
returns-in_default c =
    let made = c.in_ok-reply in
    inr (c.in_default.ensures.cases.0, (made.ensures.0 ∙ ap (λ (e : Reply). e.close) c.in_ok-error.ensures, made.ensures.1))

pub returns-in_default-cut_inputs : goal.returns-in_default-cut_inputs
returns-in_default-cut_inputs c =
    let made = c.in_ok-reply-2.reply in
    inl (c.in-Ok.ensures.cases.1, of_cut c.args.source c.args.order.now c.args.input.now None (reply made.text.items made.close) (sym c.in_default-cut_inputs.ensures) c.in_ok-reply-2.ensures)

pub returns-in_ok-lines-in-Run : goal.returns-in_ok-lines-in-Run
returns-in_ok-lines-in-Run c =
    let ready = subst (IsReady c.args.source c.args.order.now c.in-Some.program.now) c.in-Run.is c.in_ok-run.ensures in
    (c.in-Ok.ensures.cases.1, (c.in-Some.program.now, c.in-Some.lines.now), sym c.in-Some.ensures, ready, c.in_ok-lines-in-Run.ensures)

pub returns-in-Rejected : goal.returns-in-Rejected
returns-in-Rejected c =
    let made = c.in-Rejected.reply in
    let rejected = subst (IsReady c.args.source c.args.order.now c.in-Some.program.now) c.in-Rejected.is c.in_ok-run.ensures in
    inl (c.in-Ok.ensures.cases.1, of_cut c.args.source c.args.order.now c.args.input.now (Some (c.in-Some.program.now, c.in-Some.lines.now)) (reply made.text.items made.close) (sym c.in-Some.ensures) (inr rejected))
