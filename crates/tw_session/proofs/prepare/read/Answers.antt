use Rattle.tw_session.proofs.SessionNames.{List, Option, RepliesByAction, RepliesBySource, inl, reply, source_text, subst, text_of, ℕ}
use Rattle.tw_source.proofs.Nones.{none_printed}
use Rattle.tw_session.proofs.Leading.{awaits}
use Rattle.tw_session.proofs.prepare.read.Goals as goal

pub act-requires : goal.act-requires
act-requires c = record { source = c.in-Ok.ensures.source; few = c.requires }

pub returns-in-Ok : goal.returns-in-Ok
returns-in-Ok c =
    let source = c.args.source in
    let action = c.args.action in
    let input = c.args.input.now in
    let program = c.in-Ok.read.program in
    awaits c.act.result (RepliesByAction (text_of c.in-Ok.read.source) action program) (RepliesBySource source input (RepliesByAction (source_text source input) action))
    (λ r answers. inl (program, c.in-Ok.ensures.spells, subst (λ (t : Option (List ℕ)). RepliesByAction t action program r) c.in-Ok.ensures.text answers)) c.act.ensures

pub returns : goal.returns
returns c =
    let input = c.args.input.now in
    let r = c.in_ok-reply-in-Err.reply in
    none_printed c.args.source input c.in-Err.why (RepliesByAction (source_text c.args.source input) c.args.action) (reply r.text.items r.close) c.in-Err.ensures.none c.in_ok-reply-in-Err.ensures
