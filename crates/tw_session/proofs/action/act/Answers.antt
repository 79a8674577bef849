use Rattle.tw_session.proofs.SessionNames.{Action, Awaits, IfOk, RepliesByAction, reply, subst, sym, text_of}
use Rattle.tw_session.proofs.action.act.Goals as goal

pub returns-in-Run : goal.returns-in-Run
returns-in-Run c = subst (λ (a : Action). IfOk c.prepare_run.result (Awaits (RepliesByAction (text_of c.args.source) a c.args.program))) (sym c.in-Run.is) c.prepare_run.ensures

pub returns-in-RunWithJson : goal.returns-in-RunWithJson
returns-in-RunWithJson c = subst (λ (a : Action). IfOk c.prepare_json_run.result (Awaits (RepliesByAction (text_of c.args.source) a c.args.program))) (sym c.in-RunWithJson.is) c.prepare_json_run.ensures

pub returns-in-Check : goal.returns-in-Check
returns-in-Check c =
    let made = c.in_ok-reply-in-Check.reply in
    subst (λ (a : Action). RepliesByAction (text_of c.args.source) a c.args.program (reply made.text.items made.close)) (sym c.in-Check.is) c.in_ok-reply-in-Check.ensures

pub returns : goal.returns
returns c =
    let made = c.in_ok-reply-in-Replay.reply in
    subst (λ (a : Action). RepliesByAction (text_of c.args.source) a c.args.program (reply made.text.items made.close)) (sym c.in-Replay.is) c.in_ok-reply-in-Replay.ensures
