use Rattle.std.proofs.Common.{◌∙◌, ap}
use Rattle.std.proofs.lemmas.Result.{IfOk-weaker}
use Rattle.tw_source.specs.Inputs.{unreadable}
use Rattle.tw_source.specs.Reply.{reply}
use Rattle.tw_source.specs.declared.reply.Reply.{Reply}
use Rattle.tw_session.specs.Session.{PrintsFault}
use Rattle.tw_session.proofs.action.fault_reply.Goals as goal

pub returns : goal.returns
returns c =
    IfOk-weaker c.unreadable_reply.result _ (λ (r : Reply). PrintsFault c.args.place (reply r.text.items r.close))
    (λ (r : Reply) is. (c.in_ok-text.text.items, c.in_ok-text.ensures, is ∙ ap (unreadable c.args.place) c.deref.ensures.value)) c.unreadable_reply.ensures
