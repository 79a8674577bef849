use Rattle.tw_each.proofs.Names.{reply, subst}
use Rattle.tw_each.specs.Ready.{AreEachParts}
use Rattle.tw_each.proofs.WholeReplies.{answered}
use Rattle.tw_each.proofs.together.each_reply.Goals as goal

pub returns-in_ok-answers-in-Lines : goal.returns-in_ok-answers-in-Lines
returns-in_ok-answers-in-Lines g c =
    let made = c.in_ok-answers-in-Lines in
    let r = c.answered_reply in
    answered c.args.source c.args.order.now c.args.input.now _ c.in-Lines.run' c.in-Lines.lines c.deref.result.now made.answers (reply r.result.text.items r.result.close) c.in_ok-run.ensures c.in-Lines.is c.deref.ensures.value made.ensures r.ensures.text r.ensures.close

pub returns-in-Replied : goal.returns-in-Replied
returns-in-Replied g c = subst (AreEachParts c.args.source c.args.order.now c.args.input.now) c.in-Replied.is c.in_ok-run.ensures
