use Rattle.tw_session.proofs.SessionNames.{IfOk-weaker, reply, seen, seen_given}
use Rattle.tw_source.specs.declared.reply.Reply.{Reply}
use Rattle.tw_session.proofs.Replies.{formed}
use Rattle.tw_session.proofs.order.reply_to.Goals as goal

pub returns : goal.returns
returns g c =
    let text = reply c.in_ok-text.text.text.items c.in_ok-text.text.close in
    IfOk-weaker _ _ _
    (λ (r : Reply) h. formed c.args.order (seen_given c.args.given) (seen c.parts-parts.result) text (reply r.text.items r.close) c.rendering_of-rendering.result c.parts-parts.ensures.parts c.rendering_of-rendering.ensures c.in_ok-text.ensures h) c.in_form.ensures
