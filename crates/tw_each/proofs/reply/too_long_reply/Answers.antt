use Rattle.tw_each.proofs.Names.{IfOk-weaker, IsTooLongReply, ap, ◌∙◌}
use Rattle.tw_source.specs.Failure.{failed}
use Rattle.tw_source.specs.Reply.{Reply, reply}
use Rattle.tw_each.proofs.reply.too_long_reply.Goals as goal

pub returns : goal.returns
returns c =
    let same = c.in_ok-error.ensures ∙ ap failed c.too_long.ensures in
    IfOk-weaker _ _ (λ r. IsTooLongReply (reply r.text.items r.close)) (λ r made. (made.0 ∙ ap (λ (e : Reply). e.close) same, made.1)) c.json_reply.ensures
