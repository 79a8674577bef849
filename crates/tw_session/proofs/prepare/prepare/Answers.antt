use Rattle.tw_session.proofs.SessionNames.{IsExcessive, MayReplyOn, RepliesByParts, seen}
use Rattle.tw_session.proofs.Leading.{awaits}
use Rattle.tw_session.proofs.Replies.{beyond, within}
use Rattle.tw_session.proofs.prepare.prepare.Goals as goal

pub returns-then-parts : goal.returns-then-parts
returns-then-parts c =
    let p = seen c.args.parts in
    let order = c.args.order in
    awaits c.excessive.result (IsExcessive order) (MayReplyOn order p) (λ r is. beyond order p r c.if-parts.true is) c.excessive.ensures

pub returns : goal.returns
returns c =
    let p = seen c.args.parts in
    let order = c.args.order in
    awaits c.prepare_few.result (RepliesByParts order p) (MayReplyOn order p) (λ r answers. within order p r c.if-parts.false answers) c.prepare_few.ensures
