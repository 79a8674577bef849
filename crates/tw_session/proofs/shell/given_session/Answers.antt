use Rattle.tw_session.proofs.Answering.{ends_with_reply}
use Rattle.tw_session.proofs.SessionNames.{MayReplyTo, seen_given}
use Rattle.tw_session.proofs.shell.given_session.Goals as goal

pub returns-clause-ended : goal.returns-clause-ended
returns-clause-ended g c =
    let wrote = c.write_reply.ensures in
    ends_with_reply (MayReplyTo c.args.order (seen_given c.args.given)) c.reply_to.result c.write_reply.result _ _ c.reply_to.ensures wrote.ended wrote.refused wrote.memory
