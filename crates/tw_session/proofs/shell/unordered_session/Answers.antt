use Rattle.tw_session.specs.Session.{RepliesByReason}
use Rattle.tw_session.proofs.Answering.{ends_with_reply}
use Rattle.tw_session.proofs.shell.unordered_session.Goals as goal

pub returns-clause-ended : goal.returns-clause-ended
returns-clause-ended g c =
    let wrote = c.write_reply.ensures in
    ends_with_reply (RepliesByReason c.args.no_order) c.unordered_reply.result c.write_reply.result _ _ c.unordered_reply.ensures wrote.ended wrote.refused wrote.memory
