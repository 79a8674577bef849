use Rattle.tw_session.proofs.SessionNames.{text_of}
use Rattle.tw_session.proofs.Ran.{replied}
use Rattle.tw_session.proofs.run.run_reply.Goals as goal

pub ended_reply-requires-clause-over : goal.ended_reply-requires-clause-over
ended_reply-requires-clause-over c = c.requires.over.0

pub returns : goal.returns
returns c =
    let run = c.args.run in
    replied c.ended_reply.result (text_of run.source) run.verified.program run.order c.args.outcome.now c.args.history.now.events c.args.cut c.args.closing c.requires.over c.ended_reply.ensures
