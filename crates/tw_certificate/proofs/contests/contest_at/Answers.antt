use Rattle.tw_certificate.proofs.Placing.{contest_here}
use Rattle.tw_certificate.proofs.contests.contest_at.Goals as goal

pub returns-in-Call : goal.returns-in-Call
returns-in-Call c =
    let plain = c.args.plain.now in
    contest_here plain.program c.args.event.now plain.state c.args.copied.now c.in-Call.actor c.in-Call.is c.contest_of.result c.contest_of.ensures
