use Rattle.tw_session.proofs.SessionNames.{Awaits, IfOk, Order, RepliesByParts, seen, subst, sym}
use Rattle.tw_session.proofs.prepare.prepare_few.Goals as goal

pub returns-in-Disassemble : goal.returns-in-Disassemble
returns-in-Disassemble c = subst (λ (o : Order). IfOk c.read.result (Awaits (RepliesByParts o (seen c.args.parts)))) (sym c.in-Disassemble.is) c.read.ensures

pub returns-in-Check : goal.returns-in-Check
returns-in-Check c = subst (λ (o : Order). IfOk c.read-in-Check.result (Awaits (RepliesByParts o (seen c.args.parts)))) (sym c.in-Check.is) c.read-in-Check.ensures

pub returns-in-Run : goal.returns-in-Run
returns-in-Run c = subst (λ (o : Order). IfOk c.prepare_run_with.result (Awaits (RepliesByParts o (seen c.args.parts)))) (sym c.in-Run.is) c.prepare_run_with.ensures

pub returns-in-Replay : goal.returns-in-Replay
returns-in-Replay c = subst (λ (o : Order). IfOk c.prepare_replay.result (Awaits (RepliesByParts o (seen c.args.parts)))) (sym c.in-Replay.is) c.prepare_replay.ensures
