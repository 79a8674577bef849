use Rattle.tw_handles.proofs.Names.{IsRunUntil, inl, subst}
use Rattle.tw_handles.proofs.running.run.Goals as goal

pub returns-clause-is : goal.returns-clause-is
returns-clause-is c = inl (search, search, subst (λ order. IsRunUntil c.args.program.now.held c.args.inputs.now.held order c.args.stop.now.held c.run_until_stopped.new.stop.held c.args.report.now.held c.run_until_stopped.new.report.held c.run_until_stopped.result) c.order_of.ensures c.run_until_stopped.ensures.is)
