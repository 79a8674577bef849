use Rattle.tw_host.proofs.Holding.{few_here}
use Rattle.tw_host.proofs.batch.done_at_once.Goals as goal

pub returns-clause-few : goal.returns-clause-few
returns-clause-few c = (few_here c.args.job c.run-done.result c.requires c.run-done.ensures c.steps-steps.ensures.done).0

pub returns-clause-has_memory : goal.returns-clause-has_memory
returns-clause-has_memory c = (few_here c.args.job c.run-done.result c.requires c.run-done.ensures c.steps-steps.ensures.done).1
