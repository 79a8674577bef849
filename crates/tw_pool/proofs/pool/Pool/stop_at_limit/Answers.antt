use Rattle.tw_pool.specs.Turns.{steps_of}
use Rattle.tw_pool.proofs.Handing.{filled}
use Rattle.tw_pool.proofs.pool.Pool.stop_at_limit.Goals as goal

pub returns : goal.returns
returns c = filled c.args.self.now _ c.args.actor (steps_of c.args.actor c.args.done) c.continue_task-run.result c.continue_task-run.ensures
