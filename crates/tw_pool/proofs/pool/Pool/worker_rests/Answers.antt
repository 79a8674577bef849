use Rattle.tw_pool.proofs.Names.{Worker}
use Rattle.tw_pool.proofs.Idling.{rests_if, unset, worker_none}
use Rattle.tw_pool.proofs.pool.Pool.worker_rests.Goals as goal

pub returns : goal.returns
returns c = λ is. rests_if _ _ _ c.self.inside.stopped c.self.inside.history c.self.inside.parts c.self.invariant c.args.self.now c.self.view_is (Worker c.args.worker) c.if-has_task.ensures
    (worker_none _ _ _ c.self.inside.stopped c.self.inside.history c.self.inside.parts c.self.invariant c.args.self.now c.self.view_is c.args.worker (c.has_any.ensures (unset c.has_any.result is))) c.requires.runs_on
