use Rattle.tw_pool.proofs.Names.{Server}
use Rattle.tw_pool.proofs.Idling.{rests_if, server_none, unset}
use Rattle.tw_pool.proofs.pool.Pool.server_rests.Goals as goal

pub returns : goal.returns
returns c = λ is. rests_if _ _ _ c.self.inside.stopped c.self.inside.history c.self.inside.parts c.self.invariant c.args.self.now c.self.view_is (Server c.args.server) c.if-has_task.ensures
    (server_none _ _ _ c.self.inside.stopped c.self.inside.history c.self.inside.parts c.self.invariant c.args.self.now c.self.view_is c.args.server (c.has_own_work.ensures (unset c.has_own_work.result is))) c.requires.runs_on
