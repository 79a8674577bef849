use Rattle.tw_pool.proofs.Working.{lacks_work}
use Rattle.tw_pool.proofs.pool.Pool.has_own_work.Goals as goal

pub returns : goal.returns
returns c = λ is. lacks_work _ _ _ c.self.inside.stopped c.self.inside.history c.self.inside.parts c.self.invariant c.args.self.now c.self.view_is c.args.actor (c.has_own_work.ensures is)
