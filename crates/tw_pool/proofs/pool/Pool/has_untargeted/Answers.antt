use Rattle.tw_pool.proofs.Working.{are_targeted}
use Rattle.tw_pool.proofs.pool.Pool.has_untargeted.Goals as goal

pub returns : goal.returns
returns c = λ is. are_targeted _ _ _ c.self.inside.stopped c.self.inside.history c.self.inside.parts c.self.invariant c.args.self.now c.self.view_is c.args.kind (c.has_untargeted.ensures is)
