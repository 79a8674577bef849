use Rattle.tw_queue.proofs.Names.{IsNoTarget, ranks_of, subst}
use Rattle.tw_queue.proofs.Targeted.{no_target}
use Rattle.tw_queue.proofs.queues.TaskQueues.has_targeted.Goals as goal

pub returns : goal.returns
returns c = λ is.
    let slots = c.self.inside.tasks.slots in
    let ranks = ranks_of c.self.inside.index in
    subst (λ q. IsNoTarget c.args.actor q.tasks) c.self.view_is (no_target slots ranks c.self.invariant c.args.actor (c.has_targeted.ensures is))
