use Rattle.tw_queue.proofs.Names.{HaveTargets, ranks_of, subst}
use Rattle.tw_queue.proofs.Targeted.{have_targets}
use Rattle.tw_queue.proofs.queues.TaskQueues.has_untargeted.Goals as goal

pub returns : goal.returns
returns c = λ is.
    let slots = c.self.inside.tasks.slots in
    let ranks = ranks_of c.self.inside.index in
    subst (λ q. HaveTargets c.args.kind q.tasks) c.self.view_is (have_targets slots ranks c.self.invariant c.args.kind (c.has_untargeted.ensures is))
