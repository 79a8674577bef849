use Rattle.std.proofs.Common.{◌≡◌, None, subst}
use Rattle.tw_queue.proofs.Names.{best, ranks_of, slot_at, tasks_in}
use Rattle.tw_queue.proofs.Entries.{seen}
use Rattle.tw_queue.proofs.BestTask.{index_none}
use Rattle.tw_queue.proofs.queues.TaskQueues.has_any.Goals as goal

pub returns : goal.returns
returns c = λ is.
    let slots = c.self.inside.tasks.slots in
    let none = index_none (slot_at slots) (ranks_of c.self.inside.index) c.self.invariant (tasks_in slots) (seen slots c.self.invariant.apart) c.args.actor (c.has_any.ensures is) in
    subst (λ q. best c.args.actor q.tasks ≡ None) c.self.view_is none
