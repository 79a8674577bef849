use Rattle.std.proofs.Common.{sym, ap, ◌∙◌}
use Rattle.std.specs.FinMap as map
use Rattle.tw_queue.proofs.Entries.{tasks_len}
use Rattle.tw_queue.proofs.queues.TaskQueues.len.Goals as goal

pub returns : goal.returns
returns c = c.len.ensures ∙ sym (tasks_len c.self.inside.tasks.slots c.self.invariant.apart) ∙ ap (λ q. map.len q.tasks) c.self.view_is
