use Rattle.tw_queue.proofs.Names.{None, Some, ap, best, option_copied, option_map, ranks_of, slot_at, sym, taken_task, tasks_in, ◌∙◌, ◌≡◌}
use Rattle.tw_queue.proofs.Entries.{seen}
use Rattle.tw_queue.proofs.BestTask.{index_none, index_finds, handed_best}
use Rattle.tw_queue.proofs.queues.TaskQueues.best.Goals as goal

pub returns-in_err-rank : goal.returns-in_err-rank
returns-in_err-rank c =
    let slots = c.self.inside.tasks.slots in
    let none = index_none (slot_at slots) (ranks_of c.self.inside.index) c.self.invariant (tasks_in slots) (seen slots c.self.invariant.apart) c.args.actor c.in_err-rank.ensures in
    rw c.from_residual.ensures (ap (option_map taken_task) (sym none ∙ ap (λ q. best c.args.actor q.tasks) c.self.view_is))

pub unreachable-requires : goal.unreachable-requires
unreachable-requires c =
    let slots = c.self.inside.tasks.slots in
    let found_best = index_finds (slot_at slots) (ranks_of c.self.inside.index) c.self.invariant (tasks_in slots) (seen slots c.self.invariant.apart) c.args.actor c.in_ok-rank.rank c.in_ok-rank.ensures in
    let there = found_best.there in
    let value = c.get.ensures in
    let none : option_copied c.get.result ≡ None = ap option_copied c.in_default.is in
    cc

pub returns : goal.returns
returns c =
    let slots = c.self.inside.tasks.slots in
    let found_best = index_finds (slot_at slots) (ranks_of c.self.inside.index) c.self.invariant (tasks_in slots) (seen slots c.self.invariant.apart) c.args.actor c.in_ok-rank.rank c.in_ok-rank.ensures in
    let there = found_best.there in
    let value = c.in-Some.ensures in
    let same : c.in-Some.waiting.now ≡ found_best.waiting = cc in
    ap (λ w. Some w.task) same ∙ sym (handed_best (slot_at slots) (tasks_in slots) c.args.actor c.in_ok-rank.rank found_best)
    ∙ ap (λ q. option_map taken_task (best c.args.actor q.tasks)) c.self.view_is
