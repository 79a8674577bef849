use Rattle.tw_queue.proofs.Names.{IsSome, None, Some, ap, best, option_map, ranks_of, refl, room_for, slot_at, subst, sym, taken_task, tasks_in, true, without, ◌∙◌, ◌≡◌}
use Rattle.tw_queue.proofs.Entries.{seen, tasks_gone, updated}
use Rattle.tw_queue.proofs.Indexing.{taken_index}
use Rattle.tw_queue.proofs.Rooms.{room_still}
use Rattle.tw_queue.proofs.BestTask.{index_none, index_finds, handed_best}
use Rattle.tw_queue.proofs.queues.TaskQueues.take.Goals as goal

pub returns-in_err-rank-clause-taken : goal.returns-in_err-rank-clause-taken
returns-in_err-rank-clause-taken c =
    let slots = c.self.inside.tasks.slots in
    let none = index_none (slot_at slots) (ranks_of c.self.inside.index) c.self.invariant (tasks_in slots) (seen slots c.self.invariant.apart) c.args.actor c.in_err-rank.ensures.best in
    rw c.from_residual.ensures (ap (option_map taken_task) (sym none ∙ ap (λ q. best c.args.actor q.tasks) c.self.view_is))

pub returns-in_err-rank-clause-rest : goal.returns-in_err-rank-clause-rest
returns-in_err-rank-clause-rest c =
    let slots = c.self.inside.tasks.slots in
    let none = index_none (slot_at slots) (ranks_of c.self.inside.index) c.self.invariant (tasks_in slots) (seen slots c.self.invariant.apart) c.args.actor c.in_err-rank.ensures.best in
    subst (λ q. tasks_in slots ≡ without (best c.args.actor q.tasks) q.tasks) c.self.view_is (ap (λ o. without o (tasks_in slots)) (sym none))

pub returns-in_err-rank-clause-room : goal.returns-in_err-rank-clause-room
returns-in_err-rank-clause-room c = λ kind target all.
    let tasks = tasks_in c.self.inside.tasks.slots in
    let room = c.self.inside.tasks.has_room in
    room_still tasks tasks room room c.self.inside.index c.take.new.self (λ e. e) c.take.ensures.kept kind target
    (subst (λ q. room_for kind target q ≡ true) (sym c.self.view_is) all)

pub take-task-requires : goal.take-task-requires
take-task-requires c =
    let slots = c.self.inside.tasks.slots in
    let found_best = index_finds (slot_at slots) (ranks_of c.self.inside.index) c.self.invariant (tasks_in slots) (seen slots c.self.invariant.apart) c.args.actor c.in_ok-rank.rank c.in_ok-rank.ensures.best in
    subst IsSome (sym found_best.there) refl

pub invariant_of-self-2 : goal.invariant_of-self-2
invariant_of-self-2 c =
    let old = c.self.inside.tasks.slots in
    let new = c.take-task.new.self.slots in
    let rank = c.in_ok-rank.rank in
    let gone = c.in_ok-rank.ensures.taken in
    taken_index (slot_at old) (slot_at new) (ranks_of c.take.new.self) (ranks_of c.self.inside.index) c.self.invariant gone.0 gone.1 rank gone.2.others gone.2.here
    (updated rank.slot None old new c.take-task.ensures.rest)

pub returns-clause-taken : goal.returns-clause-taken
returns-clause-taken c =
    let slots = c.self.inside.tasks.slots in
    let found_best = index_finds (slot_at slots) (ranks_of c.self.inside.index) c.self.invariant (tasks_in slots) (seen slots c.self.invariant.apart) c.args.actor c.in_ok-rank.rank c.in_ok-rank.ensures.best in
    let there = found_best.there in
    let value = c.take-task.ensures.taken in
    let same : c.take-task.result ≡ found_best.waiting = cc in
    ap (λ w. Some w.task) same ∙ sym (handed_best (slot_at slots) (tasks_in slots) c.args.actor c.in_ok-rank.rank found_best)
    ∙ ap (λ q. option_map taken_task (best c.args.actor q.tasks)) c.self.view_is

pub returns-clause-rest : goal.returns-clause-rest
returns-clause-rest c =
    let old = c.self.inside.tasks.slots in
    let new = c.take-task.new.self.slots in
    let rank = c.in_ok-rank.rank in
    let found_best = index_finds (slot_at old) (ranks_of c.self.inside.index) c.self.invariant (tasks_in old) (seen old c.self.invariant.apart) c.args.actor rank c.in_ok-rank.ensures.best in
    subst (λ q. tasks_in new ≡ without (best c.args.actor q.tasks) q.tasks) c.self.view_is
    (tasks_gone rank.slot found_best.waiting old new c.self.invariant.apart found_best.there c.take-task.ensures.rest ∙ ap (λ o. without o (tasks_in old)) (sym found_best.best_is))

pub returns-clause-room : goal.returns-clause-room
returns-clause-room c = λ kind target all.
    room_still (tasks_in c.self.inside.tasks.slots) (tasks_in c.take-task.new.self.slots) c.self.inside.tasks.has_room c.take-task.new.self.has_room c.self.inside.index c.take.new.self
    (λ e. c.take-task.ensures.room) c.take.ensures.kept kind target (subst (λ q. room_for kind target q ≡ true) (sym c.self.view_is) all)
