use Rattle.std.proofs.Common.{None, Some, ap, sym, ◌∙◌}
use Rattle.tw_machine.proofs.Names.{best, found_view, nat_cmp-IsAntisymmetric, nat_cmp_total, tasks_of}
use Rattle.tw_machine.proofs.Bests.{best_first, best_without, has_task}
use Rattle.tw_machine.proofs.tasks.Tasks.best.Goals as goal

pub returns-in_err-rank : goal.returns-in_err-rank
returns-in_err-rank c =
    rw c.from_residual.ensures
    (sym (best_without (tasks_of c.self.inside.waiting.entries) c.self.inside.next c.self.inside.ranks c.self.invariant c.args.actor c.in_err-rank.ensures) ∙ ap (λ t. best c.args.actor t.waiting) c.self.view_is)

pub returns-in_err-task : goal.returns-in_err-task
returns-in_err-task c =
    let none = found_view nat_cmp_total nat_cmp-IsAntisymmetric c.self.inside.waiting c.in_ok-rank.rank.number None c.in_err-task.ensures.value in
    absurd (has_task (tasks_of c.self.inside.waiting.entries) c.self.inside.next c.self.inside.ranks c.self.invariant c.args.actor c.in_ok-rank.rank c.in_ok-rank.ensures.0 none)

pub returns : goal.returns
returns c =
    let there = found_view nat_cmp_total nat_cmp-IsAntisymmetric c.self.inside.waiting c.in_ok-rank.rank.number (Some c.in_ok-task.task.now) c.in_ok-task.ensures.value in
    sym (best_first (tasks_of c.self.inside.waiting.entries) c.self.inside.next c.self.inside.ranks c.self.invariant c.args.actor c.in_ok-rank.rank c.in_ok-task.task.now c.in_ok-rank.ensures there)
    ∙ ap (λ t. best c.args.actor t.waiting) c.self.view_is
