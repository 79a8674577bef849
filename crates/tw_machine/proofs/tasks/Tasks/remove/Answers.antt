use Rattle.std.proofs.Common.{ℕ, Some, ap, false, subst, sym}
use Rattle.tw_machine.proofs.Names.{AreRanked, IsMarked, Kind, Option, Rank, TaskTable, Tasks, found_view, nat_cmp-IsAntisymmetric, nat_cmp_total, rank_of, removed_view, tasks_of}
use Rattle.tw_machine.proofs.RankChanges.{removed_ranked}
use Rattle.tw_machine.proofs.tasks.Tasks.remove.Goals as goal

pub returns : goal.returns
returns c =
    let P : Tasks → TaskTable = λ ts. record { waiting = ts; next = c.self.inside.next } in
    rw (← c.self.view_is) (ap P (removed_view nat_cmp_total nat_cmp-IsAntisymmetric c.self.inside.waiting c.remove.new.self c.args.number c.remove.ensures.updates))

pub returns-in_default : goal.returns-in_default
returns-in_default c =
    let P : Tasks → TaskTable = λ ts. record { waiting = ts; next = c.self.inside.next } in
    rw (← c.self.view_is) (ap P (removed_view nat_cmp_total nat_cmp-IsAntisymmetric c.self.inside.waiting c.remove.new.self c.args.number c.remove.ensures.updates))

pub invariant_of-self-2 : goal.invariant_of-self-2
invariant_of-self-2 c =
    let tasks = tasks_of c.self.inside.waiting.entries in
    let next = c.self.inside.next in
    let old = c.self.inside.ranks in
    let new = c.remove-2.new.self in
    let there = found_view nat_cmp_total nat_cmp-IsAntisymmetric c.self.inside.waiting c.args.number (Some c.in-Some.task) c.in-Some.ensures.value in
    let gone = removed_view nat_cmp_total nat_cmp-IsAntisymmetric c.self.inside.waiting c.remove.new.self c.args.number c.remove.ensures.updates in
    let ranked = subst (λ (r : Rank). IsMarked c.kind_of.result c.target.result r false old new) c.of-rank.ensures c.remove-2.ensures in
    let aimed = subst (λ (t : Option ℕ). IsMarked c.kind_of.result t (rank_of c.args.number c.in-Some.task) false old new) c.target.ensures ranked in
    let marked = subst (λ (k : Kind). IsMarked k c.in-Some.task.target (rank_of c.args.number c.in-Some.task) false old new) c.kind_of.ensures aimed in
    subst (λ (ts : Tasks). AreRanked ts next new) (sym gone) (removed_ranked tasks next old c.self.invariant c.args.number c.in-Some.task new there marked)
