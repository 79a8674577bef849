use Rattle.std.proofs.Common.{◌≡◌, ℕ, ◌+◌, ap, refl, subst, sym, true, false, is_err, List, OnErr, OnOk, Result, Ok, Err}
use Rattle.tw_machine.proofs.Names.{AreRanked, IsMarked, Kind, Option, Rank, TaskTable, Tasks, inserted_view, nat_cmp-IsAntisymmetric, nat_cmp_total, rank_of, tasks_of}
use Rattle.tw_machine.proofs.RankChanges.{put_ranked, undone_ranked}
use Rattle.tw_machine.proofs.tasks.Tasks.put.Goals as goal

on_ok : {A E : Type 0} (r : Result A E) (P : Type 0) → is_err r ≡ false → OnOk r P → P
on_ok (Ok x) P e p = p
on_ok (Err x) P e p = cc

on_err : {A E : Type 0} (r : Result A E) (P : Type 0) → is_err r ≡ true → OnErr r P → P
on_err (Ok x) P e p = cc
on_err (Err x) P e p = p

pub returns-clause-put : goal.returns-clause-put
returns-clause-put c =
    let P : Tasks → TaskTable = λ ts. record { waiting = ts; next = c.self.inside.next + 1 } in
    rw (← c.self.view_is) (ap P (inserted_view nat_cmp_total nat_cmp-IsAntisymmetric c.self.inside.waiting c.insert.new.self c.self.inside.next c.args.task
    (on_ok c.insert.result _ (sym c.if-is_err.ensures.value) c.insert.ensures.updates)))

pub invariant_of-self-2 : goal.invariant_of-self-2
invariant_of-self-2 c =
    let tasks = tasks_of c.self.inside.waiting.entries in
    let next = c.self.inside.next in
    let old = c.self.inside.ranks in
    let new = c.add.new.self in
    let put = inserted_view nat_cmp_total nat_cmp-IsAntisymmetric c.self.inside.waiting c.insert.new.self next c.args.task (on_ok c.insert.result _ (sym c.if-is_err.ensures.value) c.insert.ensures.updates) in
    let ranked = subst (λ (r : Rank). IsMarked c.kind_of-kind.result c.target-target.result r true old new) c.of-rank.ensures c.in_ok-add.ensures.added in
    let aimed = subst (λ (t : Option ℕ). IsMarked c.kind_of-kind.result t (rank_of next c.args.task) true old new) c.target-target.ensures ranked in
    let marked = subst (λ (k : Kind). IsMarked k c.args.task.target (rank_of next c.args.task) true old new) c.kind_of-kind.ensures aimed in
    subst (λ (ts : Tasks). AreRanked ts (next + 1) new) (sym put) (put_ranked tasks next old c.self.invariant next c.args.task new refl marked)

pub invariant_of-self-then-is_err : goal.invariant_of-self-then-is_err
invariant_of-self-then-is_err c =
    let tasks = tasks_of c.self.inside.waiting.entries in
    let next = c.self.inside.next in
    let old = c.self.inside.ranks in
    let added = c.add.new.self in
    let new = c.remove.new.self in
    let same = on_err c.insert.result _ (sym c.if-is_err.ensures.value) c.insert.ensures.err in
    let ranked = subst (λ (r : Rank). IsMarked c.kind_of-kind.result c.target-target.result r true old added) c.of-rank.ensures c.in_ok-add.ensures.added in
    let aimed = subst (λ (t : Option ℕ). IsMarked c.kind_of-kind.result t (rank_of next c.args.task) true old added) c.target-target.ensures ranked in
    let marked = subst (λ (k : Kind). IsMarked k c.args.task.target (rank_of next c.args.task) true old added) c.kind_of-kind.ensures aimed in
    let unranked = subst (λ (r : Rank). IsMarked c.kind_of-kind.result c.target-target.result r false added new) c.of-rank.ensures c.remove.ensures in
    let unaimed = subst (λ (t : Option ℕ). IsMarked c.kind_of-kind.result t (rank_of next c.args.task) false added new) c.target-target.ensures unranked in
    let gone = subst (λ (k : Kind). IsMarked k c.args.task.target (rank_of next c.args.task) false added new) c.kind_of-kind.ensures unaimed in
    subst (λ (ts : Tasks). AreRanked ts next new) (sym (ap tasks_of same)) (undone_ranked tasks next old c.self.invariant next c.args.task added new refl marked gone)
