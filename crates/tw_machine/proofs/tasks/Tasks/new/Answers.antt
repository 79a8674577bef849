use Rattle.tw_machine.proofs.Names.{AreRanked, subst, sym, tasks_of}
use Rattle.tw_machine.proofs.RankChanges.{none_ranked}
use Rattle.tw_machine.proofs.tasks.Tasks.new.Goals as goal

pub invariant_of-result : goal.invariant_of-result
invariant_of-result c = subst (λ es. AreRanked (tasks_of es) 1 c.new-2.result) (sym c.new.ensures.empty) (none_ranked c.new-2.result c.new-2.ensures)
