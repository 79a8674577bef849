use Rattle.tw_pool_state.proofs.PartNames.{Actor, subst, sym}
use Rattle.tw_queue.specs.Targets.{IsNoTarget}
use Rattle.tw_pool_state.specs.Work.{HasNoWork}
use Rattle.tw_pool_state.proofs.parts.Parts.has_own_work.Goals as goal

pub returns-in-Worker : goal.returns-in-Worker
returns-in-Worker c = λ none.
    let is = c.in-Worker.is in
    subst (λ (a : Actor). HasNoWork a c.args.self.now) (sym is) (subst (λ (a : Actor). IsNoTarget a c.args.self.now.tasks.tasks) is (c.has_targeted-in-Worker.ensures none))
