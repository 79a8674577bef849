use Rattle.std.proofs.Common.{◌∙◌, refl, sym}
use Rattle.tw_pool_state.proofs.Runners.{read_there}
use Rattle.tw_pool_state.proofs.running_tasks.RunningTasks.get.Goals as goal

pub returns : goal.returns
returns c = c.as_ref.ensures.value ∙ sym (read_there c.self.invariant.0 c.self.view_is c.args.actor c.requires c.place.ensures.is refl c.index.ensures refl)
