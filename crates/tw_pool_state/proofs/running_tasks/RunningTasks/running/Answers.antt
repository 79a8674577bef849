use Rattle.tw_pool_state.proofs.PartNames.{RunningView, ap, len, sym, ◌∙◌}
use Rattle.tw_pool_state.proofs.Runners.{count_by_actor}
use Rattle.tw_pool_state.proofs.running_tasks.RunningTasks.running.Goals as goal

pub returns : goal.returns
returns c = c.self.invariant.0.counted ∙ sym (count_by_actor c.self.inside.frames.items) ∙ ap (λ (r : RunningView). len r.tasks) c.self.view_is
