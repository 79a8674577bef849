use Rattle.tw_pool_state.proofs.PartNames.{Arg, TasksOf, ap, get, get-empty, nat_cmp, ◌∙◌}
use Rattle.tw_pool_state.proofs.parts.Parts.begun.Goals as goal

pub put-requires-clause-new : goal.put-requires-clause-new
put-requires-clause-new c = ap (λ (m : TasksOf Arg). get m c.new.result) c.requires.tasks ∙ get-empty nat_cmp c.new.result
