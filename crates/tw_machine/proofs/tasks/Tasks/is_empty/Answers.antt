use Rattle.tw_machine.proofs.Numbered.{is_empty}
use Rattle.tw_machine.proofs.tasks.Tasks.is_empty.Goals as goal

pub returns : goal.returns
returns c = rw (← c.self.view_is) (is_empty c.is_empty.result c.self.inside.waiting.entries c.is_empty.ensures)
