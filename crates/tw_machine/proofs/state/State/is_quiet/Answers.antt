use Rattle.tw_machine.specs.contracts.state.State.{the_view}
use Rattle.tw_machine.proofs.Quiet.{quiet_is}
use Rattle.tw_machine.proofs.state.State.is_quiet.Goals as goal

pub returns : goal.returns
returns c = rw (← c.self.view_is) (quiet_is (the_view c.self.inside) c.self.inside.frames c.is_empty-no_frame.result c.is_empty-no_task.result c.is_empty-no_notice.result c.are_idle-are_idle.result c.is_empty-no_frame.ensures c.is_empty-no_task.ensures c.is_empty-no_notice.ensures c.are_idle-are_idle.ensures)
