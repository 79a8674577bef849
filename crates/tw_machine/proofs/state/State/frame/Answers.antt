use Rattle.tw_machine.proofs.Names.{actor_cmp-IsAntisymmetric, actor_cmp_total, found_view, sym}
use Rattle.tw_machine.proofs.state.State.frame.Goals as goal

pub returns : goal.returns
returns c = rw (← c.self.view_is) (sym (found_view actor_cmp_total actor_cmp-IsAntisymmetric c.self.inside.frames c.args.actor _ c.get.ensures.value))
