use Rattle.std.proofs.Common.{◌∙◌}
use Rattle.tw_machine.proofs.Numbered.{idle_is}
use Rattle.tw_machine.proofs.rules.Rules.are_idle.Goals as goal

pub returns : goal.returns
returns c =
    rw (← c.self.view_is) (c.neither.ensures ∙ idle_is c.has_unasked-has_unasked.result c.has_releasable-has_releasable.result c.self.inside.pending.entries c.has_unasked-has_unasked.ensures.sorted c.has_unasked-has_unasked.ensures.is c.has_releasable-has_releasable.ensures)
