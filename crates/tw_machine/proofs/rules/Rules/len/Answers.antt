use Rattle.std.proofs.Common.{◌∙◌}
use Rattle.tw_machine.proofs.Numbered.{length_is}
use Rattle.tw_machine.proofs.rules.Rules.len.Goals as goal

pub returns : goal.returns
returns c = rw (← c.self.view_is) (c.len.ensures.len ∙ length_is c.self.inside.pending.entries c.len.ensures.ordered)
