use Rattle.tw_instr.proofs.Names.{Notices, ap, len, ◌==◌, ◌∙◌}
use Rattle.tw_instr.proofs.Empty.{is_empty_set}
use Rattle.tw_instr.proofs.notices.Notices.is_empty.Goals as goal

pub returns : goal.returns
returns c = is_empty_set c.is_empty.result c.self.inside.keys.keys c.is_empty.ensures ∙ ap (λ (s : Notices). len s == 0) c.self.view_is
