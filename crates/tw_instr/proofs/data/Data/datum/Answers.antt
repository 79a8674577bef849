use Rattle.tw_instr.proofs.Names.{ap, data_of, get, sym, ◌∙◌}
use Rattle.tw_instr.proofs.Live.{found}
use Rattle.tw_instr.proofs.data.Data.datum.Goals as goal

pub returns : goal.returns
returns c = rw (← c.self.view_is) (sym (ap (get (data_of c.self.inside.live.entries)) (sym c.number.ensures) ∙ found c.self.inside.live _ _ c.get.ensures.value))
