use Rattle.tw_instr.proofs.Names.{ap, map as each, notice_to, sym, ◌∙◌}
use Rattle.tw_instr.proofs.Views.{set_heard, set_unheard}
use Rattle.tw_instr.proofs.data.Data.heard_by_set.Goals as goal

pub returns-in-Some : goal.returns-in-Some
returns-in-Some c = λ value. ap (each (notice_to c.args.id)) c.subscribers.ensures ∙ set_heard c.args.self.now c.args.id c.in-Some.datum.now.datum value (sym c.in-Some.ensures)

pub returns-in-None : goal.returns-in-None
returns-in-None c = λ value. set_unheard c.args.self.now c.args.id value (sym c.in-None.ensures)
