use Rattle.tw_instr.proofs.Names.{ap, map as each, notice_to, sym, ◌∙◌}
use Rattle.tw_instr.proofs.Views.{drop_heard, drop_unheard}
use Rattle.tw_instr.proofs.data.Data.heard_by_drop_write.Goals as goal

pub returns-in-Some : goal.returns-in-Some
returns-in-Some c = ap (each (notice_to c.args.id)) c.heard_by_drop_write.ensures ∙ drop_heard c.args.self.now c.args.id c.in-Some.datum.now.datum (sym c.in-Some.ensures)

pub returns-in-None : goal.returns-in-None
returns-in-None c = drop_unheard c.args.self.now c.args.id (sym c.in-None.ensures)
