use Rattle.std.proofs.Common.{sym}
use Rattle.tw_instr.proofs.Views.{no_size}
use Rattle.tw_instr.proofs.data.Data.size.Goals as goal

pub returns-in-None : goal.returns-in-None
returns-in-None c = no_size c.args.self.now c.args.id (sym c.in-None.ensures)
