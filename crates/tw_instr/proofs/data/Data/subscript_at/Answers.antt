use Rattle.tw_instr.proofs.Names.{get, kind_found, of_z, sym, to_z, w64}
use Rattle.std.specs.Option.{option_copied}
use Rattle.tw_instr.proofs.Views.{no_subscript}
use Rattle.tw_instr.proofs.data.Data.subscript_at.Goals as goal

pub returns-in-None-clause-found : goal.returns-in-None-clause-found
returns-in-None-clause-found c = no_subscript c.args.self.now c.args.id c.args.index (sym c.in-None.ensures)

pub returns-in-Some-clause-kind : goal.returns-in-Some-clause-kind
returns-in-Some-clause-kind c = λ by may. kind_found c.in-Some.datum.now.datum by (to_z w64 (of_z w64 c.args.index)) (option_copied c.subscript.result) (get c.args.self.now.live c.args.id) (sym c.in-Some.ensures) c.subscript.ensures.fits c.subscript.ensures.found may
