use Rattle.std.proofs.Common.{subst}
use Rattle.tw_datum.specs.Kept.{FitsType, KeptDatum}
use Rattle.tw_datum.proofs.datum.Datum.subscript.Goals as goal

pub returns-clause-fits : goal.returns-clause-fits
returns-clause-fits g c = subst (λ (d : KeptDatum g.row.M.Denot). FitsType d.datum.ty d.datum.content) c.self.view_is c.self.invariant
