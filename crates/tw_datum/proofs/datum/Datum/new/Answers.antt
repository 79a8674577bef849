use Rattle.std.proofs.Common.{sym, subst}
use Rattle.tw_datum.specs.Kept.{FitsType}
use Rattle.tw_datum.proofs.Members.{empty_fits}
use Rattle.tw_datum.proofs.datum.Datum.new.Goals as goal

pub invariant_of-result : goal.invariant_of-result
invariant_of-result g c = subst (FitsType c.args.ty) (sym c.empty_content.ensures.content) (empty_fits c.args.ty)
