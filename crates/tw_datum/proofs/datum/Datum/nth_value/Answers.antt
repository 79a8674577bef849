use Rattle.std.proofs.Common.{sym, ap, ◌∙◌, slice_get}
use Rattle.std.specs.FinMap as map
use Rattle.tw_datum.proofs.Members.{no_values_there}
use Rattle.tw_datum.proofs.datum.Datum.nth_value.Goals as goal

pub returns-in-None : goal.returns-in-None
returns-in-None g c = ap (λ es. slice_get es c.args.index) (sym no_values_there) ∙ ap (λ m. slice_get (map.entries m) c.args.index) (sym c.in-None.ensures)
