use Rattle.std.proofs.Common.{sym, ap, ◌∙◌}
use Rattle.std.specs.FinMap as map
use Rattle.tw_types.specs.ValueOrder.{named, value_cmp}
use Rattle.tw_datum.proofs.datum.Datum.value_at.Goals as goal

pub returns-in-None : goal.returns-in-None
returns-in-None g c = sym (map.get-empty value_cmp (named c.args.subscript)) ∙ ap (λ m. map.get m (named c.args.subscript)) (sym c.in-None.ensures)
