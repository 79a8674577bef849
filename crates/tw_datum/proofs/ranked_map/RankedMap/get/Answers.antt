use Rattle.std.proofs.Common.{sym, ap, ◌∙◌}
use Rattle.std.specs.FinMap as map
use Rattle.std.specs.FinMap.{get-from_sorted}
use Rattle.tw_types.specs.ValueOrder.{named, value_cmp}
use Rattle.tw_datum.specs.Run.{all_in}
use Rattle.tw_datum.proofs.ranked_map.RankedMap.get.Goals as goal

pub returns : goal.returns
returns g c = c.get.ensures c.self.invariant ∙ sym (get-from_sorted value_cmp (all_in c.self.inside.entries) (named c.args.key) c.self.invariant) ∙ ap (λ m. map.get m (named c.args.key)) c.self.view_is
