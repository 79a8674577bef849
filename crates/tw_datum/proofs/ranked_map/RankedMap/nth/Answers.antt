use Rattle.std.proofs.Common.{sym, ap, ◌∙◌, slice_get}
use Rattle.std.specs.FinMap as map
use Rattle.tw_datum.specs.Run.{all_in}
use Rattle.tw_datum.proofs.Entries.{entries_of}
use Rattle.tw_datum.proofs.ranked_map.RankedMap.nth.Goals as goal

pub returns : goal.returns
returns g c = c.nth.ensures ∙ ap (λ es. slice_get es c.args.index) (sym (entries_of (all_in c.self.inside.entries) c.self.invariant)) ∙ ap (λ m. slice_get (map.entries m) c.args.index) c.self.view_is
