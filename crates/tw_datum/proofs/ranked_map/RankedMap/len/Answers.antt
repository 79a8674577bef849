use Rattle.std.proofs.Common.{sym, ap, ◌∙◌, length}
use Rattle.std.specs.FinMap as map
use Rattle.std.specs.FinMap.{len-entries}
use Rattle.tw_datum.specs.Run.{all_in}
use Rattle.tw_datum.proofs.Entries.{entries_of}
use Rattle.tw_datum.proofs.ranked_map.RankedMap.len.Goals as goal

pub returns : goal.returns
returns g c = c.len.ensures ∙ sym (ap map.len (sym c.self.view_is) ∙ len-entries _ ∙ ap length (entries_of (all_in c.self.inside.entries) c.self.invariant))
