use Rattle.tw_datum.proofs.Entries.{nothing_seen}
use Rattle.tw_datum.proofs.ranked_map.RankedMap.new.Goals as goal

pub returns : goal.returns
returns g c = nothing_seen _ c.new.ensures
