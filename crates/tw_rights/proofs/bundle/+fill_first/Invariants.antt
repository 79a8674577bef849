use Rattle.std.proofs.Common.{length}
use Rattle.tw_rights.proofs.bundle.+fill_first.Given as goal

abbrev pub decreases-fill_first : goal.decreases-fill_first
decreases-fill_first l = length l.bundle.now
