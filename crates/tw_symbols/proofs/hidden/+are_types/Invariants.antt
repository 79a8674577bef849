use Rattle.std.proofs.Common.{length}
use Rattle.tw_symbols.proofs.hidden.+are_types.Given as goal

abbrev pub decreases-are_types : goal.decreases-are_types
decreases-are_types l = length l.words.now
