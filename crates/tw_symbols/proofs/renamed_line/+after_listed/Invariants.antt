use Rattle.std.proofs.Common.{length}
use Rattle.tw_symbols.proofs.renamed_line.+after_listed.Given as goal

abbrev pub decreases-after_listed : goal.decreases-after_listed
decreases-after_listed l = length l.front.now
