use Rattle.std.proofs.Common.{length}
use Rattle.tw_symbols.proofs.renamed_words.+are_made.Given as goal

abbrev pub decreases-are_made : goal.decreases-are_made
decreases-are_made l = length l.words.now
