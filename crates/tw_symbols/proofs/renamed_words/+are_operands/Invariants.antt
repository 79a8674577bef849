use Rattle.std.proofs.Common.{length}
use Rattle.tw_symbols.proofs.renamed_words.+are_operands.Given as goal

abbrev pub decreases-are_operands : goal.decreases-are_operands
decreases-are_operands l = length l.words.now
