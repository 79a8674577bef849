use Rattle.tw_symbols.proofs.TextNames.{arith, sym, ◌∙◌}
use Rattle.tw_symbols.proofs.WordByWord.{same_more}
use Rattle.tw_symbols.proofs.renamed_words.+are_same.Goals as goal

pub returns-then-eq : goal.returns-then-eq
returns-then-eq t c = λ is. same_more c.args.words.now c.args.plains.now _ _ (omega arith) (omega arith) (sym c.eq.ensures ∙ c.if-eq.true) (c.are_same.ensures is)
