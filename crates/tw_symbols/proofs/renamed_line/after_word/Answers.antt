use Rattle.tw_symbols.proofs.TextNames.{arith, rules, sym, ◌∙◌}
use Rattle.tw_symbols.proofs.WordByWord.{word_more}
use Rattle.tw_symbols.proofs.renamed_line.after_word.Goals as goal

pub returns-in-len1-up : goal.returns-in-len1-up
returns-in-len1-up c = word_more c.args.plains.now c.args.word.now _ (omega arith) (search rules) (sym c.eq.ensures ∙ c.if-eq.true)
