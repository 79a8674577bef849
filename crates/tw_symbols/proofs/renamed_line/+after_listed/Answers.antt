use Rattle.tw_symbols.proofs.TextNames.{arith, filter, is_unnamed, sym, texts, ◌∙◌}
use Rattle.tw_symbols.proofs.WordByWord.{listed_more}
use Rattle.tw_symbols.proofs.renamed_line.+after_listed.Goals as goal

pub returns-in-len1-up-plains : goal.returns-in-len1-up-plains
returns-in-len1-up-plains t c =
    listed_more c.args.front.now c.args.plains.now (filter is_unnamed (texts c.args.words.now)) _ _ c.after_listed.result (omega arith) (omega arith) (sym c.eq.ensures ∙ c.if-eq.true) c.after_listed.ensures
