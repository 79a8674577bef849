use Rattle.tw_symbols.proofs.TextNames.{arith, seen_names, seen_procedures, texts}
use Rattle.tw_symbols.proofs.LiteralWords.{all_stay}
use Rattle.tw_symbols.proofs.renamed_words.+are_operands.Goals as goal

pub returns-in-empty-default-default : goal.returns-in-empty-default-default
returns-in-empty-default-default t c = λ is.
    all_stay (seen_procedures c.args.procedures.now) (seen_names c.args.names.now) c.args.places.now (texts c.args.words.now) (texts c.args.plains.now) (omega (arith, c.in-empty-default-default.len_below)) (c.are_same.ensures is)
