use Rattle.tw_symbols.proofs.TextNames.{arith, seen_names, seen_procedures, sym, texts, ◌∙◌}
use Rattle.tw_symbols.proofs.WordByWord.{line_more}
use Rattle.tw_symbols.proofs.renamed_line.is_begun.Goals as goal

pub returns-then-same : goal.returns-then-same
returns-then-same c =
    λ yes. line_more (seen_procedures c.args.procedures.now) c.args.number (seen_names c.args.names.now) (seen_names c.are_others.new.names) c.kind_of-kind.result c.args.first.now (texts c.args.words.now) c.args.plains.now _ (omega arith)
    (sym c.eq-same.ensures ∙ c.if-same.true) c.kind_of-kind.ensures (c.in_ok-kept-in-len1-up.ensures yes)
