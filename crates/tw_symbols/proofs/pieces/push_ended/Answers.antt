use Rattle.tw_symbols.proofs.TextNames.{List, ap, append_assoc, pieces_left, sym, texts, ℕ, ◌++◌, ◌+◌, ◌∙◌}
use Rattle.tw_symbols.proofs.Cutting.{ends}
use Rattle.tw_symbols.proofs.pieces.push_ended.Goals as goal

pub returns-in_ok-push_some-clause-pieces : goal.returns-in_ok-push_some-clause-pieces
returns-in_ok-push_some-clause-pieces c =
    ap (λ (x : List (List ℕ)). x ++ pieces_left c.args.word.now (c.args.index + 1) (c.args.index + 1)) c.in_ok-push_some.ensures
    ∙ append_assoc (texts c.args.out.now.items) _ (pieces_left c.args.word.now (c.args.index + 1) (c.args.index + 1))
    ∙ ap (λ (x : List (List ℕ)). texts c.args.out.now.items ++ x) (ends c.args.word.now c.args.start c.args.index c.requires.start c.requires.index (sym c.is_sign.ensures ∙ c.if-is_sign.true))
