use Rattle.tw_symbols.proofs.TextNames.{List, ap, arith, length, pieces_left, sym, texts, ℕ, ◌++◌, ◌∙◌, ◌≡◌}
use Rattle.tw_symbols.proofs.Cutting.{left_last}
use Rattle.tw_symbols.proofs.pieces.push_parted.Goals as goal

pub returns : goal.returns
returns c =
    let end : length c.args.word.now ≡ c.loop-index.index = omega arith in
    c.in_ok-push_some.ensures
    ∙ ap (λ (x : List (List ℕ)). texts c.loop-index.out.items ++ x) (sym (left_last c.args.word.now c.loop-index.start) ∙ ap (pieces_left c.args.word.now c.loop-index.start) end)
    ∙ c.loop-index.invariant.so_far
