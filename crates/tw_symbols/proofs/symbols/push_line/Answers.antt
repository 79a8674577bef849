use Rattle.tw_symbols.proofs.TextNames.{List, ap, head_names, on_ok_weaker, texts, ℕ, ◌++◌, ◌∙◌}
use Rattle.tw_symbols.proofs.symbols.push_line.Goals as goal

pub returns : goal.returns
returns c =
    let seen = c.in_ok-taken.ensures in
    on_ok_weaker c.push_words.result
    (λ is. (seen.0, seen.1, is ∙ ap (λ (ws : List (List ℕ)). c.args.names.now.items ++ head_names ws) (ap texts c.deref.ensures.value ∙ seen.2)))
    c.push_words.ensures
