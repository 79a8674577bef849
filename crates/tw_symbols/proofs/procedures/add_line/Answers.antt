use Rattle.tw_symbols.proofs.TextNames.{List, ap, on_ok_weaker, seen_procedures, texts, with_words, ℕ, ◌∙◌}
use Rattle.tw_symbols.proofs.procedures.add_line.Goals as goal

pub returns : goal.returns
returns c =
    let seen = c.in_ok-taken.ensures in
    on_ok_weaker c.add_words.result
    (λ is. (seen.0, seen.1, is ∙ ap (λ (ws : List (List ℕ)). with_words (seen_procedures c.args.procedures.now) c.args.number ws) (ap texts c.deref.ensures.value ∙ seen.2))) c.add_words.ensures
