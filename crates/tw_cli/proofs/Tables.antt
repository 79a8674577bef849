-- One more row of a table.
use Rattle.tw_cli.proofs.Names.{App, List, [], ap, fold, get_or, length, sym, take, take_more, ℕ, ◌+◌, ◌<◌, ◌∙◌, ◌∷◌, ◌≡◌}
use Rattle.std.proofs.lemmas.List.Sums.{fold-append}

pub one_row_more : {R : Type 0} (with_row : App → R → App) (line old new : App) (rows : List R) (row : R) (i : ℕ) → i < length rows → old ≡ fold with_row line (take i rows)
    → new ≡ with_row old (get_or rows i row) → new ≡ fold with_row line (take (i + 1) rows)
one_row_more with_row line old new rows row i lt before made =
    made
    ∙ ap (λ (app : App). with_row app (get_or rows i row)) before
    ∙ sym (ap (fold with_row line) (take_more rows i row lt) ∙ fold-append with_row line (take i rows) (get_or rows i row ∷ []))
