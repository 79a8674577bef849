use Rattle.tw_asm.proofs.AsmNames.{List, Scalar, [], ap, on_ok, scalar_word, spaced_all, ℕ, ◌++◌, ◌∙◌, ◌∷◌}
use Rattle.tw_asm.proofs.Lines.{map_words, scalar_words, spaced_more}
use Rattle.tw_asm.proofs.write.put_leaf.Goals as goal

pub returns-in_ok-put_name-in-Some : goal.returns-in_ok-put_name-in-Some
returns-in_ok-put_name-in-Some c =
    let first = c.map_word.result.now in
    let second = c.word_of_values.result.now in
    on_ok c.put_name-in-Some.result c.put_name-in-Some.ensures (λ e. e
    ∙ ap (λ (ys : List ℕ). ys ++ spaced_all (second ∷ [])) c.in_ok-put_name-in-Some.ensures
    ∙ spaced_more c.args.out.now.items (first ∷ []) (second ∷ [])
    ∙ ap (λ (ws : List (List ℕ)). c.args.out.now.items ++ spaced_all ws) (map_words c.args.ty.map c.args.ty.scalar c.in-Some.by first second c.in-Some.ensures c.map_word.ensures c.word_of_values.ensures))

pub returns-in-None : goal.returns-in-None
returns-in-None c =
    on_ok c.put_scalar.result c.put_scalar.ensures (λ e. e ∙ ap (λ (ws : List (List ℕ)). c.args.out.now.items ++ spaced_all ws) (ap (λ (s : Scalar). scalar_word s ∷ []) c.scalar.ensures ∙ scalar_words c.args.ty.map c.args.ty.scalar c.in-None.ensures))
