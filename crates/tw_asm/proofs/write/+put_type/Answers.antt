use Rattle.tw_asm.proofs.AsmNames.{List, [], ap, on_ok, spaced_all, type_words, ℕ, ◌++◌, ◌∙◌, ◌∷◌}
use Rattle.tw_asm.proofs.Lines.{container_words, spaced_more}
use Rattle.tw_asm.proofs.write.+put_type.Goals as goal

pub returns-in_ok-put_name-in-Some : goal.returns-in_ok-put_name-in-Some
returns-in_ok-put_name-in-Some t c =
    let word = c.word_of_container.result.now in
    on_ok c.put_type.result c.put_type.ensures (λ e. e
    ∙ ap (λ (ys : List ℕ). ys ++ spaced_all (type_words c.in-Some.element)) c.in_ok-put_name-in-Some.ensures
    ∙ spaced_more c.args.out.now.items (word ∷ []) (type_words c.in-Some.element)
    ∙ ap (λ (ws : List (List ℕ)). c.args.out.now.items ++ spaced_all ws) (container_words c.args.ty c.in-Some.element word c.in-Some.ensures c.word_of_container.ensures))
