use Rattle.tw_cli.proofs.Names.{Bool, IfOk, IsExplainedBy, IsExplanation, List, MatchOption, false, is_number, length, meant, refl, subst, sym, true, ℕ, ◌==◌, ◌∙◌, ◌≡◌}
use Rattle.tw_cli.specs.declared.explanations.Explained.{Explained}
use Rattle.tw_cli.proofs.FoundRows.{explained_word}
use Rattle.tw_cli.proofs.explanations.explained_code.Goals as goal

pub returns-in_ok-all : goal.returns-in_ok-all
returns-in_ok-all c =
    let empty : (length c.args.word.now == 0) ≡ true = sym c.is_empty.ensures ∙ c.if-is_empty.true in
    let all = c.in_ok-all.all in
    (rw empty refl, c.in_ok-all.ensures.0, subst (λ (b : Bool). IsExplainedBy b c.args.word.now all.code.items all.text.items) (sym empty) c.in_ok-all.ensures.1)

pub returns-else-is_empty : goal.returns-else-is_empty
returns-else-is_empty c =
    explained_word (λ (e : Explained). e.form ≡ c.args.form) (λ e. e.code.items) (λ e. e.text.items) c.args.word.now c.word_meaning.result (sym c.is_empty.ensures ∙ c.if-is_empty.false)
    (subst (λ (word : List ℕ). IfOk c.word_meaning.result (λ requested. MatchOption requested (is_number (meant word) ≡ false) (λ e. (is_number (meant word) ≡ true) × (e.form ≡ c.args.form) × (e.code.items ≡ meant word) × IsExplanation (meant word) e.text.items))) c.as_bytes.ensures.value c.word_meaning.ensures)
