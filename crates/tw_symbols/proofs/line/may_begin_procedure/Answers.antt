use Rattle.tw_symbols.proofs.TextNames.{IsAfterGap, List, subst, sym, ℕ, ◌∙◌}
use Rattle.tw_symbols.proofs.NoHeads.{no_head}
use Rattle.tw_symbols.proofs.line.may_begin_procedure.Goals as goal

pub returns : goal.returns
returns c = λ none.
    no_head c.args.line.now c.without_gap.result.now (subst (λ (bytes : List ℕ). IsAfterGap bytes c.without_gap.result.now) c.as_bytes.ensures.value c.without_gap.ensures.after) (sym c.begins_with_p.ensures ∙ none)
