use Rattle.tw_symbols.proofs.TextNames.{None, Option, ap, inl, not, now, option_map, refl, seen_names, subst, sym, ℕ, ◌∙◌, ◌≡◌, and_then}
use Rattle.tw_symbols.specs.Meanings.{literal_at}
use Rattle.tw_symbols.specs.Renamed.{IsOperand}
use Rattle.tw_symbols.proofs.LiteralWords.{none_is}
use Rattle.tw_symbols.proofs.renamed_words.is_operand.Goals as goal

pub returns-then-is_none : goal.returns-then-is_none
unfolding IsOperand
returns-then-is_none c = λ is.
    let none = sym c.literal_in.ensures ∙ ap (option_map now) c.in-None.is in
    let free = subst (λ (n : Option ℕ). and_then n (literal_at (seen_names c.args.names.now)) ≡ None) c.value_at-number.ensures none in
    inl (refl, free, c.in_ok-first-in-None.ensures (none_is c.in_ok-first-in-None.first (c.is_none.ensures ∙ ap not c.if-is_none.true)), c.is_word.ensures is)
