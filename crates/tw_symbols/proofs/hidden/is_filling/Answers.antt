use Rattle.tw_symbols.proofs.TextNames.{rules, List, [], ap, bytes_eq-Decides, map-append, now, seen_names, sym, texts, ℕ, ◌∙◌, ◌∷◌}
use Rattle.tw_symbols.proofs.hidden.is_filling.Goals as goal

pub returns-in_ok-push : goal.returns-in_ok-push
returns-in_ok-push c = λ _.
    let items = c.args.names.now.literals.items in (
      (bytes_eq-Decides c.args.opcode.now c.opcode_for.result.now).0 (sym c.eq.ensures ∙ c.if-eq.true) ∙ c.opcode_for.ensures,
      (c.in_ok-is_one.ensures).0 c.if-is_one.true,
      c.has_type.ensures c.if-has_type.true,
      c.is_next.ensures c.if-is_next.true,
      search rules,
      ap (λ (ls : List (List ℕ)). record (seen_names c.args.names.now) { literals = ls }) (ap texts c.in_ok-push.ensures.items ∙ map-append now items (c.args.literal ∷ [])),
    )
