use Rattle.tw_symbols.proofs.Labels.{label_unnamed}
use Rattle.tw_symbols.proofs.TextNames.{Bor, List, Option, ap, last_version, option_map, sym, ℕ, ◌∙◌}
use Rattle.tw_symbols.proofs.line_kind.opcode_of.Goals as goal

pub returns-in-Some : goal.returns-in-Some
returns-in-Some c =
    label_unnamed c.args.word.now c.in-Some.field-0.now (sym c.before_colon.ensures ∙ ap (λ (name : Option (Bor (List ℕ))). option_map (λ x. x.now) name) c.in-Some.is) last_version
