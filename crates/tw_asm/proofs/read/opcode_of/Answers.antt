use Rattle.tw_asm.proofs.AsmNames.{Bor, List, Option, ap, option_map, sym, ℕ, ◌∙◌}
use Rattle.tw_asm.proofs.Firsts.{label_unnamed}
use Rattle.tw_asm.proofs.read.opcode_of.Goals as goal

pub returns-in-Some : goal.returns-in-Some
returns-in-Some c =
    label_unnamed c.args.version c.args.word.now c.in-Some.field-0.now (sym c.before_colon.ensures ∙ ap (λ (name : Option (Bor (List ℕ))). option_map (λ x. x.now) name) c.in-Some.is)
