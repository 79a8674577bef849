use Rattle.tw_asm.proofs.AsmNames.{ap, label_at, option_and_then, sym, ℕ, ◌+◌, ◌∙◌}
use Rattle.tw_asm.proofs.disassembler.goal_label.Goals as goal

pub returns-in-Some : goal.returns-in-Some
returns-in-Some c =
    c.label_at.ensures
    ∙ ap (λ (skip : ℕ). label_at c.args.places.now.keys (c.args.place + 1 + skip)) c.from.ensures
    ∙ ap (option_and_then (λ skip. label_at c.args.places.now.keys (c.args.place + 1 + skip))) (sym c.in-Some.is ∙ c.skip_of.ensures)
