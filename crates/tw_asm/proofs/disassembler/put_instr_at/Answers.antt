use Rattle.tw_asm.proofs.AsmNames.{List, OnOk, subst, ℕ, ◌++◌, ◌≡◌}
use Rattle.tw_asm.proofs.OwnLines.{label_of_goal}
use Rattle.tw_asm.proofs.disassembler.put_instr_at.Goals as goal

pub returns : goal.returns
returns c =
    subst (λ (line : List ℕ). OnOk c.put_instr.result (c.put_instr.new.lines.out.items ≡ c.args.lines.now.out.items ++ line)) (label_of_goal c.args.places.now.keys c.args.place c.goal_label.result c.args.instr.now c.goal_label.ensures) c.put_instr.ensures
