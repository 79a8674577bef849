use Rattle.tw_asm.proofs.AsmNames.{List, None, OnOk, [], codes, goal_word, join_with_byte, part_words, register_part, scalar_word, subst, ℕ, ◌++◌, ◌∷◌, ◌≡◌}
use Rattle.tw_asm.proofs.Lines.{flat_mapped, wrote, wrote_line}
use Rattle.tw_asm.proofs.write.put_registers.Goals as goal

pub loop-scalar-preserved : goal.loop-scalar-preserved
loop-scalar-preserved c =
    wrote (λ scalar. scalar_word scalar ∷ []) c.args.registers.now c.loop-scalar.scalar-index _ _ _ _ c.loop-scalar-test.true c.loop-scalar.invariant c.in_ok-put_scalar.ensures

pub returns : goal.returns
returns c =
    subst (λ (words : List (List ℕ)). OnOk c.put-2.result (c.put-2.new.out.items ≡ c.args.out.now.items ++ (join_with_byte 32 (codes "regs" ∷ words) ++ codes "\n"))) (flat_mapped (part_words (goal_word None)) register_part c.args.registers.now)
    (wrote_line (λ scalar. scalar_word scalar ∷ []) c.args.registers.now c.loop-scalar.scalar-index c.put-2.result c.args.out.now.items (codes "regs") [] c.loop-scalar.out.items c.put-2.new.out.items
    c.loop-scalar-test.false c.loop-scalar.invariant c.put-2.ensures)
