use Rattle.tw_asm.proofs.AsmNames.{List, OnOk, [], codes, goal_word, join_with_byte, operand_words, subst, word_of, ℕ, ◌++◌, ◌∷◌, ◌≡◌}
use Rattle.tw_code.specs.format.Sink.{seen}
use Rattle.tw_asm.proofs.Lines.{row_words, wrote_item, wrote_line}
use Rattle.tw_asm.proofs.write.put_row.Goals as goal

pub loop-operand-preserved : goal.loop-operand-preserved
loop-operand-preserved c =
    wrote_item (λ operand. operand_words (goal_word c.args.label) (seen operand)) c.args.operands.now c.loop-operand.operand-index c.operand-item.result _ _ _ c.loop-operand-test.true c.operand-item.is c.loop-operand.invariant c.in_ok-put_operand.ensures

pub returns : goal.returns
returns c =
    subst (λ (words : List (List ℕ)). OnOk c.put-2.result (c.put-2.new.out.items ≡ c.args.out.now.items ++ (join_with_byte 32 (word_of c.args.opcode ∷ words) ++ codes "\n"))) (row_words (goal_word c.args.label) c.args.operands.now)
    (wrote_line (λ operand. operand_words (goal_word c.args.label) (seen operand)) c.args.operands.now c.loop-operand.operand-index c.put-2.result c.args.out.now.items (word_of c.args.opcode) [] c.loop-operand.out.items c.put-2.new.out.items
    c.loop-operand-test.false c.loop-operand.invariant c.put-2.ensures)
