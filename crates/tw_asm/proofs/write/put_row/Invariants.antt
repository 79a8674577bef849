use Rattle.tw_asm.proofs.AsmNames.{[], flat_map, goal_word, operand_words, spaced_all, take, word_of, ◌++◌, ◌≡◌}
use Rattle.tw_code.specs.format.Sink.{seen}
use Rattle.tw_asm.proofs.write.put_row.Given as goal

abbrev pub invariant-loop-operand : goal.invariant-loop-operand
invariant-loop-operand l =
    l.out.items ≡ ((l.fn.out.items ++ word_of l.fn.opcode) ++ spaced_all []) ++ spaced_all (flat_map (λ operand. operand_words (goal_word l.label) (seen operand)) (take l.operand-index l.operands))
