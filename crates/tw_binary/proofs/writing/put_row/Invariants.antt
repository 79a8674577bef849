use Rattle.tw_binary.proofs.Names.{byte, code_of, concat, flat_map, operand_items, seen, take, ◌++◌, ◌≡◌}
use Rattle.tw_binary.proofs.writing.put_row.Given as goal

abbrev pub invariant-loop-operand : goal.invariant-loop-operand
invariant-loop-operand l = l.out.items ≡ (l.fn.out.items ++ byte (code_of l.fn.opcode)) ++ concat (flat_map (λ o. operand_items (seen o)) (take l.operand-index l.operands))
