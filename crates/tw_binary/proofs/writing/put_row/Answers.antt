use Rattle.tw_binary.proofs.Names.{All-from_recursion, IsOperand, Item, List, ap, append_assoc, byte, code_of, concat, flat_map, operand_items, seen, take_all, ◌++◌, ◌∙◌, ◌∷◌}
use Rattle.tw_code.specs.declared.sink.Operand.{Operand}
use Rattle.tw_binary.proofs.Joined.{flat_mapped, wrote_item}
use Rattle.tw_binary.proofs.writing.put_row.Goals as goal

pub loop-operand-preserved : goal.loop-operand-preserved
loop-operand-preserved c = wrote_item (λ o. operand_items (seen o)) c.args.operands.now c.loop-operand.operand-index c.operand-item.result _ _ _ c.loop-operand-test.true c.operand-item.is c.loop-operand.invariant c.in_ok-put_operand.ensures

pub put_operand-requires : goal.put_operand-requires
put_operand-requires c = rw c.operand-item.is (All-from_recursion (λ o. IsOperand (seen o)) c.args.operands.now c.requires c.loop-operand.operand-index _ c.loop-operand-test.true)

pub returns : goal.returns
returns c =
    let items = λ (o : Operand). operand_items (seen o) in
    let given = c.args.operands.now in
    let old = c.args.out.now.items in
    let code = code_of c.args.opcode in
    c.loop-operand.invariant
    ∙ ap (λ (os : List Operand). (old ++ byte code) ++ concat (flat_map items os)) (take_all c.loop-operand.operand-index given c.loop-operand-test.false)
    ∙ append_assoc old (byte code) (concat (flat_map items given))
    ∙ ap (λ (all : List Item). old ++ code ∷ concat all) (flat_mapped operand_items seen given)
