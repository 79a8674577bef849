use Rattle.tw_binary.proofs.Names.{All-from_recursion, IsInstr, instr_items}
use Rattle.tw_binary.proofs.Joined.{wrote_item}
use Rattle.tw_binary.proofs.writing.put_code.Goals as goal

pub loop-instr-preserved : goal.loop-instr-preserved
loop-instr-preserved c = wrote_item instr_items c.args.code.now c.loop-instr.instr-index c.instr-item.result _ _ _ c.loop-instr-test.true c.instr-item.is c.loop-instr.invariant c.in_ok-put_instr.ensures

pub put_instr-requires : goal.put_instr-requires
put_instr-requires c = rw c.instr-item.is (All-from_recursion IsInstr c.args.code.now c.requires.1 c.loop-instr.instr-index _ c.loop-instr-test.true)
