use Rattle.tw_binary.proofs.Names.{concat, flat_map, instr_items, length, take, wide, ◌++◌, ◌≡◌}
use Rattle.tw_binary.proofs.writing.put_code.Given as goal

abbrev pub invariant-loop-instr : goal.invariant-loop-instr
invariant-loop-instr l = l.bytes.out.items ≡ (l.fn.bytes.out.items ++ wide (length l.code)) ++ concat (flat_map instr_items (take l.instr-index l.code))
