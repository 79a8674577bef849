use Rattle.tw_binary.proofs.Names.{byte, concat, flat_map, length, scalar_items, take, ◌++◌, ◌≡◌}
use Rattle.tw_binary.proofs.writing.put_registers.Given as goal

abbrev pub invariant-loop-register : goal.invariant-loop-register
invariant-loop-register l = l.out.items ≡ (l.fn.out.items ++ byte (length l.registers)) ++ concat (flat_map scalar_items (take l.register-index l.registers))
