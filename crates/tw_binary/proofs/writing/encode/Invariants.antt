use Rattle.tw_binary.proofs.Names.{[], concat, flat_map, length, procedure_items, take, ◌++◌, ◌∷◌, ◌≡◌}
use Rattle.tw_binary.proofs.writing.encode.Given as goal

abbrev pub invariant-loop-procedure : goal.invariant-loop-procedure
invariant-loop-procedure l = l.bytes.out.items ≡ 0x54 ∷ 0x57 ∷ 0x42 ∷ l.version ∷ length l.procedures ∷ [] ++ concat (flat_map procedure_items (take l.procedure-index l.procedures))
