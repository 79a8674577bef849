use Rattle.tw_asm.proofs.AsmNames.{[], codes, flat_map, scalar_word, spaced_all, take, ◌++◌, ◌∷◌, ◌≡◌}
use Rattle.tw_asm.proofs.write.put_registers.Given as goal

abbrev pub invariant-loop-scalar : goal.invariant-loop-scalar
invariant-loop-scalar l = l.out.items ≡ ((l.fn.out.items ++ codes "regs") ++ spaced_all []) ++ spaced_all (flat_map (λ scalar. scalar_word scalar ∷ []) (take l.scalar-index l.registers))
