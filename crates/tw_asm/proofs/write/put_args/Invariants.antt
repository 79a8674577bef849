use Rattle.tw_asm.proofs.AsmNames.{[], decimal, flat_map, spaced_all, take, ◌++◌, ◌∷◌, ◌≡◌}
use Rattle.tw_asm.proofs.write.put_args.Given as goal

abbrev pub invariant-loop-arg : goal.invariant-loop-arg
invariant-loop-arg l = l.out.items ≡ l.fn.out.items ++ spaced_all (flat_map (λ arg. decimal arg ∷ []) (take l.arg-index l.args))
