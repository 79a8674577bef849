use Rattle.tw_asm.proofs.AsmNames.{[], decimal, ◌∷◌}
use Rattle.tw_asm.proofs.Lines.{wrote}
use Rattle.tw_asm.proofs.write.put_args.Goals as goal

pub loop-arg-preserved : goal.loop-arg-preserved
loop-arg-preserved c = wrote (λ arg. decimal arg ∷ []) c.args.args.now c.loop-arg.arg-index _ _ _ _ c.loop-arg-test.true c.loop-arg.invariant c.in_ok-put_argument.ensures
