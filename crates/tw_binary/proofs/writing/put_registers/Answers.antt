use Rattle.tw_binary.proofs.Names.{[], ap, scalar_items, ◌++◌, ◌∙◌, ◌∷◌}
use Rattle.tw_binary.proofs.Joined.{wrote}
use Rattle.tw_binary.proofs.writing.put_registers.Goals as goal

pub loop-register-preserved : goal.loop-register-preserved
loop-register-preserved c = let is = (c.in_ok-push-2.ensures).items in wrote scalar_items c.args.registers.now c.loop-register.register-index _ _ _ _ c.loop-register-test.true c.loop-register.invariant (is ∙ ap (λ n. c.loop-register.out.items ++ n ∷ []) c.code_of_scalar.ensures)
