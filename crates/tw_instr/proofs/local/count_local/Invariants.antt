use Rattle.tw_instr.proofs.Names.{Went, local_steps, ◌≡◌}
use Rattle.tw_instr.proofs.local.count_local.Given as goal

abbrev pub invariant-loop-steps : goal.invariant-loop-steps
invariant-loop-steps l = local_steps l.steps l.code l.initial.position ≡ Went l.position
