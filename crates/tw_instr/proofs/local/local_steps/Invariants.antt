use Rattle.tw_instr.proofs.Names.{local_steps, ◌-◌, ◌≡◌}
use Rattle.tw_instr.proofs.local.local_steps.Given as goal

abbrev pub invariant-loop : goal.invariant-loop
invariant-loop l = local_steps l.steps l.code l.initial.position ≡ local_steps (l.steps - l.counter) l.code l.position
