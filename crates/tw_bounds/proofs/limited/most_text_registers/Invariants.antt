use Rattle.tw_bounds.proofs.Names.{most_text_registers, take, ◌≡◌, ◌≤◌}
use Rattle.tw_bounds.proofs.limited.most_text_registers.Given as goal

-- the most of those so far
abbrev pub invariant-loop-procedure : goal.invariant-loop-procedure
invariant-loop-procedure l = (l.most ≡ most_text_registers (take l.procedure-index l.program)) × (l.most ≤ 16)
