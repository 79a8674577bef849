use Rattle.tw_bounds.proofs.Names.{AreSmall, Some, map, take, weight_of, ◌≡◌}
use Rattle.tw_bounds.proofs.weighing.place_costs.Given as goal

-- so far
abbrev pub invariant-loop-instr : goal.invariant-loop-instr
invariant-loop-instr l = (map (weight_of l.program l.weights l.known l.registers) (take l.instr-index l.code) ≡ map Some l.costs.items) × AreSmall l.costs.items
