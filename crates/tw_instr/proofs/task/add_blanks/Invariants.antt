use Rattle.tw_instr.proofs.Names.{blank_of, map, take, ◌++◌, ◌≡◌}
use Rattle.tw_instr.proofs.task.add_blanks.Given as goal

abbrev pub invariant-loop-ty : goal.invariant-loop-ty
invariant-loop-ty l = l.values.items ≡ l.initial.values.items ++ map blank_of (take l.ty-index l.types)
