use Rattle.std.proofs.Common.{◌≡◌, take}
use Rattle.tw_instr.proofs.task.copies_of.Given as goal

abbrev pub invariant-loop-arg : goal.invariant-loop-arg
invariant-loop-arg l = l.copies.items ≡ take l.arg-index l.args
