use Rattle.std.proofs.Common.{◌≡◌, take}
use Rattle.tw_frame.proofs.loops.Loops.same.Given as goal

abbrev pub invariant-loop-index : goal.invariant-loop-index
invariant-loop-index l = take l.index l.self-inside.begun ≡ take l.index l.other-inside.begun
