use Rattle.std.specs.Vec.{vec_len}
use Rattle.tw_queue.proofs.slots.Slots.shut.Given as goal

abbrev pub decreases-loop-slot : goal.decreases-loop-slot
decreases-loop-slot l = vec_len l.slots
