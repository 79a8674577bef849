use Rattle.std.proofs.Common.{length}
use Rattle.tw_pool_state.proofs.task_slots.drop_frame_buffers.Given as goal

abbrev pub invariant-loop-room : goal.invariant-loop-room
invariant-loop-room l = Unit {0}

abbrev pub decreases-loop-room : goal.decreases-loop-room
decreases-loop-room l = length l.frame_buffers.items
