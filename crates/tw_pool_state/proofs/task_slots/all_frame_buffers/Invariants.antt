use Rattle.tw_pool_state.proofs.PartNames.{HasBuffers, vec_capacity, ◌≤◌}
use Rattle.tw_pool_state.proofs.task_slots.all_frame_buffers.Given as goal

abbrev pub invariant-loop-task_slot : goal.invariant-loop-task_slot
invariant-loop-task_slot l = record {
  room : 24 ≤ vec_capacity l.frame_buffers;
  all : HasBuffers l.layout l.task_slot l.frame_buffers.items;
}
