use Rattle.std.proofs.Common.{length}
use Rattle.tw_pool_state.proofs.task_slots.shut_tasks.Given as goal

abbrev pub invariant-loop-task_slot : goal.invariant-loop-task_slot
invariant-loop-task_slot l = Unit {0}

abbrev pub decreases-loop-task_slot : goal.decreases-loop-task_slot
decreases-loop-task_slot l = length l.frames.items
