use Rattle.std.proofs.Common.{◌≡◌, ◌≤◌, replicate, None}
use Rattle.std.specs.Prelude.{vec_capacity}
use Rattle.tw_pool_state.proofs.task_slots.empty_slots.Given as goal

abbrev pub invariant-loop-index : goal.invariant-loop-index
invariant-loop-index l = record {
  room : 24 ≤ vec_capacity l.frames;
  empty : l.frames.items ≡ replicate l._index None;
}
