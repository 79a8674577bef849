-- Passes on what the files here use of other crates and of the definitions.
pub use Rattle.std.proofs.Common.{Bool, Bor, IsSome, List, T, [], ap, append_assoc, arith, cond, count_by, false, get_or, inl, inr, is_some, length, map, nat_eq, of_z, option_map, refl, replicate, rules, slice_set, subst, suc, sym, to_z, to_z-of_z, true, w64, zero, ℕ, ℤ, ◌&&◌, ◌++◌, ◌+◌, ◌-◌, ◌<◌, ◌∙◌, ◌∷◌, ◌≡◌, ◌≢◌, ◌≤◌, ◌⊎◌}
pub use Rattle.std.proofs.lemmas.Bool.{and_from, and_parts}
pub use Rattle.std.proofs.lemmas.List.{get_or-map, get_or-set_other, get_or-set_same, get_or_past, length-map, length_push, map-set, map_push}
pub use Rattle.std.proofs.lemmas.List.Sorted.{Contains-permutation, IsPermutation-append_right, IsPermutation-map, IsPermutation-middle, IsPermutation-sym, IsPermutation-trans, ranks_by}
pub use Rattle.std.proofs.lemmas.List.Sums.{sum_by-cons, sum_by-set, sum_by_push}
pub use Rattle.std.proofs.lemmas.Option.{get_or_from_slice_get, slice_get-get_or, slice_get_read, slice_get_within}
pub use Rattle.std.specs.BinaryHeap.{IsUpperBound, heap_items}
pub use Rattle.std.specs.Cmp.{IsStrictWeakOrder, IsTotalOrder, nat_cmp_total}
pub use Rattle.std.specs.FinMap.{entries, entries_sorted, find, get, get-entries, get-from_entries, get-insert, get-remove, insert, is_sorted, len, len-empty, len-insert, nat_cmp-IsAntisymmetric, remove, same_map}
pub use Rattle.std.specs.List.{AllByRecursion, Contains}
pub use Rattle.std.specs.List.Sorted.{IsPermutation}
pub use Rattle.std.specs.Option.{IfNone, IfSome, option_copied, option_to_list}
pub use Rattle.std.specs.Ordering.{eq_by_cmp, int_cmp, is_lt, nat_cmp, ordering_then}
pub use Rattle.std.specs.Result.{OnErr, OnOk}
pub use Rattle.std.specs.declared.cmp.Ordering.{Ordering}
pub use Rattle.std.specs.declared.cmp.Ordering.TheVariants.{Equal, Greater, Less}
pub use Rattle.std.specs.declared.option.Option.{Option}
pub use Rattle.std.specs.declared.option.Option.TheVariants.{None, Some}
pub use Rattle.tw_queue.specs.Indexed.{AreApart, IsEntryAt, IsIndex, numbered, rank_of, task_in, tasks_in}
pub use Rattle.tw_queue.specs.Queues.{IsRoomKept, IsTarget, Queues, queue_of, room_at, room_for, taken_task, waiting, without}
pub use Rattle.tw_queue.specs.QueuesByTarget.{IsAheadOfAll, IsBest, IsOwnQueue, IsPushed, IsTaken, ranks_at, ranks_in}
pub use Rattle.tw_queue.specs.RankIndex.{IsHereOrSame, IsRankBest, IsRankRemoved, KeepsRoom, Ranking, has_room_for, ranks_of, rooms_with}
pub use Rattle.tw_queue.specs.Ranks.{rank_cmp}
pub use Rattle.tw_queue.specs.RunQueues.{IsFirst, IsInFront, IsInOrder, RunQueueView}
pub use Rattle.tw_queue.specs.Slots.{AreSlots, IsChangedAt, IsFreeList, slot_at, waiting_in}
pub use Rattle.tw_queue.specs.Targets.{HasNoRank, HaveTargets, IsNoTarget}
pub use Rattle.tw_queue.specs.declared.rank.Rank.{Rank}
pub use Rattle.tw_queue.specs.declared.slots.Slot.TheVariants.{Free, Full}
pub use Rattle.tw_queue.specs.declared.waiting.Waiting.{Waiting}
pub use Rattle.tw_rights.specs.declared.arg.Arg.{Arg}
pub use Rattle.tw_types.proofs.Elements.{all_at, all_mapped, contains_cases, contains_here, contains_later, contains_none, mapped_has}
pub use Rattle.tw_types.proofs.Numbers.{nat_apart, nat_flips, nat_itself, nat_other, nat_same}
pub use Rattle.tw_types.specs.Actor.{may_take, number_in_kind}
pub use Rattle.tw_types.specs.Task.{TaskOf, TasksOf, best, is_eligible, is_for}
pub use Rattle.tw_types.specs.declared.actor.Actor.{Actor}
pub use Rattle.tw_types.specs.declared.actor.Actor.TheVariants.{Engine, Server, Worker}
pub use Rattle.tw_types.specs.declared.actor.Kind.{Kind}
pub use Rattle.tw_types.specs.declared.actor.Kind.TheVariants.{Control, Leaf}
