-- Passes on what the files here use of other crates and of the definitions.
pub use Rattle.std.proofs.Common.{Bool, Bor, IfSome, IsSome, IsTrue, List, T, [], ap, arith, cond, drop, false, get_or, is_some, length, length-append, map, nat_eq, not, refl, rules, subst, suc, sym, true, zero, ℕ, ◌&&◌, ◌*◌, ◌+◌, ◌-◌, ◌<◌, ◌^◌, ◌||◌, ◌↔◌, ◌∙◌, ◌∷◌, ◌≡◌, ◌≤◌}
pub use Rattle.std.proofs.lemmas.Bool.{and_parts}
pub use Rattle.std.proofs.lemmas.Bool.Decides.{nat_tests}
pub use Rattle.std.proofs.lemmas.Result.{err_from_is_err_and}
pub use Rattle.std.specs.BTreeMap.{BTreeMap, WritesThrough, btree_map_len, get_by}
pub use Rattle.std.specs.BTreeSet.{BTreeSet, IsLowerBound, IsUnchanged, btree_set_len, contains}
pub use Rattle.std.specs.Cmp.{IsStrictWeakOrder, IsTotalOrder, nat_cmp_total}
pub use Rattle.std.specs.Cmp.Rules.{comparing}
pub use Rattle.std.specs.FinMap.{empty, entries, entries_sorted, find, from_entries, get, get-empty, get-entries, get-insert, get-remove, insert, int_cmp-IsAntisymmetric, is_sorted, len, len-entries, nat_cmp-IsAntisymmetric, remove, values}
pub use Rattle.std.specs.List.{list_any}
pub use Rattle.std.specs.Ordering.{eq_by_cmp, int_cmp, is_eq, is_gt, is_lt, nat_cmp, ordering_reverse, ordering_then}
pub use Rattle.std.specs.Prelude.{Err, Ok, Result, int_lt}
pub use Rattle.std.specs.Result.{OnErr, OnOk}
pub use Rattle.std.specs.declared.cmp.Ordering.{Ordering}
pub use Rattle.std.specs.declared.cmp.Ordering.TheVariants.{Equal, Greater, Less}
pub use Rattle.std.specs.declared.option.Option.{Option}
pub use Rattle.std.specs.declared.option.Option.TheVariants.{None, Some}
pub use Rattle.tw_code.proofs.Givens.{as_container, as_map, entries_short, entries_type, given_kind, input_next, next_param, none_fit, skips, takes}
pub use Rattle.tw_code.proofs.Growth.{below_more, opening_is_small, step_grows}
pub use Rattle.tw_code.specs.declared.instr.Instr.{Instr}
pub use Rattle.tw_code.specs.declared.procedure.Procedure.{Procedure}
pub use Rattle.tw_code.specs.machine.Arguments.{procedure_of}
pub use Rattle.tw_code.specs.machine.Bounds.{AreBelow, opening_bound, size_of}
pub use Rattle.tw_code.specs.machine.Inputs.{AreInputsOf, are_inputs_of, has_fitting_inputs, has_input_count, input_params, is_given_for, is_input_of}
pub use Rattle.tw_code.specs.machine.Machine.{ask_event, asked, call_by, call_event, end_event, instr_at, local_event, local_step, local_steps, own_rule, release_event, step, take_event}
pub use Rattle.tw_code.specs.machine.Members.{are_short, with_members}
pub use Rattle.tw_code.specs.machine.Opening.{added_given, numbered}
pub use Rattle.tw_code.specs.machine.State.{Frame, Frames, State, frame_of, with_frame, with_task}
pub use Rattle.tw_datum.specs.Kept.{FitsType, closed_datum}
pub use Rattle.tw_instr.proofs.Stops.{fails_then, stopped_then}
pub use Rattle.tw_instr.specs.Attempts.{Changes, IsStopped, MayFail, stopped_by}
pub use Rattle.tw_instr.specs.declared.stopped.Stopped.{Stopped}
pub use Rattle.tw_machine.specs.Events.{CallLeaves, HaveRoom, LeavesFrame, LeavesFrames, LeavesTables, with_frames, with_tables, with_tasks}
pub use Rattle.tw_machine.specs.Memory.{IsAskOfOpen, IsEnabled, Succeeds}
pub use Rattle.tw_machine.specs.Parts.{frames_of, rules_of, tasks_of}
pub use Rattle.tw_machine.specs.Rank.{rank_cmp, rank_of}
pub use Rattle.tw_machine.specs.Ranking.{AreRanked, AreSameIn, IsLeast, IsMarked, IsMarkedAt, IsMarkedIn, Sets, has_rank, has_rank_at, has_rank_for, has_rank_in, is_offered, is_rank, same_target, target_cmp}
pub use Rattle.tw_machine.specs.Waiting.{RuleTable, TaskTable, rule_released, staged, staged_in, task_put, unasked_id}
pub use Rattle.tw_machine.specs.contracts.state.State.{the_view}
pub use Rattle.tw_machine.specs.declared.rank.Rank.{Rank}
pub use Rattle.tw_machine.specs.declared.ranks.Ranks.{Ranks}
pub use Rattle.tw_machine.specs.declared.tables.Tables.{Tables}
pub use Rattle.tw_types.proofs.ActorOrder.{actor_cmp-IsAntisymmetric, actor_cmp_total}
pub use Rattle.tw_types.proofs.Maps.{entries_view, found_view, insert_same, inserted_view, is_empty_view, removed_view, written_view}
pub use Rattle.tw_types.proofs.Orders.{other_key, own_key, tied}
pub use Rattle.tw_types.proofs.Subscripts.{no_entries, no_kinds, one_more_kind}
pub use Rattle.tw_types.specs.Actor.{actor_cmp, is_in, may_take, same_kind}
pub use Rattle.tw_types.specs.DataType.{has_sums, is_container_by, is_scalar, map_with}
pub use Rattle.tw_types.specs.Given.{Given, given_for, members_by}
pub use Rattle.tw_types.specs.Layout.{ActorCounts}
pub use Rattle.tw_types.specs.Nesting.{NestedScalar}
pub use Rattle.tw_types.specs.Outcome.{NotEnabled, Outcome, Trap, Went, enabled, outcome_of, ◌>>=◌}
pub use Rattle.tw_types.specs.Rule.{Rule, Rules, at_stage, has_unasked, is_releasable, is_unasked, task_from}
pub use Rattle.tw_types.specs.Store.{Contains, Datum, Maps, Members, Store, Values, added, is_closed}
pub use Rattle.tw_types.specs.Task.{Arg, RightArg, Task, Tasks, ValueArg, best, is_eligible, is_for}
pub use Rattle.tw_types.specs.Value.{IsProper, is_short, scalar_of}
pub use Rattle.tw_types.specs.declared.actor.Actor.{Actor}
pub use Rattle.tw_types.specs.declared.actor.Actor.TheVariants.{Engine, Server, Worker}
pub use Rattle.tw_types.specs.declared.actor.Kind.{Kind}
pub use Rattle.tw_types.specs.declared.actor.Kind.TheVariants.{Control, Leaf}
pub use Rattle.tw_types.specs.declared.cause.Cause.{Cause}
pub use Rattle.tw_types.specs.declared.input.Input.{Input}
pub use Rattle.tw_types.specs.declared.stage.Stage.{Stage}
