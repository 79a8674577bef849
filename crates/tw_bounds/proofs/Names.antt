-- Passes on what the files here use of other crates and of the definitions.
pub use Rattle.std.proofs.Common.{Bool, Global, IfOk, IfSome, List, None, Option, Some, Vec, [], ap, arith, cond, drop, false, fold, get_or, if◌then◌else◌, inl, inr, leb, length, length-append, map, max, min, not, refl, replicate, set, subst, suc, sym, take, true, zero, ℕ, ℤ, ◌&&◌, ◌*◌, ◌++◌, ◌+◌, ◌-◌, ◌<◌, ◌==◌, ◌||◌, ◌∙◌, ◌∷◌, ◌≡◌, ◌≢◌, ◌≤◌, ◌⊎◌}
pub use Rattle.std.proofs.Math.Dec.{eqb}
pub use Rattle.std.proofs.Math.Nat.{mul-le-mul_left}
pub use Rattle.std.proofs.lemmas.Bool.{and_parts, cases_eq, cases_lt, eqb-false, eqb-true, le-leb, leb-false, leb-true}
pub use Rattle.std.proofs.lemmas.List.{length-map, length-set, map-set}
pub use Rattle.std.proofs.lemmas.List.Sums.{sum_by-cons}
pub use Rattle.std.proofs.lemmas.Option.{get_or_from_slice_get, same_Some, slice_get-get_or, slice_get-map, slice_get_read, slice_get_within}
pub use Rattle.std.specs.Cmp.{IsTotalOrder, nat_cmp_total}
pub use Rattle.std.specs.FinMap.{FinMap, contains_key, empty, entries, get, get-empty, insert, len, len-empty, len-insert, nat_cmp-IsAntisymmetric, remove}
pub use Rattle.std.specs.List.{list_all, list_any}
pub use Rattle.std.specs.Option.{IsSomeAnd, is_some, ok_or, option_flatten, option_map, option_map_or}
pub use Rattle.std.specs.Ordering.{nat_cmp}
pub use Rattle.std.specs.Prelude.{Err, Ok, Result, int_lt, nat_le, slice_get, unwrap_or}
pub use Rattle.tw_bounds.specs.Bounds.{AreAllBounds, AreBounds, AreCosts, Calls, CallsEnd, IsBoundOf, bound_at, cost_in, data_weight, rule_events, text_in, text_registers, texts_added, weight_added, weight_of}
pub use Rattle.tw_bounds.specs.Circles.{CallsEndless, IsCall, IsCircle, IsEndless, LeadsTo}
pub use Rattle.tw_bounds.specs.Contents.{frame_texts, is_map_to_texts, is_text, is_text_scalar, member_count, members_held, rule_texts, task_texts, text_count, texts_among, texts_held, texts_stored}
pub use Rattle.tw_bounds.specs.Cost.{IsGreatestCost, cost_of}
pub use Rattle.tw_bounds.specs.GreatestCost.{after_loop, by_flow, greatest_cost, greatest_cost_in}
pub use Rattle.tw_bounds.specs.Least.{AreLeastBounds, LeastRuns, least, lesser, main_in, main_of}
pub use Rattle.tw_bounds.specs.Limited.{AreLimitedBounds, IsLargestBudget, IsLargestOf, IsRunWithinLimited, LimitsRuns, adds_member, adds_texts, has_instr, is_on_data, makes_datum, makes_rule, most_text_registers, most_texts, one_each}
pub use Rattle.tw_bounds.specs.Reports.{AreReported, AreRunBounds, BoundsRuns, IsAtMost, IsRunWithin, reported}
pub use Rattle.tw_bounds.specs.Rows.{AreSmall, IsRow, RowsFrom, cap, greatest_bound}
pub use Rattle.tw_bounds.specs.Runs.{IsBoundOfMain, IsWithinBound, bytes_alone, data_alone, events_alone, instructions_alone, instructions_by, instructions_in, members_alone, rule_events_by, rule_events_in, rules_alone, tasks_alone, tasks_by, tasks_in, weight_made}
pub use Rattle.tw_bounds.specs.Solving.{AreCapped, AreCappedBounds, AreWithin, CallsUnknown, IsBoundable, IsCappedBound, IsFixpoint, IsNext}
pub use Rattle.tw_bounds.specs.declared.bound.Bound.{Bound}
pub use Rattle.tw_bounds.specs.declared.bound.Bound.TheVariants.{AtMost, Endless, Over}
pub use Rattle.tw_bounds.specs.declared.bound.RunBounds.{RunBounds}
pub use Rattle.tw_bounds.specs.declared.limited.LimitedBounds.{LimitedBounds}
pub use Rattle.tw_bounds.specs.declared.row.Row.{Row}
pub use Rattle.tw_bounds.specs.declared.weights.Weights.{Weights}
pub use Rattle.tw_budget.proofs.FrameTheorems.{below_budget, fits_next}
pub use Rattle.tw_budget.proofs.Lengths.{branch_goal, jump_goal, next_close, same_cursor, step_of, there}
pub use Rattle.tw_budget.proofs.Places.{begun, branch_end, close_end, drop_at, not_last, start_outside, stop_outside, straight_end}
pub use Rattle.tw_budget.specs.Frames.{LoopsFit}
pub use Rattle.tw_budget.specs.Sound.{IsSound}
pub use Rattle.tw_code.proofs.Leaving.{IsRunningAt, ask_leaves, deliver_leaves, end_leaves, is_running_at, local_leaves, release_leaves, take_leaves}
pub use Rattle.tw_code.specs.accepting.Flow.{data_flow, flow_of, flows, local_flow}
pub use Rattle.tw_code.specs.accepting.Structure.{end_from, end_of}
pub use Rattle.tw_code.specs.accepting.Typing.{requires_action, requires_priority, value_types, values_fit}
pub use Rattle.tw_code.specs.accepting.Walk.{IsBudget, IsWalk, Rest, greatest_budget, moved}
pub use Rattle.tw_code.specs.declared.flow.Flow.{Flow}
pub use Rattle.tw_code.specs.declared.flow.Flow.TheVariants.{Begin, Branch, Close, Jump, Stop, Straight}
pub use Rattle.tw_code.specs.declared.flow.Way.{Way}
pub use Rattle.tw_code.specs.declared.flow.Way.TheVariants.{Completed, Skipped}
pub use Rattle.tw_code.specs.declared.instr.Action.{Action}
pub use Rattle.tw_code.specs.declared.instr.DataInstr.{DataInstr}
pub use Rattle.tw_code.specs.declared.instr.Instr.{Instr}
pub use Rattle.tw_code.specs.declared.procedure.Procedure.{Procedure}
pub use Rattle.tw_code.specs.format.Program.{IsProcedure, IsProgram}
pub use Rattle.tw_code.specs.machine.Arguments.{called, params_in, params_of, put_called}
pub use Rattle.tw_code.specs.machine.Data.{Context, after_insert, after_look, after_put, data_instr, datum_at, datum_of, if_absent, suits, suits_entry, suits_subscript, sum_with}
pub use Rattle.tw_code.specs.machine.Holders.{Typings, typing_at}
pub use Rattle.tw_code.specs.machine.Inputs.{AreInputsOf}
pub use Rattle.tw_code.specs.machine.Opening.{opening, reached}
pub use Rattle.tw_code.specs.machine.Position.{Cursor, Loop, Position, after_end, at_goal, at_next_place, goal_of, int_at, must_have_type, of_type_at, text_at, turned, value_at, with_last, with_result}
pub use Rattle.tw_code.specs.machine.Rights.{RightType, held, must_be_empty}
pub use Rattle.tw_code.specs.machine.State.{Frame, State, context_of, filled, frame_after_call, frame_of, new_rule, values_in, with_stage}
pub use Rattle.tw_soundness.proofs.Accepted.{accepted, all_found}
pub use Rattle.tw_soundness.proofs.Safe.{accepts, kept_by, opened_held, reached_is_held, safe}
pub use Rattle.tw_soundness.proofs.Sums.{sum_apart, sum_new, sum_replaced}
pub use Rattle.tw_soundness.proofs.Values.{AllYes, AreLeft, left_too, yes_after}
pub use Rattle.tw_soundness.specs.Invariant.{ArgFits, IsHeld, RuleArgsFit, ValuesFit}
pub use Rattle.tw_soundness.specs.NoTrap.{AreRight}
pub use Rattle.tw_types.proofs.ActorOrder.{actor_cmp-IsAntisymmetric, actor_cmp_total}
pub use Rattle.tw_types.proofs.Each.{Each, each_empty, each_insert, each_remove}
pub use Rattle.tw_types.proofs.Outcomes.{IfWent, if_both, if_enabled, if_ok, if_only, if_then, if_there, same_went, went_first, went_of}
pub use Rattle.tw_types.proofs.Results.{WhereOk, must_then, ok_both, ok_of, ok_then, ok_there, there_ok}
pub use Rattle.tw_types.proofs.SameTypes.{by_container, container_only, same_scalars}
pub use Rattle.tw_types.proofs.Totals.{IsEntry, get_entry, total-empty, total-insert, total-remove}
pub use Rattle.tw_types.specs.Actor.{actor_cmp, is_in, number_in_kind}
pub use Rattle.tw_types.specs.DataType.{has_subscripts_by, is_container_by, is_element_of, is_map, is_map_by, is_map_of, is_plain_map, is_scalar, is_sums, same_scalar}
pub use Rattle.tw_types.specs.Layout.{ActorCounts, IsLayout}
pub use Rattle.tw_types.specs.Mode.{is_closed_mode, is_val}
pub use Rattle.tw_types.specs.Outcome.{NotEnabled, Outcome, Trap, Went, outcome_of, ◌>>=◌}
pub use Rattle.tw_types.specs.Result.{must}
pub use Rattle.tw_types.specs.Rule.{Rule, at_stage, first_stage, task_from}
pub use Rattle.tw_types.specs.Store.{Contains, Content, Data, Datum, Maps, Members, Set, Store, Unset, Values, added, drop_read_within, is_closed, is_unheld, members_of, new_datum, read_taken_by, settled_by, subscribers_cleared}
pub use Rattle.tw_types.specs.StoreCalls.{changed, count_in, created, entries_in, entry_at, inserted, member_at, members_in, one_read_more, one_write_less, one_write_more, read_copied, read_dropped, set_to, store_after, stored, subscribed, subscript_after, subscripts_at, value_put, with_entry, with_member, with_subscriber, write_copied, write_dropped}
pub use Rattle.tw_types.specs.StoreChecks.{may_add, may_be_read, may_copy_write, may_drop_read, may_drop_write, may_insert, may_look, may_put, may_read_entry, may_read_members, may_read_subscripts_by, may_retrieve, may_store}
pub use Rattle.tw_types.specs.Task.{Arg, RightArg, Task, ValueArg, best}
pub use Rattle.tw_types.specs.Totals.{total}
pub use Rattle.tw_types.specs.Value.{scalar_of}
pub use Rattle.tw_types.specs.ValueOrder.{Subscript, value_cmp}
pub use Rattle.tw_types.specs.declared.actor.Actor.{Actor}
pub use Rattle.tw_types.specs.declared.cause.Cause.TheVariants.{NoLoop, OutsideCode, RightLeft, UnsetDatum, WrongCall, WrongRegister, WrongType}
pub use Rattle.tw_types.specs.declared.data_type.Scalar.{Scalar}
pub use Rattle.tw_types.specs.declared.event.Event.{Event}
pub use Rattle.tw_types.specs.declared.event.Event.TheVariants.{Ask, Call, Deliver, End, Local, Release, Take}
pub use Rattle.tw_types.specs.declared.input.Input.{Input}
pub use Rattle.tw_types.specs.declared.param.Mode.TheVariants.{Closed, Ref, Val, Write}
pub use Rattle.tw_types.specs.declared.param.Param.{Param}
pub use Rattle.tw_types.specs.declared.stage.Stage.{Stage}
pub use Rattle.tw_types.specs.declared.stage.Stage.TheVariants.{Free, Ready, Unasked, Waiting}
pub use Rattle.tw_types.specs.declared.value.Value.{Value}
