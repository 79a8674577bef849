-- Names of the host's parts, of the machine and of its invariants, for the files here.
pub use Rattle.std.proofs.Common.{Bor, List, None, Option, Some, [], ap, append_assoc, arith, cond, drop, false, get_or, inl, inr, is_some, length, length-append, map, nat_eq, of_z, refl, rules, set, slice_get, slice_index_or, slice_set, subst, suc, sym, take, to_z, true, w64, zero, ℕ, ◌&&◌, ◌++◌, ◌+◌, ◌<◌, ◌∙◌, ◌∷◌, ◌≡◌, ◌≢◌, ◌≤◌}
pub use Rattle.std.proofs.lemmas.Bool.{and_parts, cases_eq, eq-eqb, eqb-true, ltb-true, or_left, or_right}
pub use Rattle.std.proofs.lemmas.Bool.Decides.{nat_tests}
pub use Rattle.std.proofs.lemmas.Int.{to_z-of_z, to_z_pos}
pub use Rattle.std.proofs.lemmas.List.{append-nil, get_or-set_other, get_or-set_same, length-map, length-replicate, length-set, length-take-le, map-append, map-set, map_more, set-get_or, take_all}
pub use Rattle.std.proofs.lemmas.Option.{same_Some, slice_get-get_or, slice_get_read, slice_get_within}
pub use Rattle.std.specs.Cmp.{Equal-is, IsTotalOrder, first_so, nat_cmp_total, second_so, tied_itself}
pub use Rattle.std.specs.FinMap.{FinMap, IsAntisymmetric, empty, entries, find, from_entries, get, get-empty, get-from_entries, get-insert, get-remove, insert, keys, len, len-empty, len-insert, nat_cmp-IsAntisymmetric, remove, same_map}
pub use Rattle.std.specs.List.{list_all, list_any}
pub use Rattle.std.specs.Option.{ok_or, option_and_then, option_copied, option_flatten, option_map}
pub use Rattle.std.specs.Ordering.{eq_by_cmp, is_eq, is_lt, nat_cmp}
pub use Rattle.std.specs.Prelude.{IfErr, IfOk, IsSome, MatchBool, Ok, OnErr, OnOk, Result, is_none, not, pos, replicate, vec_capacity, ℤ, ◌==◌, ◌^◌, ◌||◌}
pub use Rattle.std.specs.declared.cmp.Ordering.{Ordering}
pub use Rattle.tw_code.proofs.Found.{IsOwn, IsUnaskedAt, MayBeReleased, any_entry, ask_found, ask_there, own_rule_there, release_found, release_there}
pub use Rattle.tw_code.proofs.Givens.{as_container, as_map, entries_short, entries_type, given_few, given_rises, given_short, given_type, input_next, members_next, next_param, skips, takes}
pub use Rattle.tw_code.specs.accepting.Needs.{HasTargets, up_to}
pub use Rattle.tw_code.specs.accepting.Question.{passes}
pub use Rattle.tw_code.specs.accepting.Typing.{a_member_read, a_read, a_write, after_data, reads, reads_closed_by, reads_closed_container, reads_closed_container_by, reads_closed_map, reads_closed_scalar, reads_member_of, requires_args, requires_callee, requires_data, requires_entry_of, requires_priority, requires_value, right_fits_param, rights_given, suits_mode, without_args, writes, writes_container_by, writes_map, writes_scalar, writes_sums}
pub use Rattle.tw_code.specs.declared.flow.Way.TheVariants.{Completed, Skipped}
pub use Rattle.tw_code.specs.declared.instr.Action.{Action}
pub use Rattle.tw_code.specs.declared.instr.DataInstr.{DataInstr}
pub use Rattle.tw_code.specs.declared.instr.Instr.{Instr}
pub use Rattle.tw_code.specs.declared.procedure.Procedure.{Procedure}
pub use Rattle.tw_code.specs.format.Program.{IsInstr, IsProcedure, IsProgram}
pub use Rattle.tw_code.specs.machine.Arguments.{Called, MovedArgs, all_pass, called, has_type, is_closed_if_required, is_live, is_of_type, moved_args, params_in, params_of, priority_at, put_called, values_suit}
pub use Rattle.tw_code.specs.machine.Data.{Context, after_insert, after_look, after_put, data_instr, datum_at, if_absent, suits, suits_entry, suits_subscript, sum_with}
pub use Rattle.tw_code.specs.machine.Holders.{typing_at, typing_of}
pub use Rattle.tw_code.specs.machine.Inputs.{AreInputsOf, are_inputs_of, input_params, is_given_for, is_input_of, rises, rises_from}
pub use Rattle.tw_code.specs.machine.Machine.{step}
pub use Rattle.tw_code.specs.machine.Opening.{Opened, added_given, closed_scalar, main_params, nothing_opened, numbered, opened, opening, with_container, with_given, with_input, with_output}
pub use Rattle.tw_code.specs.machine.Position.{Position, at_goal, at_next_place, int_at, int_in, must_have_type, of_type_at, with_result, with_value}
pub use Rattle.tw_code.specs.machine.Rights.{RightType, Typing, first_rights, must_be_empty, right_at, right_of}
pub use Rattle.tw_code.specs.machine.State.{Frame, State, after_context, context_of, frame_after_call, frame_of, new_rule, with_frame, with_rule, with_stage, with_task}
pub use Rattle.tw_datum.specs.Puts.{TakesValue}
pub use Rattle.tw_frame.proofs.Lending.{fresh_position, may_go_on}
pub use Rattle.tw_frame.specs.Drafts.{MaySet, MayStart, StartsAsMachine, started}
pub use Rattle.tw_frame.specs.Jobs.{DoneView, DraftView, FrameView, JobView, MayBeAt, bare_frame, draft_of, job_of}
pub use Rattle.tw_pool_state.specs.Coming.{Begins, BeginsOrNone, IsBegun, begun, frame_after, frame_at_next, issued_as}
pub use Rattle.tw_pool_state.specs.Copies.{named_values}
pub use Rattle.tw_pool_state.specs.Data.{AreNotified, HasRoom, IsAnswer, IsDone, IsIssuedAfter, IsIssuedAnswer, IsLive, IsOutOfMemory, MayDo, sees}
pub use Rattle.tw_pool_state.specs.Events.{IsAtInstr, IsIssued, IsOwed, IsSmall, IsTaken, Makes, MakesAfter, Succeeds, Untouched, with_done}
pub use Rattle.tw_pool_state.specs.Fits.{AreAt, AreParts, ArePlaced, ArgMatches, ArgsMatch, FrameFits, IsAt, IsPlaced, IsReached, RightsFit, kinds_in, right_in}
pub use Rattle.tw_pool_state.specs.Givens.{AreAllLive, HasMember}
pub use Rattle.tw_pool_state.specs.Memory.{CallTakes, HasThatMany, IsAbsent, IsAskOfOpen, IsTextAt, IsValueAbsent, TakesMemory}
pub use Rattle.tw_pool_state.specs.Notes.{AreApart, AreQueued, is_among, is_queued, queue_at}
pub use Rattle.tw_pool_state.specs.OpenedParts.{Adds, AreBefore, AreForAll, IsMade, MainWaits, MayAdd, OpenedParts}
pub use Rattle.tw_pool_state.specs.Opening.{IsAdded, IsOpening}
pub use Rattle.tw_pool_state.specs.Parts.{state_of}
pub use Rattle.tw_pool_state.specs.Queued.{Queues, arrived, notices_made, notices_of_instr, queues_after}
pub use Rattle.tw_pool_state.specs.RunningTasks.{AreKept, AreTaskSlots, HasBuffers, HasSlot, RunningView, TasksByActor, actor_of, by_actor, by_actor_from, slot_of, takes_tasks, with_running}
pub use Rattle.tw_pool_state.specs.declared.parts.Parts.{Parts}
pub use Rattle.tw_queue.specs.Queues.{IsTarget, taken_task, waiting, without}
pub use Rattle.tw_rights.specs.Bare.{bare_arg, bare_file, bare_rule, bare_task}
pub use Rattle.tw_rights.specs.Bundled.{Bundled, bundled}
pub use Rattle.tw_rights.specs.Filed.{filed, rights_in}
pub use Rattle.tw_rights.specs.Held.{id_of}
pub use Rattle.tw_rights.specs.Kinds.{kind_at, kinds_of}
pub use Rattle.tw_rights.specs.Rights.{Right}
pub use Rattle.tw_rights.specs.declared.arg.Arg.{Arg}
pub use Rattle.tw_rights.specs.declared.arg.Arg.TheVariants.{Read, Val, Write}
pub use Rattle.tw_rights.specs.declared.held.Held.{Held}
pub use Rattle.tw_rules.specs.Table.{action_of, stage_at, staged}
pub use Rattle.tw_soundness.proofs.Accepted.{all_found}
pub use Rattle.tw_soundness.proofs.Conditions.{add_value_requires, copy_read_requires, copy_write_requires, drop_read_requires, drop_write_requires, get_requires, get_value_requires, insert_requires, insert_value_requires, look_requires, new_requires, size_requires, store_requires, subscript_requires}
pub use Rattle.tw_soundness.proofs.DataLeft.{read_no_write}
pub use Rattle.tw_soundness.proofs.Running.{asked_at, position_there, steps_leave, typed_after, typed_at_start}
pub use Rattle.tw_soundness.proofs.Safe.{kept_by, reached_is_held, safe}
pub use Rattle.tw_soundness.proofs.Values.{AllYes, passed, yes_after}
pub use Rattle.tw_soundness.specs.Invariant.{IsHeld, RuleArgsFit}
pub use Rattle.tw_store.proofs.Here.{unchanged}
pub use Rattle.tw_store.specs.Calls.{HasMemberRoom, IsAsking, IsInsertion, IsLook, closed_by}
pub use Rattle.tw_store.specs.Served.{HasNoticeRoom, IsHere, IsLeft, IsNow, IsUnchanged, KeepsPlaces, Served, queued}
pub use Rattle.tw_store.specs.Slots.{Places}
pub use Rattle.tw_store.specs.declared.calls.Inserted.{Inserted}
pub use Rattle.tw_types.proofs.ActorOrder.{actor_cmp-IsAntisymmetric, actor_cmp_total}
pub use Rattle.tw_types.proofs.Best.{best_found, best_waits}
pub use Rattle.tw_types.proofs.Chosen.{best_mapped, next_ask_mapped, next_release_mapped}
pub use Rattle.tw_types.proofs.Mapped.{empty_mapped, get_mapped, insert_mapped, len_mapped, remove_mapped}
pub use Rattle.tw_types.proofs.NoticeOrder.{notice_cmp-IsAntisymmetric, notice_cmp_total}
pub use Rattle.tw_types.proofs.Orders.{below, other_key, own_key, tied}
pub use Rattle.tw_types.proofs.Parts.{before_removal, put_or_before}
pub use Rattle.tw_types.proofs.Results.{must_ok, must_then, ok_after, ok_first, there_then}
pub use Rattle.tw_types.proofs.SameTypes.{same_scalars}
pub use Rattle.tw_types.proofs.Subscripts.{content_kind, values_kinds}
pub use Rattle.tw_types.proofs.Totals.{IsEntry, get_entry, insert_other}
pub use Rattle.tw_types.specs.Actor.{actor_cmp, is_control, is_in, number_in_kind}
pub use Rattle.tw_types.specs.DataType.{container_of, element_of, has_subscripts_by, has_sums, is_container_by, is_element_of, is_map, is_map_by, is_map_of, is_plain_map, is_scalar, is_sums, map_by, map_with, same_scalar, same_type, scalar_type}
pub use Rattle.tw_types.specs.Given.{Container, Given, given_for, members_by}
pub use Rattle.tw_types.specs.Layout.{ActorCounts, IsLayout}
pub use Rattle.tw_types.specs.Mapped.{entry_by, mapped}
pub use Rattle.tw_types.specs.Mode.{is_closed_mode, is_read, is_val, is_write}
pub use Rattle.tw_types.specs.Nesting.{NestedScalar}
pub use Rattle.tw_types.specs.Notices.{Notices, notice_cmp, with_notices}
pub use Rattle.tw_types.specs.Outcome.{Trap, Went}
pub use Rattle.tw_types.specs.Rule.{Rule, RuleOf, Rules, RulesOf, at_stage, has_unasked, is_releasable, is_settled, is_unasked, next_ask, next_release, task_from}
pub use Rattle.tw_types.specs.Store.{Contains, Content, Data, Datum, Maps, Members, Set, Store, Unset, added, empty_store, is_closed, is_unheld, new_datum, notice_to, notices_of, server_of, subscribers_cleared, with_datum}
pub use Rattle.tw_types.specs.StoreCalls.{changed, count_in, created, entries_in, entry_at, inserted, member_at, members_at, members_in, notices_after, notices_of_stored, notices_of_write_dropped, one_write_less, read_copied, read_dropped, set_to, size_at, store_after, stored, subscribed, subscript_after, subscripts_at, subscripts_of, value_at, value_in, value_put, with_entry, with_member, write_copied, write_dropped}
pub use Rattle.tw_types.specs.StoreChecks.{may_add, may_be_read, may_copy_write, may_drop_read, may_drop_write, may_insert, may_look, may_put, may_read_entry, may_read_members, may_read_subscripts_by, may_retrieve, may_store}
pub use Rattle.tw_types.specs.Task.{RightArg, TaskOf, Tasks, TasksOf, ValueArg, best}
pub use Rattle.tw_types.specs.Value.{IsProper, is_of, is_short, scalar_of}
pub use Rattle.tw_types.specs.ValueOrder.{Subscript, named, value_cmp}
pub use Rattle.tw_types.specs.declared.actor.Actor.{Actor}
pub use Rattle.tw_types.specs.declared.actor.Actor.TheVariants.{Engine, Server, Worker}
pub use Rattle.tw_types.specs.declared.actor.Kind.{Kind}
pub use Rattle.tw_types.specs.declared.actor.Kind.TheVariants.{Control, Leaf}
pub use Rattle.tw_types.specs.declared.cause.Cause.{Cause}
pub use Rattle.tw_types.specs.declared.cause.Cause.TheVariants.{ArgumentNotClosed, EmptyRegister, FreedDatum, UnsetDatum, WrongCall, WrongRegister, WrongType}
pub use Rattle.tw_types.specs.declared.data_type.MapKind.{MapKind}
pub use Rattle.tw_types.specs.declared.data_type.MapKind.TheVariants.{NoMap, Sums, Values}
pub use Rattle.tw_types.specs.declared.data_type.Scalar.{Scalar}
pub use Rattle.tw_types.specs.declared.event.Event.{Event}
pub use Rattle.tw_types.specs.declared.event.Event.TheVariants.{Ask, Call, Deliver, End, Local, Release, Take}
pub use Rattle.tw_types.specs.declared.input.Input.{Input}
pub use Rattle.tw_types.specs.declared.notice.Notice.{Notice}
pub use Rattle.tw_types.specs.declared.notice.Subscriber.{Subscriber}
pub use Rattle.tw_types.specs.declared.param.Mode.{Mode}
pub use Rattle.tw_types.specs.declared.param.Param.{Param}
pub use Rattle.tw_types.specs.declared.stage.Stage.{Stage}
pub use Rattle.tw_types.specs.declared.stage.Stage.TheVariants.{Ready, Unasked, Waiting}
pub use Rattle.tw_types.specs.declared.value.Value.{Value}
pub use Rattle.tw_verify.specs.Typed.{TypedProgram, typings_of}
