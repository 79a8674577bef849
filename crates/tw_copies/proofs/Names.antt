-- Passes on what the files here use of other crates and of the definitions.
pub use Rattle.std.proofs.Common.{Bool, List, None, Option, Some, [], ap, arith, false, if◌then◌else◌, inl, inr, length, map, nat_cmp, not, refl, replicate, set, slice_get, slice_set, subst, suc, sym, true, zero, ℕ, ◌&&◌, ◌*◌, ◌++◌, ◌+◌, ◌-◌, ◌<◌, ◌==◌, ◌||◌, ◌∙◌, ◌∷◌, ◌≡◌, ◌≤◌, ◌⊎◌}
pub use Rattle.std.proofs.lemmas.Bool.{and_from, and_parts, cases_Bool, cases_eq, cases_lt, eq-eqb, eqb-true, ne_eqb, or_left, or_right}
pub use Rattle.std.proofs.lemmas.Option.{same_Some, slice_get-map, slice_get_read, slice_get_within}
pub use Rattle.std.specs.Cmp.{IsTotalOrder, nat_cmp_total}
pub use Rattle.std.specs.FinMap.{FinMap, IsAntisymmetric, entries, get, insert, nat_cmp-IsAntisymmetric, remove}
pub use Rattle.std.specs.Option.{ok_or, option_and_then, option_map, option_to_list}
pub use Rattle.std.specs.Prelude.{MatchOption, Ok, Result}
pub use Rattle.std.specs.declared.cmp.Ordering.{Ordering}
pub use Rattle.tw_code.proofs.Leaving.{IsRunningAt, ask_leaves, deliver_leaves, end_leaves, is_running_at, release_leaves, take_leaves}
pub use Rattle.tw_code.specs.accepting.Flow.{data_flow, flow_of, flows, local_flow, onward}
pub use Rattle.tw_code.specs.accepting.Typing.{a_member_read, a_read, a_write, after_data, reads, requires_args, requires_callee, requires_data, requires_priority, requires_value, right_fits_param, rights_given, start_typing, suits_mode, without_args, writes, writes_container_by, writes_map}
pub use Rattle.tw_code.specs.accepting.WellTyped.{IsEndOf}
pub use Rattle.tw_code.specs.declared.flow.Way.{Way}
pub use Rattle.tw_code.specs.declared.flow.Way.TheVariants.{Completed, Skipped}
pub use Rattle.tw_code.specs.declared.instr.Action.{Action}
pub use Rattle.tw_code.specs.declared.instr.DataInstr.{DataInstr}
pub use Rattle.tw_code.specs.declared.instr.Instr.{Instr}
pub use Rattle.tw_code.specs.declared.procedure.Procedure.{Procedure}
pub use Rattle.tw_code.specs.format.Program.{IsInstr, IsProcedure, IsProgram, IsRegister}
pub use Rattle.tw_code.specs.machine.Arguments.{Called, MovedArgs, called, moved_args, params_in, params_of, put_called, with_arg}
pub use Rattle.tw_code.specs.machine.Data.{Context, after_insert, after_look, after_put, data_instr, datum_at, datum_of, if_absent, suits, suits_entry, suits_subscript}
pub use Rattle.tw_code.specs.machine.Holders.{Typings, frame_writes, id_of, over, reads_of, rule_writes, task_writes, typing_at, typing_of, write_by, writes_of}
pub use Rattle.tw_code.specs.machine.Machine.{ask_event, deliver_event, end_event, instr_at, local_event, local_of, local_step, local_steps, release_event, take_event}
pub use Rattle.tw_code.specs.machine.Position.{Cursor, Loop, Position, int_at, must_have_type, of_type_at, turned, with_result}
pub use Rattle.tw_code.specs.machine.Rights.{RightType, Rights, Typing, first_rights, held, must_be_empty, right_at, right_of}
pub use Rattle.tw_code.specs.machine.State.{Frame, State, after_context, context_of, filled, frame_after_call, ids_in, new_rule, values_in, with_frame, with_rule, with_task}
pub use Rattle.tw_copies.specs.Copies.{InsertsInto, IsAt, IsCopyInsertion, IsFirst, MayBeCopy, Nowhere, Passes, by_put, by_rule, copied_from, copied_to}
pub use Rattle.tw_copies.specs.Marks.{AllMet, ArgsRequire, CodeMet, CopyRequires, InsertsMarked, IsMarked, IsMarkedInsertion, IsMet, IsUnmet, OnlyCopies, Requires, SomeUnmet, is_marked, is_set, slot}
pub use Rattle.tw_determinism.proofs.RuleFollows.{IsCall, is_call, put_call, same_handed, suits_write}
pub use Rattle.tw_determinism.specs.OneResult.{NeverContests}
pub use Rattle.tw_soundness.proofs.Accepted.{accepted, all_found}
pub use Rattle.tw_soundness.proofs.Running.{asked_at, position_there, register_holds, steps_leave, typed_after, typed_at_start}
pub use Rattle.tw_soundness.proofs.Safe.{accepts, kept_by, opened_held}
pub use Rattle.tw_soundness.proofs.Values.{AllYes, Moves, local_moves, passed, yes_after}
pub use Rattle.tw_soundness.specs.Invariant.{AreBegun, ArgFits, ArgsFit, IsHeld}
pub use Rattle.tw_soundness.specs.NoTrap.{AreRight}
pub use Rattle.tw_types.proofs.ActorOrder.{actor_cmp-IsAntisymmetric, actor_cmp_total}
pub use Rattle.tw_types.proofs.Freeing.{balanced_none, balanced_some, hits_other, hits_same}
pub use Rattle.tw_types.proofs.Outcomes.{IfWent, if_both, if_enabled, if_only, if_there, same_went, went_enabled, went_first, went_of, went_ok}
pub use Rattle.tw_types.proofs.Results.{must_then, ok_after, ok_first, there_ok, there_then}
pub use Rattle.tw_types.proofs.Totals.{part, part-le-total, total-insert, total-remove}
pub use Rattle.tw_types.specs.Actor.{actor_cmp, number_in_kind}
pub use Rattle.tw_types.specs.Counts.{hits}
pub use Rattle.tw_types.specs.DataType.{element_of, is_container_by, is_plain_map, same_type}
pub use Rattle.tw_types.specs.Layout.{ActorCounts}
pub use Rattle.tw_types.specs.Mode.{is_read, is_val, is_write}
pub use Rattle.tw_types.specs.Outcome.{Went, enabled, outcome_of}
pub use Rattle.tw_types.specs.Rule.{Rule, at_stage, task_from}
pub use Rattle.tw_types.specs.Store.{Datum, Store}
pub use Rattle.tw_types.specs.Task.{Arg, RightArg, Task, ValueArg}
pub use Rattle.tw_types.specs.declared.actor.Actor.{Actor}
pub use Rattle.tw_types.specs.declared.cause.Cause.{Cause}
pub use Rattle.tw_types.specs.declared.cause.Cause.TheVariants.{EmptyRegister, OutsideCode, UnsetDatum, WrongCall, WrongRegister}
pub use Rattle.tw_types.specs.declared.data_type.Scalar.{Scalar}
pub use Rattle.tw_types.specs.declared.param.Param.{Param}
pub use Rattle.tw_types.specs.declared.value.Value.{Value}
