-- Names of the verifier, of accepted programs and of their findings, for the files here.
pub use Rattle.std.proofs.Common.{Bool, List, Option, Some, [], ap, arith, drop, false, get_or, inl, inr, max, refl, subst, suc, sym, take, true, zero, ℕ, ◌++◌, ◌+◌, ◌<◌, ◌∙◌, ◌∷◌, ◌≡◌, ◌≤◌, ◌⊎◌}
pub use Rattle.std.proofs.Math.ListN.{drop_of_length-le, get_or-append, get_or-map}
pub use Rattle.std.proofs.Math.Seq.{drop-length, get_or-append_seam, take-length}
pub use Rattle.std.proofs.lemmas.Bool.{and_parts, cases_lt, eqb-false, eqb-true, leb-false, leb-true}
pub use Rattle.std.proofs.lemmas.List.{append-nil, append_assoc, length-map, length-set, length-take, take_more}
pub use Rattle.std.proofs.lemmas.Option.{get_or_from_slice_get, same_Some, slice_get-get_or, slice_get_past, slice_get_read, slice_get_within}
pub use Rattle.std.proofs.lemmas.Slice.Zip.{Zip-more, either_empty_from_Zip}
pub use Rattle.std.specs.Iterator.Adapters.{zip_first, zip_second}
pub use Rattle.std.specs.List.{AllByRecursion}
pub use Rattle.std.specs.Option.{option_and_then, option_eq, option_map, option_map_or, option_to_list}
pub use Rattle.std.specs.Prelude.{IsSomeAnd, None, if◌then◌else◌, length, nat_lt, slice_get, slice_index, slice_set}
pub use Rattle.std.specs.Slice.Iter.{iter_rest}
pub use Rattle.tw_budget.proofs.Places.{branch_end, close_end, depth_next, drop_at, end_depth, end_is, end_past, end_within, jump_end, slide, straight_end}
pub use Rattle.tw_code.specs.accepting.Flow.{flow_of, flows, onward}
pub use Rattle.tw_code.specs.accepting.Needs.{needed, needed_by_all, needed_by_code}
pub use Rattle.tw_code.specs.accepting.Question.{Question, lower, passes, rejection_in}
pub use Rattle.tw_code.specs.accepting.Structure.{IsStructureRejection, depth_after, depth_of, end_from, end_of, structure_rejection, structure_rejection_at}
pub use Rattle.tw_code.specs.accepting.Typing.{after, requires_args, requires_at, requires_by_instr, requires_callee, requires_params, requires_priority, requires_value, right_fits_param, rights_given, start_typing, value_types, values_fit, without_args}
pub use Rattle.tw_code.specs.accepting.Walk.{IsBudget, greatest_budget}
pub use Rattle.tw_code.specs.accepting.WellTyped.{Brings, IsAccepted, IsAcceptedProcedure, IsEndOf, IsFirstRejection, IsLowestRejection, IsProcedureRejection, IsReached, IsRejectionAt, IsTypingRejection, IsWellTyped, LeadsTo}
pub use Rattle.tw_code.specs.declared.flow.Flow.{Flow}
pub use Rattle.tw_code.specs.declared.flow.Flow.TheVariants.{Begin, Branch, Close, Jump, Stop, Straight}
pub use Rattle.tw_code.specs.declared.flow.Way.{Way}
pub use Rattle.tw_code.specs.declared.flow.Way.TheVariants.{Completed, Skipped}
pub use Rattle.tw_code.specs.declared.instr.Instr.{Instr}
pub use Rattle.tw_code.specs.declared.procedure.Procedure.{Procedure}
pub use Rattle.tw_code.specs.format.Program.{IsProgram, IsRegister}
pub use Rattle.tw_code.specs.machine.Rights.{RightType, Typing, right_at, right_of}
pub use Rattle.tw_soundness.specs.NoTrap.{AreRight}
pub use Rattle.tw_types.specs.DataType.{same_scalar, same_type}
pub use Rattle.tw_types.specs.Mode.{is_val}
pub use Rattle.tw_types.specs.declared.data_type.Scalar.{Scalar}
pub use Rattle.tw_types.specs.declared.param.Param.{Param}
pub use Rattle.tw_verify.specs.Known.{AreUpTo}
pub use Rattle.tw_verify.specs.Loops.{AreFirsts, DepthsTo, EndsFrom}
pub use Rattle.tw_verify.specs.Passes.{HasChanged, IfFault, IsRejection, first_row, is_place, lowest_at, noted, rejection_of, sent}
pub use Rattle.tw_verify.specs.Quick.{AreQuick, AreQuickTo, IsQuickOf}
pub use Rattle.tw_verify.specs.Rejection.{is_memory, lowest_of, rejection_with, verify_error_code}
pub use Rattle.tw_verify.specs.Searching.{has_slow, searching}
pub use Rattle.tw_verify.specs.Typed.{TypedProgram, typings_of}
pub use Rattle.tw_verify.specs.Verified.{AreFindings, AreTyped, IsTyped, found_typings}
pub use Rattle.tw_verify.specs.declared.findings.Findings.{Findings}
pub use Rattle.tw_verify.specs.declared.quick.Quick.{Quick}
pub use Rattle.tw_verify.specs.declared.reached.Reached.{Reached}
