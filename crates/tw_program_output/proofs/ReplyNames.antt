-- Names of replies, of programs and of what is known of them, for the files here.
pub use Rattle.std.proofs.Common.{Bool, Global, IfOk, IfSome, IsSomeAnd, List, None, Option, Some, Vec, [], ap, append_assoc, arith, codes, false, get_or, inl, inr, length, length-take, nat_lt, refl, subst, suc, sym, take, true, ℕ, ◌++◌, ◌+◌, ◌<◌, ◌==◌, ◌||◌, ◌∙◌, ◌∷◌, ◌≡◌, ◌≢◌, ◌≤◌}
pub use Rattle.std.proofs.lemmas.List.{take_more}
pub use Rattle.std.proofs.lemmas.Option.{slice_get-get_or, slice_get-map}
pub use Rattle.std.proofs.lemmas.Result.{IfOk-weaker, on_ok_weaker}
pub use Rattle.std.specs.Option.{option_and_then, option_map}
pub use Rattle.std.specs.Prelude.{slice_get}
pub use Rattle.tw_asm.specs.Origins.{instr_at}
pub use Rattle.tw_bounds.specs.Least.{AreLeastBounds, LeastRuns}
pub use Rattle.tw_bounds.specs.Limited.{AreLimitedBounds, IsLargestBudget}
pub use Rattle.tw_code.specs.accepting.Flow.{flow_of, flows}
pub use Rattle.tw_code.specs.accepting.WellTyped.{IsAccepted, IsFirstRejection, IsProcedureRejection}
pub use Rattle.tw_code.specs.declared.procedure.Procedure.{Procedure}
pub use Rattle.tw_code.specs.format.Program.{IsProcedure, IsProgram}
pub use Rattle.tw_copies.specs.declared.check.CopyInsertion.{CopyInsertion}
pub use Rattle.tw_order.specs.declared.order.Source.TheVariants.{Assembly}
pub use Rattle.tw_program_output.specs.Admission.{AreExcessLines, IsAdmittedOr, IsJudged, StaysWithinCaps, excess, excess_lines, has_cap, is_within}
pub use Rattle.tw_program_output.specs.Answer.{AreRows, IsCircleOf}
pub use Rattle.tw_program_output.specs.Assembled.{IsFaultReply, IsWritten, RepliesByText}
pub use Rattle.tw_program_output.specs.Check.{IsCheckText, IsPrinted, check_text, procedure_line, procedure_lines}
pub use Rattle.tw_program_output.specs.Rejection.{RepliesByRejection, rejection}
pub use Rattle.tw_program_output.specs.Rows.{Value, cell_of, value_text}
pub use Rattle.tw_program_output.specs.declared.answer.ProcedureRow.{ProcedureRow}
pub use Rattle.tw_source.specs.Failure.{after, coded, failed, failed_with, failure_line}
pub use Rattle.tw_source.specs.Program.{RepliesBySource}
pub use Rattle.tw_source.specs.Reply.{reply}
pub use Rattle.tw_source.specs.Source.{MayBeSource, MayBeSourceAt, text_of}
pub use Rattle.tw_source.specs.declared.close.Close.TheVariants.{Refused}
pub use Rattle.tw_source.specs.declared.failure.Failure.{Failure}
pub use Rattle.tw_source.specs.declared.reply.Reply.{Reply}
pub use Rattle.tw_source.specs.declared.source.SourceText.{SourceText}
pub use Rattle.tw_verify.specs.Rejection.{verify_error_code}
pub use Rattle.tw_writer.proofs.Pieces.{all_of, both_added, finished, from_empty, same_added}
pub use Rattle.tw_writer.specs.Appended.{IsAppended}
