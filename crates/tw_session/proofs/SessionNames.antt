-- Names of sessions, of replies and of runs, for the files here.
pub use Rattle.std.proofs.Common.{Bool, Bor, Err, IfOk, IfSome, List, None, Ok, OnErr, Option, Result, Some, ap, arith, codes, false, if◌then◌else◌, inl, inr, length, map, refl, rules, string_bytes, subst, sym, take, true, unwrap_or, ℕ, ◌++◌, ◌+◌, ◌<◌, ◌==◌, ◌∙◌, ◌≡◌, ◌≢◌, ◌≤◌, ◌⊎◌}
pub use Rattle.std.proofs.lemmas.Bool.{cases_lt, eqb-true, lt-ltb}
pub use Rattle.std.proofs.lemmas.Result.{IfOk-weaker}
pub use Rattle.std.specs.Io.KnownBytes.{Appends, Keeps}
pub use Rattle.std.specs.Str.Lines.{lines}
pub use Rattle.tw_code.specs.declared.procedure.Procedure.{Procedure}
pub use Rattle.tw_code.specs.machine.Opening.{main_params, reached}
pub use Rattle.tw_each.specs.Stream.{IsRejection, Streams}
pub use Rattle.tw_each.specs.declared.stream.StreamError.{StreamError}
pub use Rattle.tw_each.specs.declared.streamed.Streamed.{Streamed}
pub use Rattle.tw_host.specs.Ends.{Closes}
pub use Rattle.tw_host.specs.Run.{Run, run_of}
pub use Rattle.tw_host.specs.Seats.{SeatEvents}
pub use Rattle.tw_host.specs.declared.close.Closed.{Closed}
pub use Rattle.tw_in_turn.specs.Stopping.{IsLeftIf}
pub use Rattle.tw_in_turn.specs.declared.run.EndedRun.{EndedRun}
pub use Rattle.tw_inputs.specs.InputWords.{AreEncoded, refused_word}
pub use Rattle.tw_order.specs.Orders.{may_be_stopped}
pub use Rattle.tw_order.specs.declared.order.Order.{Order}
pub use Rattle.tw_pool.specs.Openings.{MayOpen, opened}
pub use Rattle.tw_pool.specs.declared.answer.Closing.TheVariants.{Limit, Stopped}
pub use Rattle.tw_session.specs.Clockless.{AnswersWords, MayReplyClockless, clockless_reply, limits_time}
pub use Rattle.tw_session.specs.Each.{EndsEach}
pub use Rattle.tw_session.specs.Parts.{AreReadAs, Given, Parts, alone, is_too_long, seen, seen_given}
pub use Rattle.tw_session.specs.ProgramAction.{AreEncodedWords, AreGiven, Awaits, IsFinishedBy, IsRunMade, RepliesByAction, RepliesToRun}
pub use Rattle.tw_session.specs.Run.{EndsSo, IsAtEnd, IsOrdered, IsRun, RepliesByClose, RepliesByEnd, RepliesByOpening, run_as}
pub use Rattle.tw_session.specs.Session.{EndsSession, IsExcessive, MayReply, MayReplyOn, MayReplyText, MayReplyTo, RepliesByInputs, RepliesByJsonRun, RepliesByParts, RepliesByProgram, RepliesByReason, RepliesByReplay, RepliesByTexts, RepliesByTrace, RepliesIfRun, replay_with, run_with}
pub use Rattle.tw_session.specs.Status.{EndsWithReply}
pub use Rattle.tw_session.specs.declared.action.Action.{Action}
pub use Rattle.tw_session.specs.declared.action.GivenInputs.{GivenInputs}
pub use Rattle.tw_session.specs.declared.programs.Prepared.{Prepared}
pub use Rattle.tw_session.specs.declared.status.Status.{Status}
pub use Rattle.tw_session.specs.declared.status.Status.TheVariants.{Ended, NoMemory, ReadFailed, WriteFailed}
pub use Rattle.tw_source.specs.Failure.{coded, failed}
pub use Rattle.tw_source.specs.Inputs.{PrintsInputWord, RepliesByWords, words_in}
pub use Rattle.tw_source.specs.Program.{RepliesBySource, source_text}
pub use Rattle.tw_source.specs.Reply.{Reply, reply}
pub use Rattle.tw_source.specs.Source.{MayBeSource, text_of}
pub use Rattle.tw_types.specs.declared.input.Input.{Input}
