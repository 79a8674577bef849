-- Names of replays, of events and of the details after them, for the files here.
pub use Rattle.std.proofs.lemmas.List.{append-nil, drop_all, length-append, take_all, take_more}
pub use Rattle.std.proofs.lemmas.Option.{slice_get-get_or, slice_get_read}
pub use Rattle.std.proofs.lemmas.Result.{IfOk-weaker, on_ok_weaker}
pub use Rattle.std.specs.List.{AllByRecursion}
pub use Rattle.std.specs.Prelude.{IsTrue, option_map, option_to_list, slice_get}
pub use Rattle.tw_types.specs.declared.event.Event.{Event}
pub use Rattle.tw_types.specs.declared.input.Input.{Input}
pub use Rattle.tw_types.specs.Outcome.{NotEnabled, Outcome, Trap, Went, ◌>>=◌}
pub use Rattle.tw_code.specs.declared.procedure.Procedure.{Procedure}
pub use Rattle.tw_code.specs.format.Program.{Versioned}
pub use Rattle.tw_code.specs.machine.Bounds.{AreBelow, opening_bound, size_of}
pub use Rattle.tw_code.specs.machine.Machine.{run, step}
pub use Rattle.tw_code.specs.machine.State.{Frame, State}
pub use Rattle.tw_source.specs.declared.close.Close.TheVariants.{Refused, Trapped}
pub use Rattle.tw_source.specs.declared.reply.Reply.{Reply}
pub use Rattle.tw_asm.specs.Origins.{instr_at}
pub use Rattle.tw_machine.specs.Opening.{IsFirstError, open_error_code, rejection_of}
pub use Rattle.tw_machine.specs.PlainView.{PlainView}
pub use Rattle.tw_replay_output.specs.Circle.{DoesRule, AreEndingDetails, IsMade, Start, PrintRules, PrintsCircle, PrintsRule, reached_from, rule_line, rule_text}
pub use Rattle.tw_replay_output.specs.Counted.{AreShort, IsCounting, IsShort}
pub use Rattle.tw_source.specs.Failure.{coded, failed, failed_with, uncoded}
pub use Rattle.tw_source.specs.declared.failure.Position.{Position}
pub use Rattle.tw_replay_output.specs.Replay.{IsAnswer, AreAnswerDetails, IsAnswered, IsCounted, IsDetailed, IsNumbered, close_of, opened, played, played_from, start_of, state_reply}
pub use Rattle.tw_source.specs.Reply.{Reply as Spoken, reply}
pub use Rattle.tw_source.specs.Source.{IsSource, IsTextOf, MayBeSource, text_of}
pub use Rattle.tw_replay_output.specs.Stuck.{AreMade, AreStateDetails, IsAnswerFrom, IsMadeSo, IsOpened, IsPlayed, IsReplayFrom, IsReplayOf, IsUnmade, rule_by, rule_done, rule_in}
pub use Rattle.tw_source.specs.Text.{IsFromLine, IsLineOf, text_line}
pub use Rattle.tw_report.specs.Lines.{not_enabled_line, trap_line}
pub use Rattle.tw_stats.specs.Sums.{IsTally}
