-- Passes on what several files here use of other crates.
pub use Rattle.clap.specs.Words.{Text}
pub use Rattle.std.specs.Io.KnownBytes.{Appends, Keeps}
pub use Rattle.std.specs.Prelude.{Bool, Err, IsUtf8, List, MatchBool, MatchOption, MatchResult, None, Ok, Option, Result, Some, [], codes, false, is_some, length, nat_eq, nat_lt, string_bytes, take, true, ℕ, ⊤}
pub use Rattle.tw_cli.specs.declared.command.NoOrder.{NoOrder}
pub use Rattle.tw_code.specs.format.Program.{Versioned}
pub use Rattle.tw_code.specs.machine.Opening.{main_params, reached}
pub use Rattle.tw_each.specs.Reply.{IsTooLongReply, RepliesByEach}
pub use Rattle.tw_inputs.specs.InputWords.{AreEncoded, IsRejectedWord, RejectedWord, refused_word}
pub use Rattle.tw_inputs.specs.JsonInputs.{AreInputsIn, HasFaultAt, IsFaultText}
pub use Rattle.tw_inputs.specs.declared.json_inputs.Place.{Place}
pub use Rattle.tw_order.specs.Orders.{may_be_stopped, order_in_turn}
pub use Rattle.tw_order.specs.declared.order.Order.{Order}
pub use Rattle.tw_order.specs.declared.order.Source.{Source}
pub use Rattle.tw_order.specs.declared.runs.Answer.{Answer}
pub use Rattle.tw_order.specs.declared.runs.RunOrder.{RunOrder}
pub use Rattle.tw_program_output.specs.Check.{RepliesByCheck}
pub use Rattle.tw_program_output.specs.Listing.{IsDisassembled}
pub use Rattle.tw_replay_output.specs.Replay.{RepliesByLines}
pub use Rattle.tw_report.specs.History.{AreParts, lines_in}
pub use Rattle.tw_source.specs.Failure.{coded, failed, failed_with}
pub use Rattle.tw_source.specs.Inputs.{PrintsInputWord, RepliesByWords, after_inputs, before_inputs, unreadable, words_in}
pub use Rattle.tw_source.specs.Reply.{Reply, reply}
