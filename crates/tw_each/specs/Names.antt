-- Passes on what several files here use of other crates.
pub use Rattle.std.specs.Borrow.{Bor}
pub use Rattle.std.specs.List.{list_all, slice_split}
pub use Rattle.std.specs.Prelude.{Bool, Err, IfOk, IfSome, IsUtf8, List, MatchBool, MatchOption, MatchResult, None, Ok, Option, Result, Some, [], codes, decimal, drop, is_some, length, map, nat_lt, take, ℕ}
pub use Rattle.tw_code.specs.format.Program.{Versioned}
pub use Rattle.tw_order.specs.declared.order.Source.{Source}
pub use Rattle.tw_order.specs.declared.runs.EachOrder.{EachOrder}
pub use Rattle.tw_pool.specs.declared.answer.Closing.{Closing}
pub use Rattle.tw_program_output.specs.ErrorJson.{IsJsonReply}
pub use Rattle.tw_source.specs.Failure.{coded, failed, uncoded}
pub use Rattle.tw_source.specs.Input.{is_gap_byte, most_bytes}
pub use Rattle.tw_source.specs.Inputs.{cut_inputs, lines_in}
pub use Rattle.tw_source.specs.Program.{HasProgram, RepliesBySource, source_text}
pub use Rattle.tw_source.specs.Reply.{Reply, reply}
pub use Rattle.tw_source.specs.Source.{text_of}
pub use Rattle.tw_verify.specs.Typed.{TypedProgram}
