-- Passes on what the files here use of other crates and of the definitions.
pub use Rattle.std.proofs.Common.{Bool, Bor, Err, Global, IfSome, IsUtf8, List, None, Ok, Option, Result, Some, Vec, [], ap, append_assoc, arith, codes, cond, drop, false, get_or, inl, inr, is_some, length, map, nat_lt, refl, string_bytes, subst, suc, sym, take, true, zero, ℕ, ◌++◌, ◌+◌, ◌-◌, ◌<◌, ◌==◌, ◌∙◌, ◌∷◌, ◌≡◌, ◌≤◌}
pub use Rattle.std.proofs.Math.Seq.{take-add, take-append_seam}
pub use Rattle.std.proofs.lemmas.Bool.{cases_lt, eqb-false, eqb-true, lt-ltb}
pub use Rattle.std.proofs.lemmas.List.{append-nil, length-append, length-map, length-take-le, map-append, take-append-drop, take_all, take_more}
pub use Rattle.std.proofs.lemmas.Result.{IfOk-weaker, err_from_is_err_and}
pub use Rattle.std.specs.Io.KnownBytes.{Appends, Consumes, IsAtEnd, Keeps, ReadConsumes}
pub use Rattle.std.specs.Prelude.{MatchOption, if◌then◌else◌}
pub use Rattle.tw_each.specs.Answers.{AreAnswers, IsAnswer, IsFullLine, IsInputsAnswer, IsLine, IsRejectedLine, IsShortLine, IsUnread, Way, is_blank, labelled, numbered, way}
pub use Rattle.tw_each.specs.Ready.{IsReady}
pub use Rattle.tw_each.specs.Reply.{IsTooLongReply, RepliesByEach, RepliesByParts, way_of}
pub use Rattle.tw_each.specs.Shares.{AreMerged}
pub use Rattle.tw_each.specs.Stream.{Adds, AnswersAll, AnswersLast, AreSomeWritten, AreWritten, IsAt, Stops, TakesChunk, begun_line, but_last, ended_lines, kept, last_of, lines_in, parts_of}
pub use Rattle.tw_each.specs.Worst.{close_of, worse}
pub use Rattle.tw_each.specs.declared.lines.Answers.{Answers}
pub use Rattle.tw_each.specs.declared.stream.AnsweredLines.{AnsweredLines}
pub use Rattle.tw_each.specs.declared.stream.StreamError.{StreamError}
pub use Rattle.tw_each.specs.declared.stream.StreamError.TheVariants.{NoMemory, Read, Write}
pub use Rattle.tw_each.specs.declared.together.EachParts.{EachParts}
pub use Rattle.tw_each.specs.declared.worst.WorstEnd.{WorstEnd}
pub use Rattle.tw_inputs.specs.JsonLines.{line_id}
pub use Rattle.tw_json_output.specs.Lines.{IsJsonLine}
pub use Rattle.tw_source.specs.Input.{most_bytes}
pub use Rattle.tw_source.specs.Program.{source_text}
pub use Rattle.tw_source.specs.Reply.{reply}
pub use Rattle.tw_source.specs.Source.{text_of}
