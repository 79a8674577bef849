-- Names of replies, of programs and of what is known of them, for the files here.
pub use Rattle.std.proofs.lemmas.List.{append-nil, length-append, map-append}
pub use Rattle.std.proofs.lemmas.Result.{IfErr-weaker, IfOk-weaker, on_ok_weaker}
pub use Rattle.std.specs.Prelude.{slice_get}
pub use Rattle.std.specs.Str.Lines.{lines}
pub use Rattle.tw_code.specs.declared.procedure.Procedure.{Procedure}
pub use Rattle.tw_code.specs.format.Program.{Versioned}
pub use Rattle.tw_order.specs.declared.order.Source.TheVariants.{Assembly, Hex}
pub use Rattle.tw_source.specs.declared.close.Close.TheVariants.{Refused, Success}
pub use Rattle.tw_source.specs.declared.failure.Failure.{Failure}
pub use Rattle.tw_source.specs.Failure.{coded, failed_with, failure_line}
pub use Rattle.tw_source.specs.declared.program.NoProgram.{NoProgram}
pub use Rattle.tw_source.specs.declared.reply.Reply.{Reply}
pub use Rattle.tw_asm.specs.Fault.{HaveStatements, ParserState, after_line, at_start}
pub use Rattle.tw_asm.specs.Origins.{AreOrigins, ComesFrom, at_place, instr_at}
pub use Rattle.tw_symbols.specs.Expansion.{HasNames, ExpandsTo}
pub use Rattle.tw_source.specs.Program.{MayHaveDetails, PrintsNone, RepliesByPlain, RepliesBySource, HasProgram, HasNoProgram, TextHasProgram, IsFailure}
pub use Rattle.tw_source.specs.Reply.{Reply as Spoken, reply}
pub use Rattle.tw_source.specs.Source.{plain_of, text_of}
pub use Rattle.tw_source.specs.Text.{text_line}
