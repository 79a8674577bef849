-- Names of statements and of words, for the files here.
pub use Rattle.std.proofs.lemmas.List.{map-append}
pub use Rattle.std.specs.List.{AllByRecursion, flat_map}
pub use Rattle.std.specs.Str.{bytes_eq}
pub use Rattle.std.specs.Str.Lines.{lines}
pub use Rattle.tw_code.specs.declared.version.Version.{Version}
pub use Rattle.tw_code.specs.format.Table.{opcode_in}
pub use Rattle.tw_lexer.proofs.Once.{broken_no_line, line_once}
pub use Rattle.tw_lexer.specs.Names.{before_colon}
pub use Rattle.tw_lexer.specs.Seen.{IsRead, seen}
pub use Rattle.tw_lexer.specs.Words.{Bare, IsLine, Quoted, Word}
pub use Rattle.tw_asm.specs.Fault.{HasStatement, HaveStatements, ParserState, after_line, at_start, situation, situation_from}
pub use Rattle.tw_asm.specs.Statement.{AnyShortName, Code, Encodes, EncodesInLimits, Head, Label, OfVersion, Registers, Statement}
