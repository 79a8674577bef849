-- Passes on what the files here use of other crates and of the definitions.
pub use Rattle.clap.proofs.WalkLemmas.{first_value-rows, raw_values-rows}
pub use Rattle.clap.specs.Words.{AddsSubcommand, App, HasMatchesOf, Row, Text, all_of, app_of, first_of, found_of, is_simple, new_app, rows_of, subcommand_of, subcommand_rows_of, with_rule, with_subcommand}
pub use Rattle.std.proofs.Common.{Bool, Err, IfOk, IfSome, List, MatchOption, None, Ok, Option, Result, Some, [], ap, ap₂, codes, false, get_or, is_some, length, map, refl, string_bytes, subst, sym, take, true, unwrap_or, ℕ, ◌+◌, ◌<◌, ◌==◌, ◌||◌, ◌∙◌, ◌∷◌, ◌≡◌}
pub use Rattle.std.proofs.lemmas.List.{take_all, take_more}
pub use Rattle.std.specs.List.{find, fold, list_any}
pub use Rattle.tw_cli.specs.Explanations.{IsExplainedBy, IsExplanation, IsMeaningOf, is_number, meant, names_code}
pub use Rattle.tw_cli.specs.Order.{Gives, found_after}
pub use Rattle.tw_cli.specs.Rows.{bare_line, command_line}
pub use Rattle.tw_cli.specs.reading.Rows.{with_argument, with_row}
