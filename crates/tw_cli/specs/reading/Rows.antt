-- How clap is set up for the rows of the code.
use Rattle.std.specs.List.{fold}
use Rattle.clap.specs.Words.{App, Rule, new_app, with_rule, with_subcommand}
use Rattle.tw_cli.specs.Rows.{form_rule}
use Rattle.tw_cli.specs.declared.command_rows.ArgumentRow.{ArgumentRow}
use Rattle.tw_cli.specs.declared.command_rows.CommandRow.{CommandRow}

abbrev pub row_rule : ArgumentRow → Rule
row_rule row = form_rule row.form row.name.now

-- returns a command with one more argument
abbrev pub with_argument : App → ArgumentRow → App
with_argument line row = with_rule line (row_rule row)

abbrev pub row_line : CommandRow → App
row_line row = fold with_argument (new_app row.name.now) row.arguments.now

-- returns the program with one more command
abbrev pub with_row : App → CommandRow → App
with_row line row = with_subcommand line (row_line row).top
