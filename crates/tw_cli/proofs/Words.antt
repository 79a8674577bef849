-- The rows that clap finds after the command.
use Rattle.tw_cli.proofs.Names.{App, HasMatchesOf, List, None, Option, Row, Some, Text, ap, ap₂, found_after, is_simple, refl, subcommand_of, subcommand_rows_of, true, ◌∙◌, ◌≡◌}
use Rattle.std.specs.Option.{option_map}
use Rattle.clap.specs.declared.ArgMatches.{ArgMatches}
use Rattle.clap.proofs.OnLiterals.{clap_on_literals}
use Rattle.tw_cli.specs.Rows.{command_line}

simple : is_simple command_line ≡ true
unfolding clap_on_literals command_line
simple = refl

-- what a parse found, if the command is the program's
pub found_is : (a : App) (words : List Text) (m : ArgMatches) → a ≡ command_line → HasMatchesOf a words m → subcommand_rows_of m ≡ subcommand_of command_line words
found_is a words m line matches =
    let plain : is_simple a ≡ true = ap is_simple line ∙ simple in
    (matches plain).1 ∙ ap₂ subcommand_of line refl

none_some : {X : Type 0} {x : X} {Z : Type 0} → Some x ≡ None → Z
none_some e = absurd cc

-- what was found after a command, by its rows
pub found_in : (found : Option (Text × List Row)) (rows : List Row) → Some rows ≡ option_map (λ (p : Text × List Row). p.1) found → found_after found ≡ rows
found_in None rows e = none_some e
found_in (Some (name, given)) rows e = cc
