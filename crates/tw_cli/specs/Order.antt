-- The order that arguments give, or the reason why there is none.
use Rattle.std.specs.Prelude.{List, [], ⊤, Option, Some, None, MatchResult, Result, codes, unwrap_or}
use Rattle.std.specs.Option.{option_map_or}
use Rattle.clap.specs.Words.{Row, Text, all_of, subcommand_of}
use Rattle.tw_types.specs.declared.input.Input.{Input}
use Rattle.tw_inputs.specs.InputWords.{AreEncoded, IsRejectedWord, refused_word}
use Rattle.tw_order.specs.declared.order.Order.{Order}
use Rattle.tw_order.specs.declared.order.Order.TheVariants.{Replay, Run}
use Rattle.tw_order.specs.declared.runs.RunInputs.TheVariants.{Given}
use Rattle.tw_cli.specs.Explanations.{IsMeaningOf, number_word}
use Rattle.tw_cli.specs.Rows.{command_line}
use Rattle.tw_cli.specs.declared.command.NoOrder.{NoOrder}
use Rattle.tw_cli.specs.declared.command.NoOrder.TheVariants.{InputWord, Explanation}

-- returns the input arguments that clap found
abbrev pub given_words : List Row → List Text
given_words rows = unwrap_or (all_of (codes "input") rows) []

-- holds if inputs, where arguments give them, are those that the input arguments encode
abbrev pub AreListed : List Row → Option (List Input) → Type 0
AreListed rows (Some inputs) = AreEncoded inputs (given_words rows)
AreListed rows None = ⊤

abbrev pub HasInputs : List Row → Order → Type 0
HasInputs rows (Run source options (Given inputs)) = AreListed rows (Some inputs)
HasInputs rows (Replay source answer layout given) = AreListed rows given
HasInputs rows order = ⊤

-- holds for a reason: an input argument is the first that encodes no input; or a code is explained, and it is the one that is named. Nothing is said of
-- other reasons.
abbrev pub HasReason : List Row → NoOrder → Type 0
HasReason rows (InputWord number line) = IsRejectedWord (given_words rows) (refused_word number line.items)
HasReason rows (Explanation explained) = IsMeaningOf (number_word rows) explained.code.items explained.text.items
HasReason rows why = ⊤

-- holds for the order, or the reason, by what clap found after the command
abbrev pub Gives : List Row → Result Order NoOrder → Type 0
Gives rows result = MatchResult result (HasInputs rows) (HasReason rows)

abbrev pub found_after : Option (Text × List Row) → List Row
found_after found = option_map_or (λ command. command.1) found []

-- holds for the order, or the reason, that these arguments give
abbrev pub GivesByWords : List Text → Result Order NoOrder → Type 0
GivesByWords words result = Gives (found_after (subcommand_of command_line words)) result
