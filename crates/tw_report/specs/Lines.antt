-- Single lines.
use Rattle.std.specs.Prelude.{ℕ, List, ◌++◌, codes, decimal}
use Rattle.std.specs.Fmt.{signed_decimal}
use Rattle.tw_types.specs.declared.value.Value.{Value}
use Rattle.tw_types.specs.declared.value.Value.TheVariants as value
use Rattle.tw_lexer.specs.Quoted.{quoted}

-- returns a value with its type; a text is quoted
abbrev pub value_text : Value → List ℕ
value_text (value.Int n) = codes "int " ++ signed_decimal n
value_text (value.Text text) = codes "text " ++ quoted text

-- ---- errors of traces, and of runs of the reference machine

-- returns the error of a trace with a line that isn't an event; lines count from 1 after `events`
abbrev pub history_line : ℕ → List ℕ
history_line line = codes "refused E01 at line " ++ (decimal line ++ codes "\n")

-- return the errors at an event; events count from 1
abbrev pub trap_line : ℕ → ℕ → List ℕ
trap_line number event = codes "trap C" ++ (decimal number ++ (codes " at event " ++ (decimal event ++ codes "\n")))

abbrev pub not_enabled_line : ℕ → List ℕ
not_enabled_line event = codes "not enabled at event " ++ (decimal event ++ codes "\n")
