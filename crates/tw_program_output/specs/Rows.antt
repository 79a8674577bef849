-- Rows of values, as text: each value after the words before it.
use Rattle.std.specs.Prelude.{◌++◌, ℕ, List, decimal}
use Rattle.std.specs.List.{flat_map}
use Rattle.tw_program_output.specs.declared.rows.Cell.{Cell}
use Rattle.tw_program_output.specs.declared.rows.Shown.{Shown}
use Rattle.tw_program_output.specs.declared.rows.Shown.TheVariants as shown
use Rattle.tw_symbols.specs.Symbols.{bracketed}

pub data Value : Type 0 where
  Number : ℕ → Value
  Word : List ℕ → Value
  Name : List ℕ → Value

-- return what the code keeps of a value, and of it with the words before it
abbrev pub value_of : Shown → Value
value_of (shown.Number n) = Number n
value_of (shown.Word word) = Word word.now
value_of (shown.Name name) = Name name.now

abbrev pub cell_of : Cell → List ℕ × Value
cell_of c = (c.before.now, value_of c.value)

-- returns a number in decimal digits, a word, or a name in brackets
abbrev pub value_text : Value → List ℕ
value_text (Number n) = decimal n
value_text (Word word) = word
value_text (Name name) = bracketed name

abbrev pub row_text : List (List ℕ × Value) → List ℕ
row_text cells = flat_map (λ c. c.0 ++ value_text c.1) cells
