-- The procedures of a text.
use Rattle.std.specs.Prelude.{◌≡◌, ◌<◌, ◌+◌, ℕ, List, [], ◌∷◌, ◌++◌, length, codes, Option, Some, None, is_some, if◌then◌else◌}
use Rattle.std.specs.List.{filter_map, flat_map}
use Rattle.std.specs.Str.{bytes_eq}
use Rattle.std.specs.Str.Lines.{lines}
use Rattle.tw_symbols.specs.Lines.{AreTaken, Line, line_words, pieces}
use Rattle.tw_symbols.specs.Meanings.{Procedures, Table, meaning}
use Rattle.tw_symbols.specs.LineNames.{bank_of_mode, procedure_name}
use Rattle.tw_symbols.specs.declared.meaning.Binding.TheVariants as binding

-- returns the table with a procedure's name, unless an earlier procedure has it
abbrev pub with_name : Option (List ℕ) → ℕ → Table → Table
with_name None number table = table
with_name (Some name) number table = if is_some (meaning name table) then table else table ++ (name, binding.Procedure number) ∷ []

-- returns the procedures with the one whose head has these words, in the line of this number
abbrev pub with_head : Procedures → ℕ → List (List ℕ) → Procedures
with_head procedures number words = record {
  table = with_name (procedure_name words) (length procedures.heads) procedures.table;
  heads = procedures.heads ++ (record { banks = filter_map bank_of_mode words; line = number }) ∷ [];
}

abbrev pub with_words : Procedures → ℕ → List (List ℕ) → Procedures
with_words procedures number [] = procedures
with_words procedures number (first ∷ words) = if bytes_eq first (codes "proc") then with_head procedures number (flat_map pieces words) else procedures

abbrev pub with_line : Procedures → ℕ → Line → Procedures
with_line procedures number line = with_words procedures number (line_words line)

-- returns the procedures with those of lines from this number on
abbrev pub with_lines : Procedures → ℕ → List Line → Procedures
with_lines procedures number [] = procedures
with_lines procedures number (line ∷ others) = with_lines (with_line procedures number line) (number + 1) others

abbrev pub procedures_of : List Line → Procedures
procedures_of all = with_lines (record { table = []; heads = [] }) 1 all

-- holds if the first lines of the text have more procedures than a program may have
abbrev pub HasTooMany : List ℕ → Type 0
HasTooMany text = (before others : List (List ℕ)) × (all : List Line) × (lines text ≡ before ++ others) × AreTaken all before × (64 < length (procedures_of all).heads)
