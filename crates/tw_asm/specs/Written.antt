-- How a statement is written.
use Rattle.std.specs.Prelude.{ℕ, List, [], ◌∷◌, ◌++◌, codes, Option, Some, None}
use Rattle.std.specs.Fmt.{decimal, signed_decimal}
use Rattle.std.specs.List.{flat_map, join_with_byte}
use Rattle.tw_lexer.specs.Quoted.{quoted}
use Rattle.tw_asm.specs.Parts.{Part, Name, Value, Right, Number, Natural, Literal, TypeOf, Skip, Target, type_words}
use Rattle.tw_asm.specs.Statement.{Statement, statement_parts}

-- Returns the words of a part. `skip_word` has the word of each skip. Numbers have no leading zeros.
abbrev pub part_words : (ℕ → List ℕ) → Part → List (List ℕ)
part_words skip_word (Name word) = word ∷ []
part_words skip_word (Value register) = (codes "v" ++ decimal register) ∷ []
part_words skip_word (Right register) = (codes "d" ++ decimal register) ∷ []
part_words skip_word (Number number) = signed_decimal number ∷ []
part_words skip_word (Natural number) = decimal number ∷ []
part_words skip_word (Literal text) = quoted text ∷ []
part_words skip_word (TypeOf ty) = type_words ty
part_words skip_word (Skip skip) = skip_word skip ∷ []
part_words skip_word (Target None) = codes "any" ∷ []
part_words skip_word (Target (Some number)) = decimal number ∷ []

-- returns the line of a statement: its words, separated by single spaces, and a line feed
abbrev pub line_of : (ℕ → List ℕ) → Statement → List ℕ
line_of skip_word statement = join_with_byte 32 (flat_map (part_words skip_word) (statement_parts statement)) ++ codes "\n"

-- returns the word of a goal: the label with this number, or `+` and the number of instructions
abbrev pub goal_word : Option ℕ → ℕ → List ℕ
goal_word None skip = codes "+" ++ decimal skip
goal_word (Some label) skip = codes "L" ++ decimal label
