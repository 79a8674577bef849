-- How a line is written from left to right.
use Rattle.std.specs.Prelude.{ℕ, List, ◌∷◌, ◌++◌, codes}
use Rattle.std.specs.List.{flat_map, join_with_byte}
use Rattle.tw_code.specs.declared.opcode.Opcode.{Opcode}
use Rattle.tw_code.specs.format.Table.{Operand, word_of}
use Rattle.tw_asm.specs.Parts.{Part, Name, operand_parts}
use Rattle.tw_asm.specs.Written.{part_words}

abbrev pub spaced : List ℕ → List ℕ
spaced word = 32 ∷ word

-- returns the words with a space before each
abbrev pub spaced_all : List (List ℕ) → List ℕ
spaced_all words = flat_map spaced words

abbrev pub line_of_parts : (ℕ → List ℕ) → List Part → List ℕ
line_of_parts skip_word parts = join_with_byte 32 (flat_map (part_words skip_word) parts) ++ codes "\n"

-- returns the words of an operand; `skip_word` has the word of each skip
abbrev pub operand_words : (ℕ → List ℕ) → Operand → List (List ℕ)
operand_words skip_word o = flat_map (part_words skip_word) (operand_parts o)

-- returns the line of an instruction
abbrev pub row_line : (ℕ → List ℕ) → Opcode → List Operand → List ℕ
row_line skip_word o operands = line_of_parts skip_word (Name (word_of o) ∷ flat_map operand_parts operands)
