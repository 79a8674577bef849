-- A symbolic text with its names replaced. Line by line and word by word, the second text has the first one's words, and in the place of each name a word
-- that the assembler reads as what the name means there. A line adds a name only if that means nothing yet, and a name of a register ends at the next head.
-- In the place of each literal, a number or a text that is read from a register, the second text has a hidden register, if the procedure lists registers
-- for all its parameters. After a line `regs`, lines that begin with a blank fill the hidden registers with their literals. No other word means one of them.
use Rattle.std.specs.Prelude.{◌≡◌, ◌==◌, ◌≤◌, ◌+◌, ◌⊎◌, ◌++◌, ◌||◌, IsUtf8, ℕ, ℤ, Bool, false, true, not, List, [], ◌∷◌, codes, drop, filter, if◌then◌else◌, length, slice_get, take, Option, Some, None, unwrap_or}
use Rattle.std.specs.Fmt.{signed_decimal}
use Rattle.std.specs.List.{flat_map, list_all, list_any}
use Rattle.std.specs.Option.{is_some}
use Rattle.std.specs.Ordering.{int_eq}
use Rattle.std.specs.Result.{result_ok}
use Rattle.std.specs.Str.{bytes_eq}
use Rattle.std.specs.Str.Lines.{lines}
use Rattle.tw_code.specs.format.Table.{forms_of}
use Rattle.tw_code.specs.declared.opcode.Opcode.{Opcode}
use Rattle.tw_lexer.specs.Digits.{digits_in}
use Rattle.tw_lexer.specs.Quoted.{EncodesQuoted}
use Rattle.tw_symbols.specs.Lines.{AreTaken, IsTaken, Line, line_words, pieces}
use Rattle.tw_symbols.specs.Meanings.{Names, Procedures, and_then, is_name, known, literal_at, names_after_reading, no_names, with_hidden, with_listed}
use Rattle.tw_symbols.specs.LineNames.{at_head, banks_of, compares, expected_in, is_head_name, is_unnamed, kind_of, makes, names_after_constant, names_after_let, names_after_list, number_of, parameters, procedure_name, register_of}
use Rattle.tw_symbols.specs.Heads.{HasTooMany, procedures_of}
use Rattle.tw_symbols.specs.declared.line_kind.LineKind.{LineKind}
use Rattle.tw_symbols.specs.declared.line_kind.LineKind.TheVariants as kind
use Rattle.tw_symbols.specs.declared.meaning.Bank.{Bank}
use Rattle.tw_symbols.specs.declared.meaning.Bank.TheVariants as bank
use Rattle.tw_symbols.specs.declared.meaning.Binding.{Binding}
use Rattle.tw_symbols.specs.declared.meaning.Binding.TheVariants as binding
use Rattle.tw_symbols.specs.declared.meaning.Expected.{Expected}
use Rattle.tw_symbols.specs.declared.meaning.Expected.TheVariants as asked
use Rattle.tw_symbols.specs.declared.meaning.Listed.TheVariants as listed

-- ---- words

-- holds if a word of assembly text, read in such a place, is what a name means; a constant is written as its value in decimal
abbrev pub IsAt : Expected → Binding → List ℕ → Type 0
IsAt asked.Value (binding.Register bank.Value number by) plain = register_of plain ≡ Some (bank.Value, number)
IsAt asked.Read (binding.Register bank.Value number by) plain = register_of plain ≡ Some (bank.Value, number)
IsAt asked.Right (binding.Register bank.Right number by) plain = register_of plain ≡ Some (bank.Right, number)
IsAt asked.ValueArgument (binding.Register bank.Value number by) plain = result_ok (digits_in 0 15 plain) ≡ Some number
IsAt asked.RightArgument (binding.Register bank.Right number by) plain = result_ok (digits_in 0 15 plain) ≡ Some number
IsAt asked.Number (binding.Constant number) plain = plain ≡ signed_decimal number
IsAt asked.Procedure (binding.Procedure number) plain = result_ok (digits_in 0 255 plain) ≡ Some number
IsAt place x plain = ⊥

-- holds if a word stays: it is no name, or no name may be in its place
abbrev pub Stays : Expected → List ℕ → List ℕ → Type 0
Stays place word plain = (plain ≡ word) × ((is_name word ≡ false) ⊎ (place ≡ asked.Nothing))

-- holds if a word is a name, and is replaced by what it means
abbrev pub IsReplaced : Procedures → Names → Expected → List ℕ → List ℕ → Type 0
IsReplaced procedures names place word plain = (x : Binding) × (known procedures names word ≡ Some x) × IsAt place x plain

abbrev pub value_of : Option (Bank × ℕ) → Option ℕ
value_of (Some (bank.Value, number)) = Some number
value_of register = None

-- returns the value register that a word of assembly text is in such a place, if it is one
abbrev pub value_at : Expected → List ℕ → Option ℕ
value_at asked.Value plain = value_of (register_of plain)
value_at asked.Read plain = value_of (register_of plain)
value_at asked.ValueArgument plain = result_ok (digits_in 0 15 plain)
value_at place plain = None

abbrev pub begins_quoted : List ℕ → Bool
begins_quoted [] = false
begins_quoted (b ∷ word) = b == 34

abbrev pub same_number : Option ℤ → Option ℤ → Bool
same_number (Some number) (Some other) = int_eq number other
same_number number other = false

-- returns whether two words are the same literal: one number, or the same quoted text
abbrev pub is_same : List ℕ → List ℕ → Bool
is_same word other = if begins_quoted word then bytes_eq other word else same_number (number_of word) (number_of other)

-- holds for a quoted text that a register may hold
abbrev pub IsQuotedText : List ℕ → Type 0
IsQuotedText word = IsUtf8 word × (text : List ℕ) × EncodesQuoted text word × (length text ≤ 4096)

abbrev pub IsLiteral : List ℕ → Type 0
IsLiteral word = (is_some (number_of word) ≡ true) ⊎ IsQuotedText word

-- holds unless a word is a literal that is read where a procedure may have hidden registers
abbrev pub NeedsNoRegister : Names → Expected → List ℕ → Type 0
NeedsNoRegister names place word = place ≡ asked.Read → IsLiteral word → names.first ≡ None

-- holds if a word is replaced by the hidden register which it fills
abbrev pub IsHeld : Names → Expected → List ℕ → List ℕ → Names → Type 0
IsHeld names place word plain after =
    (place ≡ asked.Read) × (other : List ℕ) × (and_then (value_at place plain) (literal_at names) ≡ Some other) × (is_same word other ≡ true) × (names_after_reading names names.first (value_at place plain) ≡ Some after)

abbrev pub IsWord : Procedures → Names → Expected → List ℕ → List ℕ → Type 0
IsWord procedures names place word plain = Stays place word plain ⊎ IsReplaced procedures names place word plain

-- holds for an operand; one that needs no hidden register means none
unfoldable pub IsOperand : Procedures → Names → Expected → List ℕ → List ℕ → Names → Type 0
IsOperand procedures names place word plain after =
    ((after ≡ names) × (and_then (value_at place plain) (literal_at names) ≡ None) × NeedsNoRegister names place word × IsWord procedures names place word plain) ⊎ IsHeld names place word plain after

-- holds for words with these places, one by one; nothing is required of further ones
abbrev pub AreOperands : Procedures → Names → List Expected → List (List ℕ) → List (List ℕ) → Names → Type 0
AreOperands procedures names places [] [] after = after ≡ names
AreOperands procedures names places (word ∷ words) (plain ∷ plains) after =
    (next : Names) × IsOperand procedures names (unwrap_or (slice_get places 0) asked.Nothing) word plain next × AreOperands procedures next (drop 1 places) words plains after
AreOperands procedures names places words plains after = ⊥

-- Holds if a word is a right register that an instruction fills. A name that means nothing yet means this register from here on, which is above all right
-- registers of the procedure that have a name.
abbrev pub IsMade : Procedures → Names → List ℕ → List ℕ → Names → Type 0
IsMade procedures names word plain after =
    ((after ≡ names) × IsWord procedures names asked.Right word plain)
    ⊎ ((number : ℕ) × (register_of plain ≡ Some (bank.Right, number)) × (names.rights ≤ number) × (with_listed procedures names word bank.Right number ≡ Some after))

abbrev pub AreMade : Procedures → Names → List (List ℕ) → List (List ℕ) → Names → Type 0
AreMade procedures names [] [] after = after ≡ names
AreMade procedures names (word ∷ words) (plain ∷ plains) after = (next : Names) × IsMade procedures names word plain next × AreMade procedures next words plains after
AreMade procedures names words plains after = ⊥

-- ---- lines

abbrev pub IsInstruction : Procedures → Names → Opcode → List (List ℕ) → List (List ℕ) → Names → Type 0
IsInstruction procedures names o words plains after = (made : Names) × AreMade procedures names (take (makes o) words) (take (makes o) plains) made
    × AreOperands procedures made (drop (makes o) (expected_in (compares o) (banks_of procedures made words) (forms_of o))) (drop (makes o) words) (drop (makes o) plains) after

-- holds for a head: its words stay, but each name and `:`, and the procedure's name
abbrev pub IsHead : Procedures → ℕ → Names → List (List ℕ) → List (List ℕ) → Names → Type 0
IsHead procedures number names words plains after =
    (names.read ≡ length names.hidden) × (is_head_name procedures number (procedure_name words) ≡ true)
    × (names_after_list procedures listed.Parameters (at_head names words) 0 0 (parameters words) ≡ Some after)
    × (plains ≡ take 1 words ++ filter is_unnamed (parameters words))

abbrev pub is_type : List ℕ → Bool
is_type word = bytes_eq word (codes "int") || bytes_eq word (codes "text")

-- holds if the last of so many types are those of hidden registers
abbrev pub AreHidden : ℕ → List (List ℕ) → Type 0
AreHidden count [] = Unit {0}
AreHidden count (word ∷ words) = (count ≤ 16) × (list_all is_type (word ∷ words) ≡ true)

-- holds for a line `regs`: first come the types of the `val` parameters, if the procedure has a name; and last those of the hidden registers
abbrev pub AreRegisters : Procedures → Names → List (List ℕ) → List (List ℕ) → Names → Type 0
AreRegisters procedures names words plains after =
    (next : Names) × (more : List (List ℕ)) × (names_after_list procedures listed.Registers names (length names.types) 0 words ≡ Some next)
    × (plains ≡ names.types ++ (filter is_unnamed words ++ more)) × AreHidden (length plains) more × (after ≡ with_hidden next (length names.types + length (filter is_unnamed words)) more)

-- holds if a line of such a kind has no words in assembly text, and these are the names after it
abbrev pub OnlyNames : LineKind → Procedures → Names → List (List ℕ) → Names → Type 0
OnlyNames kind.Names procedures names words after = after ≡ names
OnlyNames kind.Constant procedures names words after = names_after_constant procedures names words ≡ Some after
OnlyNames kind.Let procedures names words after = names_after_let procedures names words ≡ Some after
OnlyNames k procedures names words after = ⊥

-- holds if the words after the first are these in assembly text, and these are the names after the line
abbrev pub AreOthers : LineKind → Procedures → ℕ → Names → List (List ℕ) → List (List ℕ) → Names → Type 0
AreOthers kind.Head procedures number names words plains after = IsHead procedures number names (flat_map pieces words) plains after
AreOthers kind.Registers procedures number names words plains after = AreRegisters procedures names (flat_map pieces words) plains after
AreOthers (kind.Instruction o) procedures number names words plains after = IsInstruction procedures names o (flat_map pieces words) plains after
AreOthers kind.Other procedures number names words plains after = (plains ≡ words) × (after ≡ names)
AreOthers k procedures number names words plains after = ⊥

-- holds if these are the words of the line of this number in assembly text, and these the names after it
abbrev pub IsLine : Procedures → ℕ → Names → List (List ℕ) → List (List ℕ) → Names → Type 0
IsLine procedures number names [] plains after = (plains ≡ []) × (after ≡ names)
IsLine procedures number names (first ∷ words) [] after = OnlyNames (kind_of first words) procedures names words after
IsLine procedures number names (first ∷ words) (plain ∷ plains) after = (plain ≡ first) × AreOthers (kind_of first words) procedures number names words plains after

-- ---- the text

-- returns whether a line of assembly text is the expansion of a line, and not hidden: it doesn't begin with a blank
abbrev pub is_written : List ℕ → Bool
is_written [] = true
is_written (b ∷ line) = not (b == 32)

abbrev pub opcode_for : List ℕ → List ℕ
opcode_for literal = if begins_quoted literal then codes "TEXT" else codes "INT"

abbrev pub type_for : List ℕ → List ℕ
type_for literal = if begins_quoted literal then codes "text" else codes "int"

-- holds if a word is the first hidden register that isn't filled yet
abbrev pub IsNextRegister : Names → List ℕ → Type 0
IsNextRegister names register = (first : ℕ) × (names.first ≡ Some first) × (register_of register ≡ Some (bank.Value, first + length names.literals))

-- holds if the words of a hidden line fill that register with a literal of its type
abbrev pub IsFilling : Names → List ℕ → List ℕ → List ℕ → Names → Type 0
IsFilling names opcode register literal after =
    (opcode ≡ opcode_for literal) × IsLiteral literal × (slice_get names.hidden (length names.literals) ≡ Some (type_for literal)) × IsNextRegister names register × (list_any (is_same literal) names.literals ≡ false) × (after ≡ record names { literals = names.literals ++ literal ∷ [] })

abbrev pub IsFilled : Names → List (List ℕ) → Names → Type 0
IsFilled names (opcode ∷ register ∷ literal ∷ []) after = IsFilling names opcode register literal after
IsFilled names words after = ⊥

abbrev pub AreFilled : Names → Type 0
AreFilled names = length names.literals ≡ length names.hidden

-- holds if each hidden register is read, too
abbrev pub AreRead : Names → Type 0
AreRead names = names.read ≡ length names.hidden

-- hold for lines from this number on beside all lines of assembly text, and the names after them
abbrev pub AreLines : Procedures → ℕ → Names → List Line → List (List ℕ) → Names → Type 0
AreLines procedures number names all [] after = (all ≡ []) × (after ≡ names)
AreLines procedures number names all (plain ∷ plains) after = (taken : Line) × (next : Names) × IsTaken taken plain
    × (((is_written plain ≡ false) × IsFilled names (line_words taken) next × AreLines procedures number next all plains after)
    ⊎ ((is_written plain ≡ true) × AreFilled names × (line : Line) × (others : List Line) × (all ≡ line ∷ others)
    × IsLine procedures number names (line_words line) (line_words taken) next × AreLines procedures (number + 1) next others plains after))

-- holds if the second text is the first with its names and literals replaced
abbrev pub IsRenamed : List ℕ → List ℕ → Type 0
IsRenamed text plain = (all : List Line) × (after : Names) × AreTaken all (lines text) × AreLines (procedures_of all) 1 no_names all (lines plain) after × AreFilled after × AreRead after

-- holds if it is; or if so many lines of the second text, or all, are the first lines of the text with their names and literals replaced. A text that has too
-- many procedures isn't compared then
abbrev pub IsRenamedUpTo : Option ℕ → List ℕ → List ℕ → Type 0
IsRenamedUpTo None text plain = IsRenamed text plain
IsRenamedUpTo (Some count) text plain = HasTooMany text
    ⊎ ((all : List Line) × (number : ℕ) × (after : Names) × AreTaken all (lines text) × AreLines (procedures_of all) 1 no_names (take number all) (take count (lines plain)) after)
