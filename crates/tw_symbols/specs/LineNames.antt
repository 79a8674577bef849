-- Operands of a line, as they have to be, and names that a line of symbolic assembly adds.
use Rattle.std.specs.Prelude.{◌==◌, ◌+◌, ◌&&◌, ◌||◌, ℕ, ℤ, Bool, true, false, List, [], ◌∷◌, ◌++◌, length, map, filter, take, drop, codes, slice_get, Option, Some, None, is_none, is_some, if◌then◌else◌}
use Rattle.std.specs.List.{flat_map}
use Rattle.std.specs.Option.{option_map_or}
use Rattle.std.specs.Result.{result_ok}
use Rattle.std.specs.Str.{bytes_eq}
use Rattle.tw_lexer.specs.Names.{before_colon}
use Rattle.tw_code.specs.format.Table.{opcode_in}
use Rattle.tw_lexer.specs.Digits.{digits_in, signed_in}
use Rattle.tw_code.specs.declared.form.Form.{Form}
use Rattle.tw_code.specs.declared.form.Form.TheVariants as form
use Rattle.tw_code.specs.declared.opcode.Opcode.{Opcode}
use Rattle.tw_code.specs.declared.opcode.Opcode.TheVariants as opcode
use Rattle.tw_code.specs.format.Versions.{last_version}
use Rattle.tw_symbols.specs.Meanings.{Head, Names, Procedures, and_then, is_name, known, meaning, with_constant, with_listed, with_register}
use Rattle.tw_symbols.specs.declared.line_kind.LineKind.{LineKind}
use Rattle.tw_symbols.specs.declared.line_kind.LineKind.TheVariants as kind
use Rattle.tw_symbols.specs.declared.meaning.Expected.{Expected}
use Rattle.tw_symbols.specs.declared.meaning.Expected.TheVariants as asked
use Rattle.tw_symbols.specs.declared.meaning.Bank.{Bank}
use Rattle.tw_symbols.specs.declared.meaning.Bank.TheVariants as bank
use Rattle.tw_symbols.specs.declared.meaning.Listed.{Listed}
use Rattle.tw_symbols.specs.declared.meaning.Listed.TheVariants as listed
use Rattle.tw_symbols.specs.declared.meaning.Origin.TheVariants as origin
use Rattle.tw_symbols.specs.declared.meaning.Binding.{Binding}
use Rattle.tw_symbols.specs.declared.meaning.Binding.TheVariants as binding

-- ---- instructions

abbrev pub argument_of : Bank → Expected
argument_of bank.Value = asked.ValueArgument
argument_of bank.Right = asked.RightArgument

-- returns what an operand of a form has to be, if the procedure's parameters are of these banks
abbrev pub expected_of : List Bank → Form → List Expected
expected_of banks form.Value = asked.Read ∷ []
expected_of banks form.Right = asked.Right ∷ []
expected_of banks form.Number = asked.Number ∷ []
expected_of banks form.Iterations = asked.Number ∷ []
expected_of banks form.Target = asked.Number ∷ []
expected_of banks form.Callee = asked.Procedure ∷ []
expected_of banks form.Args = map argument_of banks
expected_of banks f = asked.Nothing ∷ []

-- returns whether the instruction compares its first operand, and fills none
abbrev pub compares : Opcode → Bool
compares opcode.JumpEqual = true
compares opcode.JumpLess = true
compares opcode.JumpTextLess = true
compares o = false

-- returns what the operands of these forms have to be; a first one that is a value register is filled, unless it is compared
abbrev pub expected_in : Bool → List Bank → List Form → List Expected
expected_in false banks (form.Value ∷ forms) = asked.Value ∷ flat_map (expected_of banks) forms
expected_in compared banks forms = flat_map (expected_of banks) forms

-- returns the number of a procedure from its name, or else from digits
abbrev pub callee : Option Binding → Option ℕ → Option ℕ
callee (Some (binding.Procedure number)) digits = Some number
callee x digits = digits

abbrev pub banks_at : Procedures → Option ℕ → List Bank
banks_at procedures None = []
banks_at procedures (Some number) = option_map_or (λ (head : Head). head.banks) (slice_get procedures.heads number) []

-- returns the banks of the parameters of the procedure that the first word names, at most as many as there are words
abbrev pub banks_of : Procedures → Names → List (List ℕ) → List Bank
banks_of procedures names [] = []
banks_of procedures names (word ∷ words) = take (length (word ∷ words)) (banks_at procedures (callee (known procedures names word) (result_ok (digits_in 0 255 word))))

-- returns how many of its first operands are right registers that it fills
abbrev pub makes : Opcode → ℕ
makes opcode.New = 2
makes opcode.Look = 1
makes opcode.LookByText = 1
makes opcode.CopyRead = 1
makes opcode.CopyWrite = 1
makes o = 0

-- ---- `const` and `let`

-- returns the value of the one word after `=`, from the words after a name
abbrev pub value_after : {A : Type 0} → (List ℕ → Option A) → List (List ℕ) → Option A
value_after read (sign ∷ word ∷ []) = if bytes_eq sign (codes "=") then read word else None
value_after read words = None

abbrev pub bank_of_letter : ℕ → Option Bank
bank_of_letter b = if b == 118 then Some bank.Value else if b == 100 then Some bank.Right else None

abbrev pub register_in : Option Bank → Option ℕ → Option (Bank × ℕ)
register_in None number = None
register_in (Some in_bank) None = None
register_in (Some in_bank) (Some number) = Some (in_bank, number)

-- returns the register with this letter, and a number from 0 to 15
abbrev pub register_of : List ℕ → Option (Bank × ℕ)
register_of [] = None
register_of (b ∷ rest) = register_in (bank_of_letter b) (result_ok (digits_in 0 15 rest))

-- returns the signed 64-bit number that a word encodes
abbrev pub number_of : List ℕ → Option ℤ
number_of word = result_ok (signed_in word)

-- returns the names after a line `const` with these words
abbrev pub names_after_constant : Procedures → Names → List (List ℕ) → Option Names
names_after_constant procedures names [] = None
names_after_constant procedures names (name ∷ words) = and_then (value_after number_of words) (λ number. with_constant procedures names name (binding.Constant number))

-- returns the names after a line `let` with these words
abbrev pub names_after_let : Procedures → Names → List (List ℕ) → Option Names
names_after_let procedures names [] = None
names_after_let procedures names (name ∷ words) = and_then (value_after register_of words) (λ register. with_register procedures names name register.0 register.1 origin.Chosen)

-- ---- `proc` and `regs`

-- returns the bank of a parameter of this mode
abbrev pub bank_of_mode : List ℕ → Option Bank
bank_of_mode word =
    if bytes_eq word (codes "val") then Some bank.Value else
    if bytes_eq word (codes "closed") || (bytes_eq word (codes "ref") || bytes_eq word (codes "write")) then Some bank.Right else
    None

-- returns the bank of the register that begins with this word: in a head a mode, in a line `regs` each word that isn't a name and `:`
abbrev pub begins : Listed → List ℕ → Option Bank
begins listed.Parameters word = bank_of_mode word
begins listed.Registers word = if is_some (before_colon word) then None else Some bank.Value

abbrev pub begins_first : Listed → List (List ℕ) → Option Bank
begins_first l [] = None
begins_first l (word ∷ words) = begins l word

abbrev pub number_in : Bank → ℕ → ℕ → ℕ
number_in bank.Value values rights = values
number_in bank.Right values rights = rights

-- returns the names with this one, if a register begins after it and so many value registers and right registers have begun before
abbrev pub list_name : Procedures → Names → ℕ → ℕ → List ℕ → Option Bank → Option Names
list_name procedures names values rights [] b = None
list_name procedures names values rights name None = None
list_name procedures names values rights name (Some b) = with_listed procedures names name b (number_in b values rights)

abbrev pub name_before : Procedures → Listed → Names → ℕ → ℕ → List (List ℕ) → Option (List ℕ) → Option Names
name_before procedures l names values rights words None = Some names
name_before procedures l names values rights words (Some name) = list_name procedures names values rights name (begins_first l words)

-- returns how many registers of a bank have begun
abbrev pub counted : Bank → Option Bank → ℕ → ℕ
counted bank.Value (Some bank.Value) n = n + 1
counted bank.Right (Some bank.Right) n = n + 1
counted b begun n = n

-- returns the names after these words, if so many registers have begun; after a name and `:` a register has to begin
abbrev pub names_after_list : Procedures → Listed → Names → ℕ → ℕ → List (List ℕ) → Option Names
names_after_list procedures l names values rights [] = Some names
names_after_list procedures l names values rights (word ∷ words) =
    and_then (name_before procedures l names values rights words (before_colon word)) (λ after. names_after_list procedures l after (counted bank.Value (begins l word) values) (counted bank.Right (begins l word) rights) words)

abbrev pub is_unnamed : List ℕ → Bool
is_unnamed word = is_none (before_colon word)

-- returns the word after the kind, unless a parameter begins with it
abbrev pub procedure_name : List (List ℕ) → Option (List ℕ)
procedure_name (kind ∷ word ∷ words) = if is_some (bank_of_mode word) || is_some (before_colon word) then None else Some word
procedure_name words = None

abbrev pub parameters : List (List ℕ) → List (List ℕ)
parameters words = if is_some (procedure_name words) then drop 2 words else drop 1 words

-- returns the words after each `val`, except a name and `:`, which is no type
abbrev pub value_types : List (List ℕ) → List (List ℕ)
value_types [] = []
value_types (word ∷ words) = if bytes_eq word (codes "val") then filter is_unnamed (take 1 words) ++ value_types words else value_types words

-- returns whether the procedure of this name begins at this line
abbrev pub begins_at : Procedures → ℕ → Option Binding → Bool
begins_at procedures number (Some (binding.Procedure n)) = option_map_or (λ (head : Head). head.line == number) (slice_get procedures.heads n) false
begins_at procedures number x = false

-- returns whether a head at this line may have the name, if it has one: no earlier procedure has it
abbrev pub is_head_name : Procedures → ℕ → Option (List ℕ) → Bool
is_head_name procedures number None = true
is_head_name procedures number (Some name) = is_name name && begins_at procedures number (meaning name procedures.table)

-- returns the names at a head, with no registers yet
abbrev pub at_head : Names → List (List ℕ) → Names
at_head names words = record names {
  registers = [];
  types = if is_some (procedure_name words) then value_types (parameters words) else [];
  rights = 0;
  values = length (value_types (parameters words));
  first = None;
  hidden = [];
  literals = [];
  read = 0;
}

-- ---- lines

abbrev pub is_empty : List (List ℕ) → Bool
is_empty [] = true
is_empty (word ∷ words) = false

-- returns whether a line has just the word `names`
abbrev pub is_names_line : List ℕ → List (List ℕ) → Bool
is_names_line first words = bytes_eq first (codes "names") && is_empty words

abbrev pub kind_in : Option Opcode → LineKind
kind_in None = kind.Other
kind_in (Some o) = kind.Instruction o

-- returns what a line is, by its first word and those after it
abbrev pub kind_of : List ℕ → List (List ℕ) → LineKind
kind_of first words =
    if is_names_line first words then kind.Names else
    if bytes_eq first (codes "const") then kind.Constant else
    if bytes_eq first (codes "let") then kind.Let else
    if bytes_eq first (codes "proc") then kind.Head else
    if bytes_eq first (codes "regs") then kind.Registers else
    kind_in (opcode_in last_version first)
