-- Statements of assembly text, and the words that denote them.
use Rattle.std.specs.Prelude.{◌≡◌, ◌⊎◌, ◌≤◌, ℕ, Bool, true, List, [], ◌∷◌, ◌++◌, length, codes, map, Some, None, ◌==◌, if◌then◌else◌}
use Rattle.std.specs.Int.{IsInRange}
use Rattle.std.specs.List.{AllByRecursion}
use Rattle.tw_types.specs.DataType.{is_scalar}
use Rattle.tw_types.specs.Nesting.{NestedScalar}
use Rattle.tw_types.specs.declared.actor.Kind.{Kind}
use Rattle.tw_types.specs.declared.data_type.Scalar.{Scalar}
use Rattle.tw_types.specs.declared.param.Mode.{Mode}
use Rattle.tw_types.specs.declared.param.Mode.TheVariants.{Val, Closed, Ref, Write}
use Rattle.tw_types.specs.declared.param.Param.{Param}
use Rattle.tw_code.specs.declared.form.Form.TheVariants as form
use Rattle.tw_code.specs.declared.instr.Instr.{Instr}
use Rattle.tw_code.specs.declared.version.Version.{Version}
pub use Rattle.tw_code.specs.format.Versions.{version_by, version_number}
use Rattle.tw_code.specs.format.Program.{IsInstr, IsList, IsMapOf, IsParam, IsSubscriptOf, IsWithin}
use Rattle.tw_code.specs.format.Table.{Operand, has_opcode, holds, row}
use Rattle.tw_lexer.specs.Number.{EncodesDigits, EncodesNumber}
use Rattle.tw_lexer.specs.Words.{Word, Bare, Quoted}
use Rattle.tw_asm.specs.declared.statement.First.{First}
use Rattle.tw_asm.specs.declared.statement.First.TheVariants as first
use Rattle.tw_asm.specs.Parts.{Part, Name, Value, Right, Number, Natural, Literal, TypeOf, Skip, Target, head_parts, instr_parts, label_parts, registers_parts, type_words, version_parts}

-- ---- versions by their numbers

-- holds for 1, 2, 4 and 5
abbrev pub IsVersionNumber : ℕ → Type 0
IsVersionNumber number = IsWithin 1 2 number ⊎ IsWithin 4 5 number

-- ---- statements

pub data Statement : Type 0 where
  -- the version of the language
  OfVersion : ℕ → Statement
  -- the head of a procedure, with its kind and its parameters
  Head : Kind → List Param → Statement
  -- the types of its value registers
  Registers : List Scalar → Statement
  -- a label with this name
  Label : List ℕ → Statement
  Code : Instr → Statement

abbrev pub statement_parts : Statement → List Part
statement_parts (OfVersion number) = version_parts number
statement_parts (Head kind params) = head_parts kind params
statement_parts (Registers registers) = registers_parts registers
statement_parts (Label name) = label_parts name
statement_parts (Code i) = instr_parts i

-- ---- names of labels

abbrev pub IsLetter : ℕ → Type 0
IsLetter b = IsInRange 65 90 b ⊎ IsInRange 97 122 b

-- holds for a letter, a digit or `_`
abbrev pub IsInName : ℕ → Type 0
IsInName b = IsLetter b ⊎ (IsInRange 48 57 b ⊎ (b ≡ 95))

-- holds for an ASCII letter, followed by ASCII letters, digits or `_`
abbrev pub IsName : List ℕ → Type 0
IsName [] = ⊥
IsName (b ∷ others) = IsLetter b × AllByRecursion IsInName others

-- holds for a name of at most 64 bytes
abbrev pub IsShortName : List ℕ → Type 0
IsShortName name = IsName name × (length name ≤ 64)

-- ---- the words of a part

-- which names denote which skips: a skip may be written as the name of a label
abbrev pub Goals : Type 1
Goals = ℕ → List ℕ → Type 0

-- holds for a letter and the digits of a number
abbrev pub EncodesWith : List ℕ → ℕ → List Word → Type 0
EncodesWith front number words = (digits : List ℕ) × EncodesDigits number digits × (words ≡ Bare (front ++ digits) ∷ [])

abbrev pub EncodesPart : Goals → Part → List Word → Type 0
EncodesPart goals (Name word) words = words ≡ Bare word ∷ []
EncodesPart goals (Value register) words = EncodesWith (codes "v") register words
EncodesPart goals (Right register) words = EncodesWith (codes "d") register words
EncodesPart goals (Number number) words = (word : List ℕ) × EncodesNumber number word × (words ≡ Bare word ∷ [])
EncodesPart goals (Natural number) words = EncodesWith [] number words
EncodesPart goals (Literal text) words = words ≡ Quoted text ∷ []
EncodesPart goals (TypeOf ty) words = words ≡ map Bare (type_words ty)
EncodesPart goals (Skip skip) words = EncodesWith (codes "+") skip words ⊎ ((name : List ℕ) × goals skip name × (words ≡ Bare name ∷ []))
EncodesPart goals (Target None) words = words ≡ Bare (codes "any") ∷ []
EncodesPart goals (Target (Some number)) words = EncodesWith [] number words

-- holds for the words of each part, one after another
abbrev pub EncodeParts : Goals → List Part → List Word → Type 0
EncodeParts goals [] words = words ≡ []
EncodeParts goals (part ∷ parts) words =
    (first : List Word) × (others : List Word) × (words ≡ first ++ others) × EncodesPart goals part first × EncodeParts goals parts others

-- ---- what a version has

abbrev pub HasType : Version → NestedScalar → Type 0
HasType version ty = AllByRecursion (IsSubscriptOf version) ty.containers × IsMapOf version ty.scalar ty.map

abbrev pub HasOperand : Version → Operand → Type 0
HasOperand version (holds form.TypeOf ty) = HasType version ty
HasOperand version o = Unit {0}

-- holds if the version has the opcode, and each type in the instruction
abbrev pub HasInstr : Version → Instr → Type 0
HasInstr version i = (has_opcode version (row i).0 ≡ true) × AllByRecursion (HasOperand version) (row i).1

-- ---- statements

-- holds unless a container or a map has mode `val`
abbrev pub IsTypeOfMode : Mode → Bool → Type 0
IsTypeOfMode Val scalar = scalar ≡ true
IsTypeOfMode Closed scalar = Unit {0}
IsTypeOfMode Ref scalar = Unit {0}
IsTypeOfMode Write scalar = Unit {0}

abbrev pub HasParam : Version → Param → Type 0
HasParam version param = IsTypeOfMode param.mode (is_scalar param.ty) × HasType version param.ty

-- holds if the version has what the statement consists of, whatever its limits
abbrev pub HasForm : Version → Statement → Type 0
HasForm version (OfVersion number) = Unit {0}
HasForm version (Head kind params) = AllByRecursion (HasParam version) params
HasForm version (Registers registers) = Unit {0}
HasForm version (Label name) = IsName name
HasForm version (Code i) = HasInstr version i

-- these words denote the statement, whatever its limits
pub record Encodes (version : Version) (goals : Goals) (statement : Statement) (words : List Word) : Type 0 where
  pub form : HasForm version statement
  pub parts : EncodeParts goals (statement_parts statement) words

-- holds if numbers, counts and texts are within the limits of programs
abbrev pub IsInLimits : Statement → Type 0
IsInLimits (OfVersion number) = IsVersionNumber number
IsInLimits (Head kind params) = IsList 0 8 IsParam params
IsInLimits (Registers registers) = IsWithin 0 16 (length registers)
IsInLimits (Label name) = length name ≤ 64
IsInLimits (Code i) = IsInstr i

-- ---- labels that aren't resolved yet

-- holds for any name
abbrev pub AnyName : Goals
AnyName skip name = IsName name

-- holds for any name of at most 64 bytes
abbrev pub AnyShortName : Goals
AnyShortName skip name = IsShortName name

-- holds if the words denote a statement, whatever its limits
abbrev pub HaveForm : Version → List Word → Type 0
HaveForm version words = (statement : Statement) × Encodes version AnyName statement words

-- holds if the words denote this statement, which is within the limits
abbrev pub EncodesInLimits : Version → Statement → List Word → Type 0
EncodesInLimits version statement words = Encodes version AnyShortName statement words × IsInLimits statement

-- the instruction names this label as its goal, and has no number of instructions instead
pub record NamesLabel (version : Version) (name : List ℕ) (words : List Word) : Type 0 where
  pub i : Instr
  pub spells : Encodes version (λ skip word. word ≡ name) (Code i) words
  pub names : (other : Instr) → Encodes version (λ skip word. ⊥) (Code other) words → ⊥

-- ---- first words

abbrev pub IsLabelWord : List ℕ → Type 0
IsLabelWord word = (name : List ℕ) × IsName name × (word ≡ name ++ codes ":")

-- holds for the name of an instruction that the version has
abbrev pub IsInstrWord : Version → List ℕ → Type 0
IsInstrWord version word = (i : Instr) × (operands : List Part) × HasInstr version i × (instr_parts i ≡ Name word ∷ operands)

abbrev pub IsExpected : Version → First → List ℕ → Type 0
IsExpected version first.Version word = word ≡ codes "version"
IsExpected version first.Head word = word ≡ codes "proc"
IsExpected version first.Registers word = word ≡ codes "regs"
IsExpected version first.Body word = IsLabelWord word ⊎ IsInstrWord version word
