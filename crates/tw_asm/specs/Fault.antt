-- The first fault of an assembly text.
--
-- A text is read line by line. The lines before a line decide the state of the parser. The first line that isn't allowed in its state has
-- the fault; if it has several, the one with the lowest number counts. If all lines are allowed, and the text may end, goals are checked:
-- the first line whose goal isn't a label after it has the fault.
use Rattle.std.specs.Prelude.{◌≡◌, ◌⊎◌, ℕ, ◌+◌, ◌≤◌, ◌<◌, List, [], ◌∷◌, ◌++◌, length, take, drop, slice_get, Option, Some, None}
use Rattle.tw_code.specs.declared.instr.Instr.{Instr}
use Rattle.tw_code.specs.declared.version.Version.{Version}
use Rattle.tw_code.specs.declared.version.Version.TheVariants.{One}
use Rattle.std.specs.List.{Contains}
use Rattle.std.specs.Str.Lines.{lines}
use Rattle.tw_lexer.specs.Words.{Bare, IsFirstWord, IsLine, Word}
use Rattle.tw_asm.specs.declared.statement.First.{First}
use Rattle.tw_asm.specs.declared.statement.First.TheVariants as first
use Rattle.tw_asm.specs.Statement.{Statement, OfVersion, Head, Registers, Label, Code, HaveForm, IsExpected, NamesLabel, EncodesInLimits}
use Rattle.tw_code.specs.format.Versions.{version_by}
use Rattle.tw_asm.specs.declared.fault.FaultNo.{FaultNo}
use Rattle.tw_asm.specs.declared.fault.FaultNo.TheVariants as fault

-- returns the number of a fault: A01 to A07
abbrev pub fault_number : FaultNo → ℕ
fault_number fault.Word = 1
fault_number fault.Operand = 2
fault_number fault.UnknownLabel = 3
fault_number fault.LabelTwice = 4
fault_number fault.LabelNotForward = 5
fault_number fault.Limit = 6
fault_number fault.NoMemory = 7

-- ---- states

pub data Stage : Type 0 where
  -- nothing is read yet
  Start : Stage
  -- only the version is read
  AfterVersion : Stage
  -- the types of value registers have to follow
  AfterHead : Stage
  InBody : Stage

pub record ParserState : Type 0 where
  pub version : Version
  pub stage : Stage
  -- the number of procedures so far, and the line of the last head
  pub procedures : ℕ
  pub head_line : ℕ
  -- the labels of the last procedure, and how many instructions it has
  pub labels : List (List ℕ)
  pub instructions : ℕ

abbrev pub at_start : ParserState
at_start = record { version = One; stage = Start; procedures = 0; head_line = 0; labels = []; instructions = 0 }

-- returns the state after a statement in the line with this number
abbrev pub after : ℕ → Statement → ParserState → ParserState
after number (OfVersion version) s = record s { version = version_by version; stage = AfterVersion }
after number (Head kind params) s = record { version = s.version; stage = AfterHead; procedures = s.procedures + 1; head_line = number; labels = []; instructions = 0 }
after number (Registers registers) s = record s { stage = InBody }
after number (Label name) s = record s { labels = s.labels ++ (name ∷ []) }
after number (Code i) s = record s { instructions = s.instructions + 1 }

-- holds if no procedure has begun
abbrev pub IsOutset : Stage → Type 0
IsOutset Start = Unit {0}
IsOutset AfterVersion = Unit {0}
IsOutset AfterHead = ⊥
IsOutset InBody = ⊥

-- holds if the last procedure may end here: it has an instruction
abbrev pub IsWhole : ParserState → Type 0
IsWhole s = (s.stage ≡ InBody) × (0 < s.instructions)

abbrev pub MayFollow : Statement → ParserState → Type 0
MayFollow (OfVersion version) s = s.stage ≡ Start
MayFollow (Head kind params) s = (IsOutset s.stage ⊎ IsWhole s) × (s.procedures < 64)
MayFollow (Registers registers) s = s.stage ≡ AfterHead
MayFollow (Label name) s = (s.stage ≡ InBody) × (Contains s.labels name → ⊥)
MayFollow (Code i) s = (s.stage ≡ InBody) × (s.instructions < 4096)

-- ---- lines that are allowed

-- holds if the line has this statement, which is allowed in the state, or has no words
abbrev pub HasStatement : ParserState → List ℕ → Option Statement → Type 0
HasStatement s line None = IsLine [] line
HasStatement s line (Some statement) = ((words : List Word) × IsLine words line × EncodesInLimits s.version statement words) × MayFollow statement s

abbrev pub after_line : ℕ → Option Statement → ParserState → ParserState
after_line number None s = s
after_line number (Some statement) s = after number statement s

-- holds if the lines, the first with this number, have these statements, and each is allowed in its state
abbrev pub HaveStatements : ℕ → ParserState → List (List ℕ) → List (Option Statement) → Type 0
HaveStatements number s [] [] = Unit {0}
HaveStatements number s [] (said ∷ others) = ⊥
HaveStatements number s (line ∷ after) [] = ⊥
HaveStatements number s (line ∷ after) (said ∷ others) = HasStatement s line said × HaveStatements (number + 1) (after_line number said s) after others

-- returns the state after lines with these statements, the first with this number
abbrev pub situation_from : ℕ → ParserState → List (Option Statement) → ParserState
situation_from number s [] = s
situation_from number s (said ∷ others) = situation_from (number + 1) (after_line number said s) others

-- returns the state after the first lines of a text
abbrev pub situation : List (Option Statement) → ParserState
situation said = situation_from 1 at_start said

-- ---- the fault of a line

-- holds if a line that begins so is allowed at this stage
abbrev pub MayBegin : Stage → First → Type 0
MayBegin Start expected = (expected ≡ first.Version) ⊎ (expected ≡ first.Head)
MayBegin AfterVersion expected = expected ≡ first.Head
MayBegin AfterHead expected = expected ≡ first.Registers
MayBegin InBody expected = (expected ≡ first.Head) ⊎ (expected ≡ first.Body)

-- holds if the first word of the line begins a statement that is allowed here
abbrev pub Begins : ParserState → List ℕ → First → Type 0
Begins s line expected = (word rest : List ℕ) × IsFirstWord (Bare word) line rest × IsExpected s.version expected word × MayBegin s.stage expected

-- holds if the words of the line have the form of a statement, within the limits or not
abbrev pub HasWords : Version → List ℕ → Type 0
HasWords version line = (words : List Word) × IsLine words line × HaveForm version words

-- holds if a procedure has begun and has no instruction
abbrev pub IsEmpty : ParserState → Type 0
IsEmpty s = (s.stage ≡ InBody) × (s.instructions ≡ 0)

-- a fault of the line with this number, and the line that is reported
pub data LineFault (number : ℕ) (s : ParserState) (line : List ℕ) : FaultNo → ℕ → Type 0 where
  -- it has something, but no first word that is allowed here
  word : (IsLine [] line → ⊥) → ((expected : First) → Begins s line expected → ⊥) → LineFault number s line fault.Word number
  operand : (expected : First) → Begins s line expected → (HasWords s.version line → ⊥) → LineFault number s line fault.Operand number
  label_twice : (name : List ℕ) (words : List Word) → s.stage ≡ InBody → IsLine words line → EncodesInLimits s.version (Label name) words
      → Contains s.labels name → LineFault number s line fault.LabelTwice number
  -- a procedure without instructions is found at the next head, and reported at its own
  empty : Begins s line first.Head → HasWords s.version line → IsEmpty s → LineFault number s line fault.Limit s.head_line
  limit : (expected : First) → Begins s line expected → HasWords s.version line → (expected ≡ first.Head → IsEmpty s → ⊥)
      → ((statement : Statement) (words : List Word) → IsLine words line → EncodesInLimits s.version statement words → ⊥)
      → LineFault number s line fault.Limit number
  procedures : Begins s line first.Head → HasWords s.version line → (IsEmpty s → ⊥) → 64 ≤ s.procedures → LineFault number s line fault.Limit number
  instructions : (i : Instr) (words : List Word) → s.stage ≡ InBody → IsLine words line → EncodesInLimits s.version (Code i) words
      → 4096 ≤ s.instructions → LineFault number s line fault.Limit number

-- the first line that isn't allowed, and is read last
pub record IsLineFault (text : List ℕ) (no : FaultNo) (at : ℕ) (found : Option ℕ) : Type 0 where
  pub before : List (List ℕ)
  pub line : List ℕ
  pub others : List (List ℕ)
  pub parts : lines text ≡ before ++ (line ∷ others)
  pub said : List (Option Statement)
  pub say : HaveStatements 1 at_start before said
  pub wrong : LineFault (length before + 1) (situation said) line no at
  pub found_is : found ≡ Some (length before + 1)

-- holds if there is no procedure, or the last one has no instruction
abbrev pub IsUnfinished : ParserState → ℕ → Type 0
IsUnfinished s at = (IsOutset s.stage × (at ≡ 1)) ⊎ ((IsOutset s.stage → ⊥) × (s.instructions ≡ 0) × (at ≡ s.head_line))

-- a text whose lines are all allowed, but which may not end there
pub record IsEndFault (text : List ℕ) (no : FaultNo) (at : ℕ) : Type 0 where
  pub said : List (Option Statement)
  pub say : HaveStatements 1 at_start (lines text) said
  pub number : no ≡ fault.Limit
  pub unfinished : IsUnfinished (situation said) at

-- ---- goals

-- returns the labels of these statements, up to the next head
abbrev pub labels_ahead : List (Option Statement) → List (List ℕ)
labels_ahead [] = []
labels_ahead (None ∷ others) = labels_ahead others
labels_ahead (Some (OfVersion version) ∷ others) = labels_ahead others
labels_ahead (Some (Head kind params) ∷ others) = []
labels_ahead (Some (Registers registers) ∷ others) = labels_ahead others
labels_ahead (Some (Label name) ∷ others) = name ∷ labels_ahead others
labels_ahead (Some (Code i) ∷ others) = labels_ahead others

-- the line names a label as its goal that isn't in the procedure, or that is before it
pub data GoalFault (s : ParserState) (ahead : List (List ℕ)) (line : List ℕ) : FaultNo → Type 0 where
  unknown : (name : List ℕ) (words : List Word) → IsLine words line → NamesLabel s.version name words → (Contains s.labels name → ⊥)
      → (Contains ahead name → ⊥) → GoalFault s ahead line fault.UnknownLabel
  not_forward : (name : List ℕ) (words : List Word) → IsLine words line → NamesLabel s.version name words → Contains s.labels name
      → GoalFault s ahead line fault.LabelNotForward

-- a text that may end, and in which the line of this number has such a goal
pub record IsGoalFault (text : List ℕ) (no : FaultNo) (at : ℕ) : Type 0 where
  pub said : List (Option Statement)
  pub say : HaveStatements 1 at_start (lines text) said
  pub whole : IsWhole (situation said)
  pub index : ℕ
  pub at_is : at ≡ index + 1
  pub line : List ℕ
  pub line_is : slice_get (lines text) index ≡ Some line
  pub wrong : GoalFault (situation (take index said)) (labels_ahead (drop (index + 1) said)) line no

-- holds if also no line before it has such a fault
abbrev pub IsFirstGoalFault : List ℕ → FaultNo → ℕ → Type 0
IsFirstGoalFault text which at = IsGoalFault text which at × ((other : FaultNo) (number : ℕ) → IsGoalFault text other number → at ≤ number)

-- holds if this is the first fault of the text, the number of its line, from 1, and that of the line which was read last when it was found, if not all were
abbrev pub IsFirstFault : List ℕ → FaultNo → ℕ → Option ℕ → Type 0
IsFirstFault text which at found = IsLineFault text which at found ⊎ ((found ≡ None) × (IsEndFault text which at ⊎ IsFirstGoalFault text which at))
