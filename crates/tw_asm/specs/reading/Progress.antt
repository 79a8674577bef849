-- The state of the reader of lines.
use Rattle.std.specs.Prelude.{◌≡◌, ◌⊎◌, ℕ, ◌+◌, ◌<◌, ◌≤◌, List, [], ◌∷◌, ◌++◌, length, map, Option, Some, None, Result, Ok, Err}
use Rattle.std.specs.Borrow.{Bor}
use Rattle.std.specs.List.{Contains}
use Rattle.std.specs.Str.Lines.{lines}
use Rattle.tw_types.specs.declared.actor.Kind.{Kind}
use Rattle.tw_types.specs.declared.data_type.Scalar.{Scalar}
use Rattle.tw_types.specs.declared.param.Param.{Param}
use Rattle.tw_code.specs.declared.instr.Instr.{Instr}
use Rattle.tw_code.specs.declared.version.Version.{Version}
use Rattle.tw_code.specs.declared.version.Version.TheVariants.{One}
use Rattle.tw_lexer.specs.Words.{IsLine, Word}
use Rattle.tw_lexer.specs.declared.numbers.TokenError.{TokenError}
use Rattle.tw_lexer.specs.declared.numbers.TokenError.TheVariants as flaw
use Rattle.tw_asm.specs.declared.statement.First.{First}
use Rattle.tw_asm.specs.declared.statement.First.TheVariants as first
use Rattle.tw_asm.specs.declared.statement.Statement as statements
use Rattle.tw_asm.specs.Seen.{Read, IsRead, bytes_of, seen}
use Rattle.tw_asm.specs.Statement.{Statement, OfVersion, Head, Registers, Label, Code}
use Rattle.tw_code.specs.format.Versions.{version_by}
use Rattle.tw_asm.specs.declared.fault.AsmFault.{AsmFault}
use Rattle.tw_asm.specs.declared.fault.FaultNo.TheVariants as fault
use Rattle.tw_asm.specs.declared.reading.UnlinkedLine as draft_lines
use Rattle.tw_asm.specs.declared.reading.Reading as readings
use Rattle.tw_asm.specs.declared.reading.Section as sections
use Rattle.tw_asm.specs.declared.reading.Stage as stages
use Rattle.tw_asm.specs.declared.reading.Stage.TheVariants as stage
use Rattle.tw_asm.specs.Fault.{Stage, Start, AfterVersion, AfterHead, InBody, ParserState, MayBegin, MayFollow, LineFault, IsEndFault, IsLineFault, IsUnfinished, IsWhole}
use Rattle.tw_asm.specs.Spelling.{Placed}
use Rattle.tw_asm.specs.reading.Expected.{expectation}

-- an instruction, the label that it names, and the number of its line
pub record Drafted : Type 0 where
  pub instr : Instr
  pub goal : Option (List ℕ)
  pub number : ℕ

pub record Section : Type 0 where
  pub kind : Kind
  pub params : List Param
  pub registers : List Scalar
  pub labels : List Placed
  pub drafts : List Drafted

pub data Place : Type 0 where
  AtStart : Place
  VersionRead : Place
  HeadRead : Kind → List Param → Place
  Within : Section → Place

pub record Progress : Type 0 where
  pub version : Version
  pub sections : List Section
  pub head_line : ℕ
  pub place : Place

-- ---- how the code's values are seen

abbrev pub seen_label : Bor (List ℕ) × ℕ → Placed
seen_label entry = record { name = entry.0.now; place = entry.1 }

abbrev pub seen_draft : draft_lines.UnlinkedLine → Drafted
seen_draft line = record { instr = line.draft.instr; goal = bytes_of line.draft.goal; number = line.number }

abbrev pub seen_section : sections.Section → Section
seen_section section = record { kind = section.kind; params = section.params; registers = section.registers; labels = map seen_label section.labels.entries; drafts = map seen_draft section.drafts.items }

abbrev pub seen_stage : stages.Stage → Place
seen_stage stage.Start = AtStart
seen_stage stage.AfterVersion = VersionRead
seen_stage (stage.AfterHead kind params) = HeadRead kind params
seen_stage (stage.InBody section) = Within (seen_section section)

abbrev pub seen_reading : readings.Reading → Progress
seen_reading reading = record { version = reading.version; sections = map seen_section reading.sections.items; head_line = reading.head_line; place = seen_stage reading.stage }

-- returns the lines of the instructions
abbrev pub section_numbers : Section → List ℕ
section_numbers section = map (λ draft. draft.number) section.drafts

-- ---- the parser's state

abbrev pub stage_of : Place → Stage
stage_of AtStart = Start
stage_of VersionRead = AfterVersion
stage_of (HeadRead kind params) = AfterHead
stage_of (Within section) = InBody

abbrev pub begun : Place → ℕ
begun AtStart = 0
begun VersionRead = 0
begun (HeadRead kind params) = 1
begun (Within section) = 1

abbrev pub labels_at : Place → List Placed
labels_at AtStart = []
labels_at VersionRead = []
labels_at (HeadRead kind params) = []
labels_at (Within section) = section.labels

abbrev pub drafts_at : Place → List Drafted
drafts_at AtStart = []
drafts_at VersionRead = []
drafts_at (HeadRead kind params) = []
drafts_at (Within section) = section.drafts

abbrev pub situation_of : Progress → ParserState
situation_of p = record { version = p.version; stage = stage_of p.place; procedures = length p.sections + begun p.place; head_line = p.head_line; labels = map (λ label. label.name) (labels_at p.place); instructions = length (drafts_at p.place) }

-- ---- steps

-- returns the sections that are complete when another one begins
abbrev pub ended : List Section → Place → List Section
ended sections AtStart = sections
ended sections VersionRead = sections
ended sections (HeadRead kind params) = sections
ended sections (Within section) = sections ++ (section ∷ [])

abbrev pub with_types : List Scalar → Place → Place
with_types registers AtStart = AtStart
with_types registers VersionRead = VersionRead
with_types registers (HeadRead kind params) = Within (record { kind = kind; params = params; registers = registers; labels = []; drafts = [] })
with_types registers (Within section) = Within section

abbrev pub labelled : List ℕ → Section → Section
labelled name section = record section { labels = section.labels ++ (record { name = name; place = length section.drafts } ∷ []) }

abbrev pub drafted : Drafted → Section → Section
drafted draft section = record section { drafts = section.drafts ++ (draft ∷ []) }

abbrev pub in_section : (Section → Section) → Place → Place
in_section f AtStart = AtStart
in_section f VersionRead = VersionRead
in_section f (HeadRead kind params) = HeadRead kind params
in_section f (Within section) = Within (f section)

-- returns the progress after a statement in the line with this number, which names this goal
abbrev pub step : ℕ → Statement → Option (List ℕ) → Progress → Progress
step number (OfVersion version) goal p = record p { version = version_by version; place = VersionRead }
step number (Head kind params) goal p = record { version = p.version; sections = ended p.sections p.place; head_line = number; place = HeadRead kind params }
step number (Registers registers) goal p = record p { place = with_types registers p.place }
step number (Label name) goal p = record p { place = in_section (labelled name) p.place }
step number (Code i) goal p = record p { place = in_section (drafted (record { instr = i; goal = goal; number = number })) p.place }

abbrev pub line_step : ℕ → Option Read → Progress → Progress
line_step number None p = p
line_step number (Some read) p = step number read.statement read.goal p

abbrev pub progress_from : ℕ → Progress → List (Option Read) → Progress
progress_from number p [] = p
progress_from number p (read ∷ others) = progress_from (number + 1) (line_step number read p) others

abbrev pub outset : Progress
outset = record { version = One; sections = []; head_line = 0; place = AtStart }

-- ---- lines that are read

-- holds if only an instruction names a goal
abbrev pub IsGoalOf : Statement → Option (List ℕ) → Type 0
IsGoalOf (OfVersion version) goal = goal ≡ None
IsGoalOf (Head kind params) goal = goal ≡ None
IsGoalOf (Registers registers) goal = goal ≡ None
IsGoalOf (Label name) goal = goal ≡ None
IsGoalOf (Code i) goal = Unit {0}

abbrev pub LineRead : ParserState → List ℕ → Option Read → Type 0
LineRead s line None = IsLine [] line
LineRead s line (Some read) = ((words : List Word) × IsLine words line × IsRead s.version read words) × MayFollow read.statement s × IsGoalOf read.statement read.goal

-- holds if the lines, the first with this number, are read as this
abbrev pub LinesRead : ℕ → Progress → List (List ℕ) → List (Option Read) → Type 0
LinesRead number p [] [] = Unit {0}
LinesRead number p [] (read ∷ others) = ⊥
LinesRead number p (line ∷ after) [] = ⊥
LinesRead number p (line ∷ after) (read ∷ others) = LineRead (situation_of p) line read × LinesRead (number + 1) (line_step number read p) after others

-- ---- results of functions

abbrev pub IsMemory : AsmFault → Type 0
IsMemory f = (f.no ≡ fault.NoMemory) × (f.line ≡ 0)

abbrev pub IsLimit : AsmFault → ℕ → Type 0
IsLimit f at = (f.no ≡ fault.Limit) × (f.line ≡ at) × (f.found ≡ None)

abbrev pub IsEmptyAt : Place → Type 0
IsEmptyAt AtStart = ⊥
IsEmptyAt VersionRead = ⊥
IsEmptyAt (HeadRead kind params) = ⊥
IsEmptyAt (Within section) = length section.drafts ≡ 0

-- holds if a limit is reported at this line: that of the head of an empty procedure, which another head would end, or else the line itself
abbrev pub IsLimitLine : Progress → First → ℕ → ℕ → Type 0
IsLimitLine p expected number at = ((expected ≡ first.Head) × IsEmptyAt p.place × (at ≡ p.head_line)) ⊎ ((expected ≡ first.Head → IsEmptyAt p.place → ⊥) × (at ≡ number))

-- holds for the fault of a line that begins so, and whose words have this error
abbrev pub IsFlawFault : Progress → First → ℕ → TokenError → AsmFault → Type 0
IsFlawFault p expected number flaw.Form f = (f.no ≡ fault.Operand) × (f.line ≡ number)
IsFlawFault p expected number flaw.Limit f = (f.no ≡ fault.Limit) × IsLimitLine p expected number f.line

-- holds if this is the statement of the line, if any, and it is allowed at this stage; or its fault
abbrev pub WordsRead : Progress → ℕ → List ℕ → Result (Option statements.Statement) AsmFault → Type 0
WordsRead p number line (Ok None) = IsLine [] line
WordsRead p number line (Ok (Some statement)) = ((words : List Word) × IsLine words line × IsRead p.version (seen statement) words) × MayBegin (stage_of p.place) (expectation (seen statement).statement)
WordsRead p number line (Err f) = IsMemory f ⊎ LineFault number (situation_of p) line f.no f.line

abbrev pub Stopped : Progress → ℕ → Read → AsmFault → Type 0
Stopped p number read f = IsMemory f ⊎ ((line : List ℕ) (words : List Word) → IsLine words line → IsRead p.version read words → LineFault number (situation_of p) line f.no f.line)

abbrev pub TakenStatement : Progress → ℕ → Read → Result readings.Reading AsmFault → Type 0
TakenStatement p number read (Ok reading) = MayFollow read.statement (situation_of p) × (seen_reading reading ≡ step number read.statement read.goal p)
TakenStatement p number read (Err f) = Stopped p number read f

abbrev pub TakenLine : Progress → ℕ → List ℕ → Result readings.Reading AsmFault → Type 0
TakenLine p number line (Ok reading) = (read : Option Read) × LineRead (situation_of p) line read × (seen_reading reading ≡ line_step number read p)
TakenLine p number line (Err f) = IsMemory f ⊎ LineFault number (situation_of p) line f.no f.line

-- holds if these are the sections when another one begins, and the last of them has an instruction
abbrev pub AreClosed : List Section → Place → List Section → Type 0
AreClosed sections place all = (all ≡ ended sections place) × (IsEmptyAt place → ⊥)

abbrev pub IsNotClosed : Place → ℕ → AsmFault → Type 0
IsNotClosed place head_line f = IsMemory f ⊎ (IsLimit f head_line × IsEmptyAt place)

abbrev pub LabelAdded : List Placed → List Placed → List ℕ → ℕ → Result (Unit {0}) AsmFault → ℕ → Type 0
LabelAdded old new name place (Ok done) number = (Contains (map (λ label. label.name) old) name → ⊥) × (new ≡ old ++ (record { name = name; place = place } ∷ []))
LabelAdded old new name place (Err f) number = IsMemory f ⊎ ((f.no ≡ fault.LabelTwice) × (f.line ≡ number) × Contains (map (λ label. label.name) old) name)

abbrev pub WithLabel : Section → Section → ℕ → List ℕ → Result (Unit {0}) AsmFault → Type 0
WithLabel section new number name (Ok done) = (Contains (map (λ label. label.name) section.labels) name → ⊥) × (new ≡ labelled name section)
WithLabel section new number name (Err f) = IsMemory f ⊎ ((f.no ≡ fault.LabelTwice) × (f.line ≡ number) × Contains (map (λ label. label.name) section.labels) name)

abbrev pub WithDraft : Section → Section → Drafted → Result (Unit {0}) AsmFault → Type 0
WithDraft section new draft (Ok done) = (length section.drafts < 4096) × (new ≡ drafted draft section)
WithDraft section new draft (Err f) = IsMemory f ⊎ (IsLimit f draft.number × (4096 ≤ length section.drafts))

-- all lines of the text are read
pub record AreTextRead (ls : List (List ℕ)) (p : Progress) : Type 0 where
  pub reads : List (Option Read)
  pub are_read : LinesRead 1 outset ls reads
  pub progress : p ≡ progress_from 1 outset reads

abbrev pub LinesAreRead : List ℕ → Result readings.Reading AsmFault → Type 0
LinesAreRead text (Ok reading) = AreTextRead (lines text) (seen_reading reading)
LinesAreRead text (Err f) = IsMemory f ⊎ IsLineFault text f.no f.line f.found

-- holds if the last section is complete too
abbrev pub AreFinished : Progress → List Section → Type 0
AreFinished p all = IsWhole (situation_of p) × (all ≡ ended p.sections p.place)

abbrev pub IsNotFinished : Progress → AsmFault → Type 0
IsNotFinished p f = IsMemory f ⊎ ((f.no ≡ fault.Limit) × IsUnfinished (situation_of p) f.line × (f.found ≡ None))

-- the text may end, and has this version and these procedures
pub record HasSections (text : List ℕ) (version : Version) (all : List Section) : Type 0 where
  pub p : Progress
  pub read : AreTextRead (lines text) p
  pub whole : IsWhole (situation_of p)
  pub version_is : version ≡ p.version
  pub sections_are : all ≡ ended p.sections p.place

abbrev pub AreNotRead : List ℕ → AsmFault → Type 0
AreNotRead text f = IsMemory f ⊎ (IsLineFault text f.no f.line f.found ⊎ ((f.found ≡ None) × IsEndFault text f.no f.line))
