-- How contracts see the code's statements, also those whose label isn't resolved yet.
use Rattle.std.specs.Borrow.{Bor}
use Rattle.std.specs.Prelude.{◌≡◌, ℕ, List, Option, Some, None}
use Rattle.tw_code.specs.declared.instr.DataInstr.{DataInstr}
use Rattle.tw_code.specs.declared.instr.DataInstr.TheVariants as on_data
use Rattle.tw_code.specs.declared.instr.Instr.{Instr}
use Rattle.tw_code.specs.declared.instr.Instr.TheVariants as instr
use Rattle.tw_code.specs.declared.instr.LocalInstr.{LocalInstr}
use Rattle.tw_code.specs.declared.instr.LocalInstr.TheVariants as local
use Rattle.tw_code.specs.declared.version.Version.{Version}
use Rattle.tw_lexer.specs.Words.{Word}
use Rattle.tw_asm.specs.declared.statement.Statement as statements
use Rattle.tw_asm.specs.declared.statement.Statement.TheVariants as statement
use Rattle.tw_asm.specs.Statement.{Statement, OfVersion, Head, Registers, Label, Code, Goals, Encodes, IsInLimits, IsShortName, NamesLabel}
use Rattle.tw_code.specs.format.Versions.{version_number}

-- a statement, and the label that it names, if it is an instruction
pub record Read : Type 0 where
  pub statement : Statement
  pub goal : Option (List ℕ)

abbrev pub bytes_of : Option (Bor (List ℕ)) → Option (List ℕ)
bytes_of None = None
bytes_of (Some name) = Some name.now

abbrev pub seen : statements.Statement → Read
seen (statement.Version version) = record { statement = OfVersion (version_number version); goal = None }
seen (statement.Head kind params) = record { statement = Head kind params; goal = None }
seen (statement.Registers registers) = record { statement = Registers registers; goal = None }
seen (statement.Label name) = record { statement = Label name.now; goal = None }
seen (statement.Code draft) = record { statement = Code draft.instr; goal = bytes_of draft.goal }

-- holds for this name alone; its skip is 0 until the label is resolved
abbrev pub OnlyName : List ℕ → Goals
OnlyName name skip word = (skip ≡ 0) × (word ≡ name)

abbrev pub NoName : Goals
NoName skip word = ⊥

-- Holds if the words denote this statement, within the limits. If it names a label, they denote no statement without a label.
abbrev pub IsRead : Version → Read → List Word → Type 0
IsRead version read words = IsInLimits read.statement × spelled read.goal
  where
    spelled : Option (List ℕ) → Type 0
    spelled None = Encodes version NoName read.statement words
    spelled (Some name) = IsShortName name × Encodes version (OnlyName name) read.statement words × NamesLabel version name words

-- ---- an instruction with another skip, if it has one

abbrev pub local_with_skip : ℕ → LocalInstr → LocalInstr
local_with_skip skip (local.Compute operation to left right old) = local.Compute operation to left right skip
local_with_skip skip (local.Concatenate to left right old) = local.Concatenate to left right skip
local_with_skip skip (local.ReadInt to from old) = local.ReadInt to from skip
local_with_skip skip (local.Jump old) = local.Jump skip
local_with_skip skip (local.JumpEqual left right old) = local.JumpEqual left right skip
local_with_skip skip (local.JumpLess left right old) = local.JumpLess left right skip
local_with_skip skip (local.ByteAt to from place old) = local.ByteAt to from place skip
local_with_skip skip (local.Slice to from start end old) = local.Slice to from start end skip
local_with_skip skip (local.Seek sought to text pattern start old) = local.Seek sought to text pattern start skip
local_with_skip skip (local.MultiplyDivide to left right divisor old) = local.MultiplyDivide to left right divisor skip
local_with_skip skip (local.JumpTextLess left right old) = local.JumpTextLess left right skip
local_with_skip skip i = i

abbrev pub data_with_skip : ℕ → DataInstr → DataInstr
data_with_skip skip (on_data.Insert by container subscript member old) = on_data.Insert by container subscript member skip
data_with_skip skip (on_data.Look by member container subscript old) = on_data.Look by member container subscript skip
data_with_skip skip (on_data.SubscriptAt by to container index old) = on_data.SubscriptAt by to container index skip
data_with_skip skip (on_data.InsertValue map subscript from old) = on_data.InsertValue map subscript from skip
data_with_skip skip (on_data.GetValue to map subscript old) = on_data.GetValue to map subscript skip
data_with_skip skip i = i

abbrev pub with_skip : ℕ → Instr → Instr
with_skip skip (instr.Local i) = instr.Local (local_with_skip skip i)
with_skip skip (instr.Data i) = instr.Data (data_with_skip skip i)
with_skip skip i = i
