-- The table of instructions. Each opcode has a code, the forms of its operands, in the order of bytes and of assembly, and the
-- instruction that they make. It also has the first version with it, and a name in assembly.
-- Each instruction has an opcode and operands. The encoding of an operand in bytes is in `Spelling`, and in assembly in tw_asm's Parts.
use Rattle.std.specs.Prelude.{ℕ, ℤ, Bool, List, [], ◌∷◌, Option, Some, None, codes, ◌==◌, if◌then◌else◌}
use Rattle.std.specs.List.{find}
use Rattle.std.specs.Str.{bytes_eq}
use Rattle.tw_code.specs.declared.form.Form.{Form}
use Rattle.tw_code.specs.declared.form.Form.TheVariants.{Value, Right, Number, Iterations, Literal, TypeOf, Skip, Callee, Target, Args}
use Rattle.tw_code.specs.declared.instr.Action.{Action}
use Rattle.tw_code.specs.declared.instr.Arithmetic.{Arithmetic}
use Rattle.tw_code.specs.declared.instr.Arithmetic.TheVariants as operation
use Rattle.tw_code.specs.declared.instr.DataInstr.{DataInstr}
use Rattle.tw_code.specs.declared.instr.DataInstr.TheVariants as on_data
use Rattle.tw_code.specs.declared.instr.Instr.{Instr}
use Rattle.tw_code.specs.declared.instr.Instr.TheVariants as instr
use Rattle.tw_code.specs.declared.instr.LocalInstr.{LocalInstr}
use Rattle.tw_code.specs.declared.instr.LocalInstr.TheVariants as local
use Rattle.tw_code.specs.declared.instr.Priority.{Priority}
use Rattle.tw_code.specs.declared.instr.Priority.TheVariants.{Constant, Computed}
use Rattle.tw_code.specs.declared.instr.Sought.{Sought}
use Rattle.tw_code.specs.declared.instr.Sought.TheVariants as sought
use Rattle.tw_code.specs.declared.opcode.Opcode.{Opcode}
use Rattle.tw_code.specs.declared.opcode.Opcode.TheVariants as opcode
use Rattle.tw_code.specs.declared.opcode.TheConstants.{OPCODES}
use Rattle.tw_code.specs.declared.version.Version.{Version}
use Rattle.tw_code.specs.declared.version.Version.TheVariants.{One, Two, Four, Five}
use Rattle.tw_code.specs.format.Versions.{has_since}
use Rattle.tw_types.specs.Nesting.{NestedScalar}
use Rattle.tw_types.specs.declared.data_type.Scalar.{Scalar}
use Rattle.tw_types.specs.declared.data_type.Scalar.TheVariants.{Int, Text}

-- ---- operands

-- the content of an operand of a form
abbrev pub Content : Form → Type 0
Content Value = ℕ
Content Right = ℕ
Content Number = ℤ
Content Iterations = ℕ
Content Literal = List ℕ
Content TypeOf = NestedScalar
Content Skip = ℕ
Content Callee = ℕ
Content Target = Option ℕ
Content Args = List ℕ

abbrev pub Contents : List Form → Type 0
Contents [] = Unit {0}
Contents (form ∷ forms) = Content form × Contents forms

pub data Operand : Type 0 where
  holds : (form : Form) → Content form → Operand

-- ---- one line for each opcode

-- a code, the forms of the operands, and the instruction that they make
pub data Row : Type 0 where
  a_row : ℕ → (forms : List Form) → (Contents forms → Instr) → Row

-- returns the task that RULE and PUT name, with the priority that `make` makes of its operand
abbrev pub action_of : {P : Type 0} → (P → Priority) → ℕ × (P × (Option ℕ × (List ℕ × Unit {0}))) → Action
action_of make x = record { procedure = x.0; priority = make x.1.0; target = x.1.1.0; args = x.1.1.1.0 }

abbrev pub row_of : Opcode → Row
row_of opcode.Int = a_row 0x01 (Value ∷ Number ∷ []) (λ x. instr.Local (local.Int x.0 x.1.0))
row_of opcode.Text = a_row 0x02 (Value ∷ Literal ∷ []) (λ x. instr.Local (local.Text x.0 x.1.0))
row_of opcode.Copy = a_row 0x03 (Value ∷ Value ∷ []) (λ x. instr.Local (local.Copy x.0 x.1.0))
row_of opcode.Add = a_row 0x10 (Value ∷ Value ∷ Value ∷ Skip ∷ []) (λ x. instr.Local (local.Compute operation.Add x.0 x.1.0 x.1.1.0 x.1.1.1.0))
row_of opcode.Subtract = a_row 0x11 (Value ∷ Value ∷ Value ∷ Skip ∷ []) (λ x. instr.Local (local.Compute operation.Subtract x.0 x.1.0 x.1.1.0 x.1.1.1.0))
row_of opcode.Multiply = a_row 0x12 (Value ∷ Value ∷ Value ∷ Skip ∷ []) (λ x. instr.Local (local.Compute operation.Multiply x.0 x.1.0 x.1.1.0 x.1.1.1.0))
row_of opcode.Divide = a_row 0x13 (Value ∷ Value ∷ Value ∷ Skip ∷ []) (λ x. instr.Local (local.Compute operation.Divide x.0 x.1.0 x.1.1.0 x.1.1.1.0))
row_of opcode.Remainder = a_row 0x14 (Value ∷ Value ∷ Value ∷ Skip ∷ []) (λ x. instr.Local (local.Compute operation.Remainder x.0 x.1.0 x.1.1.0 x.1.1.1.0))
row_of opcode.Concatenate = a_row 0x18 (Value ∷ Value ∷ Value ∷ Skip ∷ []) (λ x. instr.Local (local.Concatenate x.0 x.1.0 x.1.1.0 x.1.1.1.0))
row_of opcode.Length = a_row 0x19 (Value ∷ Value ∷ []) (λ x. instr.Local (local.Length x.0 x.1.0))
row_of opcode.Show = a_row 0x1a (Value ∷ Value ∷ []) (λ x. instr.Local (local.Show x.0 x.1.0))
row_of opcode.ReadInt = a_row 0x1b (Value ∷ Value ∷ Skip ∷ []) (λ x. instr.Local (local.ReadInt x.0 x.1.0 x.1.1.0))
row_of opcode.Jump = a_row 0x20 (Skip ∷ []) (λ x. instr.Local (local.Jump x.0))
row_of opcode.JumpEqual = a_row 0x21 (Value ∷ Value ∷ Skip ∷ []) (λ x. instr.Local (local.JumpEqual x.0 x.1.0 x.1.1.0))
row_of opcode.JumpLess = a_row 0x22 (Value ∷ Value ∷ Skip ∷ []) (λ x. instr.Local (local.JumpLess x.0 x.1.0 x.1.1.0))
row_of opcode.Repeat = a_row 0x23 (Iterations ∷ []) (λ x. instr.Local (local.Repeat x.0))
row_of opcode.End = a_row 0x24 [] (λ x. instr.Local local.End)
row_of opcode.Last = a_row 0x2b [] (λ x. instr.Local local.Last)
row_of opcode.New = a_row 0x30 (Right ∷ Right ∷ TypeOf ∷ []) (λ x. instr.Data (on_data.New x.0 x.1.0 x.1.1.0))
row_of opcode.Store = a_row 0x31 (Right ∷ Value ∷ []) (λ x. instr.Data (on_data.Store x.0 x.1.0))
row_of opcode.Get = a_row 0x32 (Value ∷ Right ∷ []) (λ x. instr.Data (on_data.Get x.0 x.1.0))
row_of opcode.Insert = a_row 0x33 (Right ∷ Value ∷ Right ∷ Skip ∷ []) (λ x. instr.Data (on_data.Insert Int x.0 x.1.0 x.1.1.0 x.1.1.1.0))
row_of opcode.Look = a_row 0x34 (Right ∷ Right ∷ Value ∷ Skip ∷ []) (λ x. instr.Data (on_data.Look Int x.0 x.1.0 x.1.1.0 x.1.1.1.0))
row_of opcode.Size = a_row 0x35 (Value ∷ Right ∷ []) (λ x. instr.Data (on_data.Size x.0 x.1.0))
row_of opcode.SubscriptAt = a_row 0x36 (Value ∷ Right ∷ Value ∷ Skip ∷ []) (λ x. instr.Data (on_data.SubscriptAt Int x.0 x.1.0 x.1.1.0 x.1.1.1.0))
row_of opcode.CopyRead = a_row 0x37 (Right ∷ Right ∷ []) (λ x. instr.Data (on_data.CopyRead x.0 x.1.0))
row_of opcode.CopyWrite = a_row 0x38 (Right ∷ Right ∷ []) (λ x. instr.Data (on_data.CopyWrite x.0 x.1.0))
row_of opcode.DropRead = a_row 0x39 (Right ∷ []) (λ x. instr.Data (on_data.DropRead x.0))
row_of opcode.DropWrite = a_row 0x3a (Right ∷ []) (λ x. instr.Data (on_data.DropWrite x.0))
row_of opcode.Rule = a_row 0x40 (Callee ∷ Number ∷ Target ∷ Args ∷ []) (λ x. instr.Rule (action_of Constant x))
row_of opcode.Put = a_row 0x41 (Callee ∷ Number ∷ Target ∷ Args ∷ []) (λ x. instr.Put (action_of Constant x))
row_of opcode.Ret = a_row 0x42 [] (λ x. instr.Ret)
row_of opcode.InsertByText = a_row 0x50 (Right ∷ Value ∷ Right ∷ Skip ∷ []) (λ x. instr.Data (on_data.Insert Text x.0 x.1.0 x.1.1.0 x.1.1.1.0))
row_of opcode.LookByText = a_row 0x51 (Right ∷ Right ∷ Value ∷ Skip ∷ []) (λ x. instr.Data (on_data.Look Text x.0 x.1.0 x.1.1.0 x.1.1.1.0))
row_of opcode.SubscriptAtByText = a_row 0x52 (Value ∷ Right ∷ Value ∷ Skip ∷ []) (λ x. instr.Data (on_data.SubscriptAt Text x.0 x.1.0 x.1.1.0 x.1.1.1.0))
row_of opcode.RuleComputed = a_row 0x53 (Callee ∷ Value ∷ Target ∷ Args ∷ []) (λ x. instr.Rule (action_of Computed x))
row_of opcode.PutComputed = a_row 0x54 (Callee ∷ Value ∷ Target ∷ Args ∷ []) (λ x. instr.Put (action_of Computed x))
row_of opcode.InsertValue = a_row 0x60 (Right ∷ Value ∷ Value ∷ Skip ∷ []) (λ x. instr.Data (on_data.InsertValue x.0 x.1.0 x.1.1.0 x.1.1.1.0))
row_of opcode.GetValue = a_row 0x61 (Value ∷ Right ∷ Value ∷ Skip ∷ []) (λ x. instr.Data (on_data.GetValue x.0 x.1.0 x.1.1.0 x.1.1.1.0))
row_of opcode.AddValue = a_row 0x62 (Right ∷ Value ∷ Value ∷ []) (λ x. instr.Data (on_data.AddValue x.0 x.1.0 x.1.1.0))
row_of opcode.ByteAt = a_row 0x70 (Value ∷ Value ∷ Value ∷ Skip ∷ []) (λ x. instr.Local (local.ByteAt x.0 x.1.0 x.1.1.0 x.1.1.1.0))
row_of opcode.Slice = a_row 0x71 (Value ∷ Value ∷ Value ∷ Value ∷ Skip ∷ []) (λ x. instr.Local (local.Slice x.0 x.1.0 x.1.1.0 x.1.1.1.0 x.1.1.1.1.0))
row_of opcode.Find = a_row 0x72 (Value ∷ Value ∷ Value ∷ Value ∷ Skip ∷ []) (λ x. instr.Local (local.Seek sought.Find x.0 x.1.0 x.1.1.0 x.1.1.1.0 x.1.1.1.1.0))
row_of opcode.Span = a_row 0x73 (Value ∷ Value ∷ Value ∷ Value ∷ Skip ∷ []) (λ x. instr.Local (local.Seek sought.Span x.0 x.1.0 x.1.1.0 x.1.1.1.0 x.1.1.1.1.0))
row_of opcode.Until = a_row 0x74 (Value ∷ Value ∷ Value ∷ Value ∷ Skip ∷ []) (λ x. instr.Local (local.Seek sought.Until x.0 x.1.0 x.1.1.0 x.1.1.1.0 x.1.1.1.1.0))
row_of opcode.MultiplyDivide = a_row 0x75 (Value ∷ Value ∷ Value ∷ Value ∷ Skip ∷ []) (λ x. instr.Local (local.MultiplyDivide x.0 x.1.0 x.1.1.0 x.1.1.1.0 x.1.1.1.1.0))
row_of opcode.And = a_row 0x76 (Value ∷ Value ∷ Value ∷ Skip ∷ []) (λ x. instr.Local (local.Compute operation.And x.0 x.1.0 x.1.1.0 x.1.1.1.0))
row_of opcode.Or = a_row 0x77 (Value ∷ Value ∷ Value ∷ Skip ∷ []) (λ x. instr.Local (local.Compute operation.Or x.0 x.1.0 x.1.1.0 x.1.1.1.0))
row_of opcode.Xor = a_row 0x78 (Value ∷ Value ∷ Value ∷ Skip ∷ []) (λ x. instr.Local (local.Compute operation.Xor x.0 x.1.0 x.1.1.0 x.1.1.1.0))
row_of opcode.ShiftLeft = a_row 0x79 (Value ∷ Value ∷ Value ∷ Skip ∷ []) (λ x. instr.Local (local.Compute operation.ShiftLeft x.0 x.1.0 x.1.1.0 x.1.1.1.0))
row_of opcode.ShiftRight = a_row 0x7a (Value ∷ Value ∷ Value ∷ Skip ∷ []) (λ x. instr.Local (local.Compute operation.ShiftRight x.0 x.1.0 x.1.1.0 x.1.1.1.0))
row_of opcode.WrappingMultiply = a_row 0x7b (Value ∷ Value ∷ Value ∷ Skip ∷ []) (λ x. instr.Local (local.Compute operation.WrappingMultiply x.0 x.1.0 x.1.1.0 x.1.1.1.0))
row_of opcode.WrappingAdd = a_row 0x7c (Value ∷ Value ∷ Value ∷ Skip ∷ []) (λ x. instr.Local (local.Compute operation.WrappingAdd x.0 x.1.0 x.1.1.0 x.1.1.1.0))
row_of opcode.JumpTextLess = a_row 0x7d (Value ∷ Value ∷ Skip ∷ []) (λ x. instr.Local (local.JumpTextLess x.0 x.1.0 x.1.1.0))

abbrev pub code_in : Row → ℕ
code_in (a_row code forms make) = code

abbrev pub forms_in : Row → List Form
forms_in (a_row code forms make) = forms

abbrev pub code_of : Opcode → ℕ
code_of o = code_in (row_of o)

abbrev pub forms_of : Opcode → List Form
forms_of o = forms_in (row_of o)

-- returns the first version that has it
abbrev pub since : Opcode → Version
since opcode.InsertByText = Two
since opcode.LookByText = Two
since opcode.SubscriptAtByText = Two
since opcode.RuleComputed = Two
since opcode.PutComputed = Two
since opcode.InsertValue = Four
since opcode.GetValue = Four
since opcode.AddValue = Four
since opcode.Last = Five
since opcode.ByteAt = Five
since opcode.Slice = Five
since opcode.Find = Five
since opcode.Span = Five
since opcode.Until = Five
since opcode.MultiplyDivide = Five
since opcode.And = Five
since opcode.Or = Five
since opcode.Xor = Five
since opcode.ShiftLeft = Five
since opcode.ShiftRight = Five
since opcode.WrappingMultiply = Five
since opcode.WrappingAdd = Five
since opcode.JumpTextLess = Five
since o = One

abbrev pub has_opcode : Version → Opcode → Bool
has_opcode version o = has_since version (since o)

-- returns the opcode that was found, if the version has it
abbrev pub if_had : Version → Option Opcode → Option Opcode
if_had version None = None
if_had version (Some o) = if has_opcode version o then Some o else None

-- returns the opcode of this code, if the version has one
abbrev pub opcode_at : Version → ℕ → Option Opcode
opcode_at version code = if_had version (find (λ o. code_of o == code) OPCODES)

-- ---- names in assembly

abbrev pub word_of : Opcode → List ℕ
word_of opcode.Int = codes "INT"
word_of opcode.Text = codes "TEXT"
word_of opcode.Copy = codes "COPY"
word_of opcode.Add = codes "ADD"
word_of opcode.Subtract = codes "SUB"
word_of opcode.Multiply = codes "MUL"
word_of opcode.Divide = codes "DIV"
word_of opcode.Remainder = codes "REM"
word_of opcode.Concatenate = codes "CAT"
word_of opcode.Length = codes "LEN"
word_of opcode.Show = codes "SHOW"
word_of opcode.ReadInt = codes "READI"
word_of opcode.Jump = codes "JMP"
word_of opcode.JumpEqual = codes "JEQ"
word_of opcode.JumpLess = codes "JLT"
word_of opcode.Repeat = codes "REPEAT"
word_of opcode.End = codes "END"
word_of opcode.Last = codes "LAST"
word_of opcode.New = codes "NEW"
word_of opcode.Store = codes "STORE"
word_of opcode.Get = codes "GET"
word_of opcode.Insert = codes "INS"
word_of opcode.Look = codes "LOOK"
word_of opcode.Size = codes "SIZE"
word_of opcode.SubscriptAt = codes "SUBAT"
word_of opcode.CopyRead = codes "DUPR"
word_of opcode.CopyWrite = codes "DUPW"
word_of opcode.DropRead = codes "DROPR"
word_of opcode.DropWrite = codes "DROPW"
word_of opcode.Rule = codes "RULE"
word_of opcode.Put = codes "PUT"
word_of opcode.Ret = codes "RET"
word_of opcode.InsertByText = codes "TINS"
word_of opcode.LookByText = codes "TLOOK"
word_of opcode.SubscriptAtByText = codes "TSUBAT"
word_of opcode.RuleComputed = codes "RULEV"
word_of opcode.PutComputed = codes "PUTV"
word_of opcode.InsertValue = codes "MINS"
word_of opcode.GetValue = codes "MGET"
word_of opcode.AddValue = codes "MADD"
word_of opcode.ByteAt = codes "BYTE"
word_of opcode.Slice = codes "SLICE"
word_of opcode.Find = codes "FIND"
word_of opcode.Span = codes "SPAN"
word_of opcode.Until = codes "UNTIL"
word_of opcode.MultiplyDivide = codes "MULDIV"
word_of opcode.And = codes "AND"
word_of opcode.Or = codes "OR"
word_of opcode.Xor = codes "XOR"
word_of opcode.ShiftLeft = codes "SHL"
word_of opcode.ShiftRight = codes "SHR"
word_of opcode.WrappingMultiply = codes "WMUL"
word_of opcode.WrappingAdd = codes "WADD"
word_of opcode.JumpTextLess = codes "JTLT"

unfoldable pub opcode_of : List ℕ → Option Opcode
opcode_of name = find (λ o. bytes_eq (word_of o) name) OPCODES

-- returns the opcode of this name, if the version has one
abbrev pub opcode_in : Version → List ℕ → Option Opcode
opcode_in version name = if_had version (opcode_of name)

-- ---- one line for each instruction

abbrev pub opcode_of_operation : Arithmetic → Opcode
opcode_of_operation operation.Add = opcode.Add
opcode_of_operation operation.Subtract = opcode.Subtract
opcode_of_operation operation.Multiply = opcode.Multiply
opcode_of_operation operation.Divide = opcode.Divide
opcode_of_operation operation.Remainder = opcode.Remainder
opcode_of_operation operation.And = opcode.And
opcode_of_operation operation.Or = opcode.Or
opcode_of_operation operation.Xor = opcode.Xor
opcode_of_operation operation.ShiftLeft = opcode.ShiftLeft
opcode_of_operation operation.ShiftRight = opcode.ShiftRight
opcode_of_operation operation.WrappingMultiply = opcode.WrappingMultiply
opcode_of_operation operation.WrappingAdd = opcode.WrappingAdd

abbrev pub opcode_of_search : Sought → Opcode
opcode_of_search sought.Find = opcode.Find
opcode_of_search sought.Span = opcode.Span
opcode_of_search sought.Until = opcode.Until

abbrev pub local_row : LocalInstr → Opcode × List Operand
local_row (local.Int to value) = (opcode.Int, holds Value to ∷ holds Number value ∷ [])
local_row (local.Text to text) = (opcode.Text, holds Value to ∷ holds Literal text ∷ [])
local_row (local.Copy to from) = (opcode.Copy, holds Value to ∷ holds Value from ∷ [])
local_row (local.Compute operation to left right skip) = (opcode_of_operation operation, holds Value to ∷ holds Value left ∷ holds Value right ∷ holds Skip skip ∷ [])
local_row (local.Concatenate to left right skip) = (opcode.Concatenate, holds Value to ∷ holds Value left ∷ holds Value right ∷ holds Skip skip ∷ [])
local_row (local.Length to from) = (opcode.Length, holds Value to ∷ holds Value from ∷ [])
local_row (local.Show to from) = (opcode.Show, holds Value to ∷ holds Value from ∷ [])
local_row (local.ReadInt to from skip) = (opcode.ReadInt, holds Value to ∷ holds Value from ∷ holds Skip skip ∷ [])
local_row (local.Jump skip) = (opcode.Jump, holds Skip skip ∷ [])
local_row (local.JumpEqual left right skip) = (opcode.JumpEqual, holds Value left ∷ holds Value right ∷ holds Skip skip ∷ [])
local_row (local.JumpLess left right skip) = (opcode.JumpLess, holds Value left ∷ holds Value right ∷ holds Skip skip ∷ [])
local_row (local.Repeat iterations) = (opcode.Repeat, holds Iterations iterations ∷ [])
local_row local.End = (opcode.End, [])
local_row local.Last = (opcode.Last, [])
local_row (local.ByteAt to from place skip) = (opcode.ByteAt, holds Value to ∷ holds Value from ∷ holds Value place ∷ holds Skip skip ∷ [])
local_row (local.Slice to from start end skip) = (opcode.Slice, holds Value to ∷ holds Value from ∷ holds Value start ∷ holds Value end ∷ holds Skip skip ∷ [])
local_row (local.Seek sought to text pattern start skip) = (opcode_of_search sought, holds Value to ∷ holds Value text ∷ holds Value pattern ∷ holds Value start ∷ holds Skip skip ∷ [])
local_row (local.MultiplyDivide to left right divisor skip) = (opcode.MultiplyDivide, holds Value to ∷ holds Value left ∷ holds Value right ∷ holds Value divisor ∷ holds Skip skip ∷ [])
local_row (local.JumpTextLess left right skip) = (opcode.JumpTextLess, holds Value left ∷ holds Value right ∷ holds Skip skip ∷ [])

-- returns one opcode for integers as subscripts, and another for texts
abbrev pub opcode_by : Opcode → Opcode → Scalar → Opcode
opcode_by for_integers for_texts Int = for_integers
opcode_by for_integers for_texts Text = for_texts

abbrev pub data_row : DataInstr → Opcode × List Operand
data_row (on_data.New write read ty) = (opcode.New, holds Right write ∷ holds Right read ∷ holds TypeOf ty ∷ [])
data_row (on_data.Store datum from) = (opcode.Store, holds Right datum ∷ holds Value from ∷ [])
data_row (on_data.Get to datum) = (opcode.Get, holds Value to ∷ holds Right datum ∷ [])
data_row (on_data.Insert by container subscript member skip) = (opcode_by opcode.Insert opcode.InsertByText by, holds Right container ∷ holds Value subscript ∷ holds Right member ∷ holds Skip skip ∷ [])
data_row (on_data.Look by member container subscript skip) = (opcode_by opcode.Look opcode.LookByText by, holds Right member ∷ holds Right container ∷ holds Value subscript ∷ holds Skip skip ∷ [])
data_row (on_data.Size to container) = (opcode.Size, holds Value to ∷ holds Right container ∷ [])
data_row (on_data.SubscriptAt by to container index skip) = (opcode_by opcode.SubscriptAt opcode.SubscriptAtByText by, holds Value to ∷ holds Right container ∷ holds Value index ∷ holds Skip skip ∷ [])
data_row (on_data.CopyRead to from) = (opcode.CopyRead, holds Right to ∷ holds Right from ∷ [])
data_row (on_data.CopyWrite to from) = (opcode.CopyWrite, holds Right to ∷ holds Right from ∷ [])
data_row (on_data.DropRead right) = (opcode.DropRead, holds Right right ∷ [])
data_row (on_data.DropWrite right) = (opcode.DropWrite, holds Right right ∷ [])
data_row (on_data.InsertValue map subscript from skip) = (opcode.InsertValue, holds Right map ∷ holds Value subscript ∷ holds Value from ∷ holds Skip skip ∷ [])
data_row (on_data.GetValue to map subscript skip) = (opcode.GetValue, holds Value to ∷ holds Right map ∷ holds Value subscript ∷ holds Skip skip ∷ [])
data_row (on_data.AddValue map subscript from) = (opcode.AddValue, holds Right map ∷ holds Value subscript ∷ holds Value from ∷ [])

-- returns one opcode for a constant priority, and another for a computed one
abbrev pub opcode_of_priority : Opcode → Opcode → Priority → Opcode
opcode_of_priority constant computed (Constant n) = constant
opcode_of_priority constant computed (Computed register) = computed

-- returns the operand of a priority: the number, or the register of a computed one
abbrev pub priority_operand : Priority → Operand
priority_operand (Constant n) = holds Number n
priority_operand (Computed register) = holds Value register

abbrev pub action_operands : Action → List Operand
action_operands action = holds Callee action.procedure ∷ priority_operand action.priority ∷ holds Target action.target ∷ holds Args action.args ∷ []

abbrev pub row : Instr → Opcode × List Operand
row (instr.Local i) = local_row i
row (instr.Data i) = data_row i
row (instr.Rule action) = (opcode_of_priority opcode.Rule opcode.RuleComputed action.priority, action_operands action)
row (instr.Put action) = (opcode_of_priority opcode.Put opcode.PutComputed action.priority, action_operands action)
row instr.Ret = (opcode.Ret, [])
