-- The operands of an instruction without text and arguments, gathered by their forms.
use Rattle.std.specs.Prelude.{◌≡◌, pos, List, [], ◌∷◌, None}
use Rattle.tw_code.specs.declared.form.Form.{Form}
use Rattle.tw_code.specs.declared.form.Form.TheVariants.{Value, Right, Number, Iterations, Literal, TypeOf, Skip, Callee, Target, Args}
use Rattle.tw_code.specs.declared.instr.Instr.{Instr}
use Rattle.tw_code.specs.declared.opcode.Opcode.{Opcode}
use Rattle.tw_code.specs.declared.operands.Operands.{Operands}
use Rattle.tw_code.specs.declared.operands.PlainOperand.{PlainOperand}
use Rattle.tw_code.specs.declared.operands.PlainOperand.TheVariants as operand
use Rattle.tw_code.specs.format.Table.{Content, Contents, Operand, Row, a_row, holds, row_of}
use Rattle.tw_types.specs.DataType.{scalar_type}
use Rattle.tw_types.specs.declared.data_type.Scalar.TheVariants.{Int}

-- holds of a form whose operand needs no memory, and isn't of a task
abbrev pub IsPlain : Form → Type 0
IsPlain Literal = ⊥
IsPlain Callee = ⊥
IsPlain Target = ⊥
IsPlain Args = ⊥
IsPlain form = Unit {0}

-- holds if nothing follows a skip or a type
abbrev pub EndsBy : Form → List Form → Type 0
EndsBy TypeOf forms = forms ≡ []
EndsBy Skip forms = forms ≡ []
EndsBy form forms = Unit {0}

abbrev pub ArePlain : List Form → Type 0
ArePlain [] = Unit {0}
ArePlain (form ∷ forms) = IsPlain form × EndsBy form forms × ArePlain forms

-- returns it as an operand of the table
abbrev pub plain : PlainOperand → Operand
plain (operand.Value register) = holds Value register
plain (operand.Right register) = holds Right register
plain (operand.Number number) = holds Number number
plain (operand.Iterations iterations) = holds Iterations iterations
plain (operand.Skip skip) = holds Skip skip
plain (operand.TypeOf ty) = holds TypeOf ty

abbrev pub none : Operands
none = record { first = 0; second = 0; third = 0; fourth = 0; number = pos 0; iterations = 0; skip = 0; ty = scalar_type Int }

-- returns the operands with one more before them
abbrev pub with_operand : Operand → Operands → Operands
with_operand (holds Value register) o = record o { first = register; second = o.first; third = o.second; fourth = o.third }
with_operand (holds Right register) o = record o { first = register; second = o.first; third = o.second; fourth = o.third }
with_operand (holds Number number) o = record o { number = number }
with_operand (holds Iterations iterations) o = record o { iterations = iterations }
with_operand (holds TypeOf ty) o = record o { ty = ty }
with_operand (holds Skip skip) o = record o { skip = skip }
with_operand other o = o

-- returns the operands with these contents
abbrev pub gathered : (forms : List Form) → Contents forms → Operands
gathered [] x = none
gathered (form ∷ forms) x = with_operand (holds form x.0) (gathered forms x.1)

-- returns the operands after the first
abbrev pub after_first : Form → Operands → Operands
after_first Value o = record o { first = o.second; second = o.third; third = o.fourth }
after_first Right o = record o { first = o.second; second = o.third; third = o.fourth }
after_first form o = o

-- returns the content of the first operand
abbrev pub first_content : (form : Form) → Operands → Content form
first_content Value o = o.first
first_content Right o = o.first
first_content Number o = o.number
first_content Iterations o = o.iterations
first_content Literal o = []
first_content TypeOf o = o.ty
first_content Skip o = o.skip
first_content Callee o = 0
first_content Target o = None
first_content Args o = []

-- returns the contents of operands of these forms
abbrev pub contents_of : (forms : List Form) → Operands → Contents forms
contents_of [] o = tt
contents_of (form ∷ forms) o = (first_content form o, contents_of forms (after_first form o))

abbrev pub made_by : Row → Operands → Instr
made_by (a_row code forms make) o = make (contents_of forms o)

-- returns the instruction of an opcode and operands
abbrev pub made_of : Opcode → Operands → Instr
made_of opcode o = made_by (row_of opcode) o
