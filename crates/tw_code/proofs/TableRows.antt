-- The instruction table: an opcode and operands make an instruction with that opcode and those operands, and each instruction is
-- made of its own. An instruction with several opcodes has a line of its own; the others follow by computing.
use Rattle.std.proofs.Common.{rules, arith, ◌≡◌, ◌==◌, ◌-◌, ◌≤◌, ℕ, pos, List, [], ◌∷◌, Option, Some, None, ap, drop, get_or, length, refl, sym, take}
use Rattle.std.proofs.lemmas.List.{take_all}
use Rattle.std.specs.List.{find}
use Rattle.tw_code.specs.declared.form.Form.{Form}
use Rattle.tw_code.specs.declared.form.Form.TheVariants.{Value, Right, Number, Iterations, Literal, TypeOf, Skip, Callee, Target, Args}
use Rattle.tw_code.specs.declared.instr.Arithmetic.{Arithmetic}
use Rattle.tw_code.specs.declared.instr.Arithmetic.TheVariants as operation
use Rattle.tw_code.specs.declared.instr.DataInstr.{DataInstr}
use Rattle.tw_code.specs.declared.instr.DataInstr.TheVariants as on_data
use Rattle.tw_code.specs.declared.instr.Instr.{Instr}
use Rattle.tw_code.specs.declared.instr.Instr.TheVariants as instr
use Rattle.tw_code.specs.declared.instr.LocalInstr.{LocalInstr}
use Rattle.tw_code.specs.declared.instr.LocalInstr.TheVariants as local
use Rattle.tw_code.specs.declared.instr.Priority.{Priority}
use Rattle.tw_code.specs.declared.instr.Priority.TheVariants.{Constant, Computed}
use Rattle.tw_code.specs.declared.instr.Sought.{Sought}
use Rattle.tw_code.specs.declared.instr.Sought.TheVariants as sought
use Rattle.tw_code.specs.declared.opcode.Opcode.{Opcode}
use Rattle.tw_code.specs.declared.opcode.Opcode.TheVariants as opcode
use Rattle.tw_code.specs.declared.opcode.TheConstants.{OPCODES}
use Rattle.tw_code.specs.format.Operands.{ArePlain, gathered, made_of}
use Rattle.tw_code.specs.format.Table.{Content, Contents, Operand, Row, a_row, code_of, forms_in, forms_of, holds, row, row_of}
use Rattle.tw_types.specs.declared.data_type.MapKind.TheVariants.{NoMap}
use Rattle.tw_types.specs.declared.data_type.Scalar.TheVariants.{Int, Text}

abbrev pub operands_of : (forms : List Form) → Contents forms → List Operand
operands_of [] x = []
operands_of (form ∷ forms) x = (holds form x.0) ∷ operands_of forms x.1

abbrev pub instr_in : (r : Row) → Contents (forms_in r) → Instr
instr_in (a_row code forms make) = make

-- the instruction of an opcode and of what its operands hold
abbrev pub instr_of : (o : Opcode) → Contents (forms_of o) → Instr
instr_of o = instr_in (row_of o)

-- each opcode has a code of its own
pub code_known : (o : Opcode) → find (λ p. code_of p == code_of o) OPCODES ≡ Some o
code_known opcode.Int = refl
code_known o = refl

pub is_made : (o : Opcode) (x : Contents (forms_of o)) → row (instr_of o x) ≡ (o, operands_of (forms_of o) x)
is_made opcode.Int x = refl
is_made o x = refl

-- gathered operands make the instruction of their contents
pub made_again : (o : Opcode) (x : Contents (forms_of o)) → ArePlain (forms_of o) → made_of o (gathered (forms_of o) x) ≡ instr_of o x
made_again opcode.Text x plain = absurd plain.2.0
made_again opcode.Rule x plain = absurd plain.0
made_again opcode.Put x plain = absurd plain.0
made_again opcode.RuleComputed x plain = absurd plain.0
made_again opcode.PutComputed x plain = absurd plain.0
made_again o x plain = refl

pub plain_others : (o : Opcode) → (o ≡ opcode.Text → ⊥) → (o ≡ opcode.Rule → ⊥) → (o ≡ opcode.Put → ⊥) → (o ≡ opcode.RuleComputed → ⊥) → (o ≡ opcode.PutComputed → ⊥) → ArePlain (forms_of o)
plain_others opcode.Text text rule put rule_computed put_computed = absurd (text refl)
plain_others opcode.Rule text rule put rule_computed put_computed = absurd (rule refl)
plain_others opcode.Put text rule put rule_computed put_computed = absurd (put refl)
plain_others opcode.RuleComputed text rule put rule_computed put_computed = absurd (rule_computed refl)
plain_others opcode.PutComputed text rule put rule_computed put_computed = absurd (put_computed refl)
plain_others o text rule put rule_computed put_computed = search rules

-- the first form, and those after it
pub split : (all : List Form) (d : Form) → 1 ≤ length all → all ≡ get_or all 0 d ∷ take (length all - 1) (drop 1 all)
split [] d some = absurd (omega (arith, some))
split (form ∷ forms) d some = ap (λ (fs : List Form). form ∷ fs) (sym (take_all (length (form ∷ forms) - 1) forms (omega arith)))

-- ---- the contents of operands, by the forms that they should have

-- an operand of this form, with another's content if that has the form
abbrev content_in : (form : Form) → Operand → Content form
content_in Value (holds Value register) = register
content_in Value o = 0
content_in Right (holds Right register) = register
content_in Right o = 0
content_in Number (holds Number n) = n
content_in Number o = pos 0
content_in Iterations (holds Iterations iterations) = iterations
content_in Iterations o = 0
content_in Literal (holds Literal text) = text
content_in Literal o = []
content_in TypeOf (holds TypeOf ty) = ty
content_in TypeOf o = record { containers = []; scalar = Int; map = NoMap }
content_in Skip (holds Skip skip) = skip
content_in Skip o = 0
content_in Callee (holds Callee procedure) = procedure
content_in Callee o = 0
content_in Target (holds Target target) = target
content_in Target o = None
content_in Args (holds Args registers) = registers
content_in Args o = []

abbrev no_operand : Operand
no_operand = (holds Skip 0)

abbrev head : List Operand → Operand
head [] = no_operand
head (o ∷ os) = o

abbrev tail : List Operand → List Operand
tail [] = []
tail (o ∷ os) = os

abbrev pub contents_in : (forms : List Form) → List Operand → Contents forms
contents_in [] os = tt
contents_in (form ∷ forms) os = (content_in form (head os), contents_in forms (tail os))

-- ---- each instruction

-- it is made of what its operands hold
abbrev pub IsMadeOf : Instr → (o : Opcode) → Contents (forms_of o) → Type 0
IsMadeOf i o x = ((row i).1 ≡ operands_of (forms_of o) x) × (instr_of o x ≡ i)

abbrev IsMadeSo : Instr → Type 0
IsMadeSo i = IsMadeOf i (row i).0 (contents_in (forms_of (row i).0) (row i).1)

compute_made : (operation : Arithmetic) (to left right skip : ℕ) → IsMadeSo (instr.Local (local.Compute operation to left right skip))
compute_made operation.Add to left right skip = (refl, refl)
compute_made operation to left right skip = (refl, refl)

seek_made : (sought : Sought) (to text pattern start skip : ℕ) → IsMadeSo (instr.Local (local.Seek sought to text pattern start skip))
seek_made sought.Find to text pattern start skip = (refl, refl)
seek_made sought to text pattern start skip = (refl, refl)

local_made : (i : LocalInstr) → IsMadeSo (instr.Local i)
local_made (local.Compute operation to left right skip) = compute_made operation to left right skip
local_made (local.Seek sought to text pattern start skip) = seek_made sought to text pattern start skip
local_made i = (refl, refl)

data_made : (i : DataInstr) → IsMadeSo (instr.Data i)
data_made (on_data.Insert Int container subscript member skip) = (refl, refl)
data_made (on_data.Insert Text container subscript member skip) = (refl, refl)
data_made (on_data.Look Int member container subscript skip) = (refl, refl)
data_made (on_data.Look Text member container subscript skip) = (refl, refl)
data_made (on_data.SubscriptAt Int to container index skip) = (refl, refl)
data_made (on_data.SubscriptAt Text to container index skip) = (refl, refl)
data_made i = (refl, refl)

rule_made : (procedure : ℕ) (priority : Priority) (target : Option ℕ) (args : List ℕ) → IsMadeSo (instr.Rule (record { procedure = procedure; priority = priority; target = target; args = args }))
rule_made procedure (Constant n) target args = (refl, refl)
rule_made procedure (Computed register) target args = (refl, refl)

put_made : (procedure : ℕ) (priority : Priority) (target : Option ℕ) (args : List ℕ) → IsMadeSo (instr.Put (record { procedure = procedure; priority = priority; target = target; args = args }))
put_made procedure (Constant n) target args = (refl, refl)
put_made procedure (Computed register) target args = (refl, refl)

made : (i : Instr) → IsMadeSo i
made (instr.Local i) = local_made i
made (instr.Data i) = data_made i
made (instr.Rule action) = rule_made action.procedure action.priority action.target action.args
made (instr.Put action) = put_made action.procedure action.priority action.target action.args
made instr.Ret = (refl, refl)

pub made_row : (i : Instr) → (x : Contents (forms_of (row i).0)) × ((row i).1 ≡ operands_of (forms_of (row i).0) x) × (instr_of (row i).0 x ≡ i)
made_row i = let m = made i in (contents_in (forms_of (row i).0) (row i).1, m.0, m.1)
