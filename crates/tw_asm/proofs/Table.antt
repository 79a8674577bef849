-- The table of instructions, as it is read and as it is defined.
use Rattle.std.proofs.Common.{◌≡◌, ℕ, pos, Bool, true, false, cond, List, [], ◌∷◌, append-nil, map, Option, Some, None, refl, sym, ap, subst, ◌∙◌}
use Rattle.tw_asm.proofs.AsmNames.{Add, Arithmetic, Computed, Constant, DataInstr, Goal, HasInstr, Instr, Int, IsInstr, LocalInstr, Name, Natural, NestedScalar, Number, OPCODES, Opcode, Operand as Item, Part, Priority, Sought, Target, Text, Value, Version, Word, as_is, before_colon, bytes_eq, bytes_eq-Decides, find, further, has_opcode, holds, if_had, instr_parts, scalar_type}
use Rattle.tw_code.specs.declared.form.Form.TheVariants as form
use Rattle.tw_code.specs.declared.instr.Sought.TheVariants as sought
use Rattle.tw_code.specs.declared.instr.DataInstr.TheVariants as on_data
use Rattle.tw_code.specs.declared.instr.Instr.TheVariants as instr
use Rattle.tw_code.specs.declared.instr.LocalInstr.TheVariants as local
use Rattle.tw_code.specs.format.Table as table
use Rattle.tw_asm.proofs.Lined.{Had, MayParts, parts_of}
use Rattle.tw_code.specs.declared.opcode.Opcode.TheVariants as op
use Rattle.tw_code.specs.format.Table.{opcode_of, word_of, opcode_in}
use Rattle.tw_asm.specs.reading.Lines.{Content, Line, LineContent, Operand, Row, args, draft_by, draft_in, goal, label_in, line_in, literal, more, natural, never, nothing, number, right, row, row_of, target, type, value}

-- ---- a row's parts

abbrev pub line_by : Row → Line
line_by (row l make) = l

abbrev pub instr_by : (r : Row) → LineContent (line_by r) → Instr
instr_by (row l make) x = make x

abbrev pub line_of : Version → Opcode → Line
line_of version o = line_by (row_of version o)

abbrev pub instr_of : (version : Version) (o : Opcode) → LineContent (line_of version o) → Instr
instr_of version o x = instr_by (row_of version o) x

pub draft_is : (version : Version) (o : Opcode) (ws : List Word) → draft_in version o ws ≡ as_is (λ x. (instr_of version o x, label_in (line_of version o) x)) (line_in (line_of version o) ws)
draft_is version o ws = by (row_of version o)
  where
    by : (r : Row) → draft_by r ws ≡ as_is (λ x. (instr_by r x, label_in (line_by r) x)) (line_in (line_by r) ws)
    by (row l make) = refl

-- ---- each instruction is made of its operands

-- holds if some words may have this shape
abbrev pub is_sayable : Line → Bool
is_sayable (more o l) = is_sayable l
is_sayable never = false
is_sayable l = true

pub sayable : (version : Version) (o : Opcode) → is_sayable (line_of version o) ≡ true
sayable version op.Int = refl
sayable version o = refl

pub unsayable : false ≡ true → ⊥
unsayable e = cc

abbrev content_from : (o : Operand) → Item → Content o
content_from value (holds form.Value register) = register
content_from value x = 0
content_from right (holds form.Right register) = register
content_from right x = 0
content_from number (holds form.Number n) = n
content_from number x = pos 0
content_from (natural low high) (holds form.Iterations iterations) = iterations
content_from (natural low high) (holds form.Callee procedure) = procedure
content_from (natural low high) x = 0
content_from literal (holds form.Literal text) = text
content_from literal x = []
content_from target (holds form.Target to) = to
content_from target x = None

abbrev goal_from : Item → Goal
goal_from (holds form.Skip skip) = further skip
goal_from x = further 0

abbrev type_from : Item → NestedScalar
type_from (holds form.TypeOf ty) = ty
type_from x = scalar_type Int

abbrev args_from : Item → List ℕ
args_from (holds form.Args registers) = registers
args_from x = []

abbrev first : List Item → Item
first [] = (holds form.Skip 0)
first (x ∷ xs) = x

abbrev others : List Item → List Item
others [] = []
others (x ∷ xs) = xs

-- returns the content of a line, from the operands of an instruction
abbrev line_from : (l : Line) → is_sayable l ≡ true → List Item → LineContent l
line_from nothing s xs = tt
line_from goal s xs = goal_from (first xs)
line_from (type version) s xs = type_from (first xs)
line_from args s xs = args_from (first xs)
line_from (more o l) s xs = (content_from o (first xs), line_from l s (others xs))
line_from never s xs = absurd (unsayable s)

abbrev IsMadeSo : Version → Instr → Type 0
IsMadeSo version i = i ≡ instr_of version (table.row i).0 (line_from (line_of version (table.row i).0) (sayable version (table.row i).0) (table.row i).1)

compute_made : (version : Version) (operation : Arithmetic) (to first_from second_from skip : ℕ) → IsMadeSo version (instr.Local (local.Compute operation to first_from second_from skip))
compute_made version Add to first_from second_from skip = refl
compute_made version operation to first_from second_from skip = refl

seek_made : (version : Version) (kind : Sought) (to text pattern start skip : ℕ) → IsMadeSo version (instr.Local (local.Seek kind to text pattern start skip))
seek_made version sought.Find to text pattern start skip = refl
seek_made version kind to text pattern start skip = refl

local_made : (version : Version) (i : LocalInstr) → IsMadeSo version (instr.Local i)
local_made version (local.Compute operation to first_from second_from skip) = compute_made version operation to first_from second_from skip
local_made version (local.Seek kind to text pattern start skip) = seek_made version kind to text pattern start skip
local_made version i = refl

data_made : (version : Version) (i : DataInstr) → IsMadeSo version (instr.Data i)
data_made version (on_data.Insert Int container subscript member skip) = refl
data_made version (on_data.Insert Text container subscript member skip) = refl
data_made version (on_data.Look Int member container subscript skip) = refl
data_made version (on_data.Look Text member container subscript skip) = refl
data_made version (on_data.SubscriptAt Int to container index skip) = refl
data_made version (on_data.SubscriptAt Text to container index skip) = refl
data_made version i = refl

rule_made : (version : Version) (procedure : ℕ) (priority : Priority) (to : Option ℕ) (registers : List ℕ) → IsMadeSo version (instr.Rule (record { procedure = procedure; priority = priority; target = to; args = registers }))
rule_made version procedure (Constant n) to registers = refl
rule_made version procedure (Computed register) to registers = refl

put_made : (version : Version) (procedure : ℕ) (priority : Priority) (to : Option ℕ) (registers : List ℕ) → IsMadeSo version (instr.Put (record { procedure = procedure; priority = priority; target = to; args = registers }))
put_made version procedure (Constant n) to registers = refl
put_made version procedure (Computed register) to registers = refl

made_so : (version : Version) (i : Instr) → IsMadeSo version i
made_so version (instr.Local i) = local_made version i
made_so version (instr.Data i) = data_made version i
made_so version (instr.Rule action) = rule_made version action.procedure action.priority action.target action.args
made_so version (instr.Put action) = put_made version action.procedure action.priority action.target action.args
made_so version instr.Ret = refl

-- holds if the instruction is made of its opcode and its operands
abbrev pub IsMade : Version → Instr → Type 0
IsMade version i = (o : Opcode) × (x : LineContent (line_of version o)) × (i ≡ instr_of version o x)

pub made : (version : Version) (i : Instr) → IsMade version i
made version i = ((table.row i).0, line_from (line_of version (table.row i).0) (sayable version (table.row i).0) (table.row i).1, made_so version i)

pub parts_are : (version : Version) (o : Opcode) (x : LineContent (line_of version o)) → instr_parts (instr_of version o x) ≡ Name (word_of o) ∷ parts_of (line_of version o) x
parts_are version op.Rule x = ap (λ (ps : List Part). Name (word_of op.Rule) ∷ Natural x.0 ∷ Number x.1.0 ∷ Target x.1.1.0 ∷ ps) (append-nil (map Natural x.1.1.1))
parts_are version op.Put x = ap (λ (ps : List Part). Name (word_of op.Put) ∷ Natural x.0 ∷ Number x.1.0 ∷ Target x.1.1.0 ∷ ps) (append-nil (map Natural x.1.1.1))
parts_are version op.RuleComputed x = ap (λ (ps : List Part). Name (word_of op.RuleComputed) ∷ Natural x.0 ∷ Value x.1.0 ∷ Target x.1.1.0 ∷ ps) (append-nil (map Natural x.1.1.1))
parts_are version op.PutComputed x = ap (λ (ps : List Part). Name (word_of op.PutComputed) ∷ Natural x.0 ∷ Value x.1.0 ∷ Target x.1.1.0 ∷ ps) (append-nil (map Natural x.1.1.1))
parts_are version o x = refl

pub within : (version : Version) (o : Opcode) (x : LineContent (line_of version o)) → MayParts (line_of version o) x → IsInstr (instr_of version o x)
within version op.Int x m = (refl, m)
within version o x m = (refl, m)

pub within_back : (version : Version) (o : Opcode) (x : LineContent (line_of version o)) → IsInstr (instr_of version o x) → MayParts (line_of version o) x
within_back version op.Int x m = m.1
within_back version o x m = m.1

-- ---- opcodes and types of the version

pub row_opcode : (version : Version) (o : Opcode) (x : LineContent (line_of version o)) → (table.row (instr_of version o x)).0 ≡ o
row_opcode version op.Int x = refl
row_opcode version o x = refl

-- an instruction whose opcode and type are in the version
pub made_had : (version : Version) (o : Opcode) (x : LineContent (line_of version o)) → has_opcode version o ≡ true → Had (line_of version o) x → HasInstr version (instr_of version o x)
made_had version op.Int x e h = (e, h)
made_had version o x e h = (e, h)

pub had_made : (version : Version) (o : Opcode) (x : LineContent (line_of version o)) → HasInstr version (instr_of version o x) → Had (line_of version o) x
had_made version op.Int x h = h.1
had_made version o x h = h.1

-- ---- names

pub named : (o : Opcode) → opcode_of (word_of o) ≡ Some o
unfolding opcode_of
named op.Int = refl
named o = refl

pub no_colon : (o : Opcode) → before_colon (word_of o) ≡ None
no_colon op.Int = refl
no_colon o = refl

-- holds if a name that is found is that of its instruction
abbrev IsBack : List ℕ → Option Opcode → Type 0
IsBack name found = (o : Opcode) → found ≡ Some o → name ≡ word_of o

found_among : (name : List ℕ) (all : List Opcode) → IsBack name (find (λ opcode. bytes_eq (word_of opcode) name) all)
found_among name [] = λ o e. absurd (none o e)
  where
    none : (o : Opcode) → None ≡ Some o → ⊥
    none o e = cc
found_among name (first ∷ others) = by (bytes_eq (word_of first) name) refl (found_among name others)
  where
    inner : (o : Opcode) → Some first ≡ Some o → first ≡ o
    inner o e = cc

    by : (t : Bool) → bytes_eq (word_of first) name ≡ t → IsBack name (find (λ opcode. bytes_eq (word_of opcode) name) others) → IsBack name (cond t (Some first) (find (λ opcode. bytes_eq (word_of opcode) name) others))
    by true is back = λ o e. sym ((bytes_eq-Decides (word_of first) name).0 is) ∙ ap word_of (inner o e)
    by false isnt back = back

pub named_back : (name : List ℕ) (o : Opcode) → opcode_of name ≡ Some o → name ≡ word_of o
unfolding opcode_of
named_back name o e = found_among name OPCODES o e

-- ---- names in a version

pub named_in : (version : Version) (o : Opcode) → has_opcode version o ≡ true → opcode_in version (word_of o) ≡ Some o
named_in version o has = ap (if_had version) (named o) ∙ ap (λ (b : Bool). cond b (Some o) None) has

found_in : (version : Version) (name : List ℕ) (found : Option Opcode) (o : Opcode) → opcode_of name ≡ found → if_had version found ≡ Some o → (name ≡ word_of o) × (has_opcode version o ≡ true)
found_in version name None o is e = absurd (none e)
  where
    none : None ≡ Some o → ⊥
    none e = cc
found_in version name (Some p) o is e = by (has_opcode version p) refl e
  where
    none : None ≡ Some o → ⊥
    none e = cc

    inner : Some p ≡ Some o → p ≡ o
    inner e = cc

    by : (b : Bool) → has_opcode version p ≡ b → cond b (Some p) None ≡ Some o → (name ≡ word_of o) × (has_opcode version o ≡ true)
    by true has e = (named_back name p is ∙ ap word_of (inner e), subst (λ (q : Opcode). has_opcode version q ≡ true) (inner e) has)
    by false has e = absurd (none e)

pub found_back : (version : Version) (name : List ℕ) (o : Opcode) → opcode_in version name ≡ Some o → (name ≡ word_of o) × (has_opcode version o ≡ true)
found_back version name o e = found_in version name (opcode_of name) o refl e
