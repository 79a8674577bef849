-- The table of instructions with parts: the sorts of parts after a name, and the instruction that they make. Facts on the parts of each instruction
-- are proved once, in `row`.
use Rattle.std.proofs.Common.{◌≡◌, ◌==◌, ℕ, ℤ, pos, Bool, true, false, List, [], ◌∷◌, ◌++◌, map, codes, Option, None, refl, sym, ap, ◌∙◌, eq-eqb}
use Rattle.tw_asm.proofs.AsmNames.{Add, Arithmetic, Computed, Constant, Contents, DataInstr, Instr, Int, Literal, LocalInstr, Name, Natural, NestedScalar, Number, OPCODES, Opcode, Operand, Part, Priority, Right, Skip, Sought, Target, Text, TypeOf, Value, eqb-true, forms_of, holds, if◌then◌else◌, instr_of, instr_parts, scalar_type, with_skip, word_of, ◌&&◌}
use Rattle.tw_code.specs.declared.form.Form.{Form}
use Rattle.tw_code.specs.declared.form.Form.TheVariants as form
use Rattle.tw_code.specs.declared.instr.Sought.TheVariants as sought
use Rattle.tw_code.specs.declared.instr.DataInstr.TheVariants as on_data
use Rattle.tw_code.specs.declared.instr.Instr.TheVariants as instr
use Rattle.tw_code.specs.declared.instr.LocalInstr.TheVariants as local
use Rattle.tw_code.specs.declared.opcode.Opcode.TheVariants as op
use Rattle.tw_code.specs.format.Table as table

-- ---- a word among names

pub different : {Z : Type 0} (n m : ℕ) → n ≡ m → (n == m) ≡ false → Z
different n m e f = absurd (apart (sym (eq-eqb n m e) ∙ f))
  where
    apart : true ≡ false → ⊥
    apart h = cc

-- ---- sorts of parts

abbrev pub sort_of : Part → ℕ
sort_of (Name word) = 0
sort_of (Value register) = 1
sort_of (Right register) = 2
sort_of (Number number) = 3
sort_of (Natural number) = 4
sort_of (Literal text) = 5
sort_of (TypeOf ty) = 6
sort_of (Skip skip) = 7
sort_of (Target target) = 8

-- holds for parts of these sorts, and then unsigned numbers
abbrev pub have_sorts : List ℕ → List Part → Bool
have_sorts [] [] = true
have_sorts [] (part ∷ parts) = (sort_of part == 4) && have_sorts [] parts
have_sorts (sort ∷ sorts) [] = true
have_sorts (sort ∷ sorts) (part ∷ parts) = (sort_of part == sort) && have_sorts sorts parts

-- holds if the parts have the same sorts, up to the end of the shorter list
abbrev pub AreAlike : List Part → List Part → Type 0
AreAlike [] qs = Unit {0}
AreAlike (p ∷ ps) [] = Unit {0}
AreAlike (p ∷ ps) (q ∷ qs) = (sort_of p ≡ sort_of q) × AreAlike ps qs

pub both_true : (a b : Bool) → (a && b) ≡ true → (a ≡ true) × (b ≡ true)
both_true true b e = (refl, e)
both_true false b e = absurd cc

pub alike_by_sorts : (sorts : List ℕ) (ps qs : List Part) → have_sorts sorts ps ≡ true → have_sorts sorts qs ≡ true → AreAlike ps qs
alike_by_sorts sorts [] qs h k = tt
alike_by_sorts sorts (p ∷ ps) [] h k = tt
alike_by_sorts [] (p ∷ ps) (q ∷ qs) h k =
    let a = both_true (sort_of p == 4) (have_sorts [] ps) h in
    let b = both_true (sort_of q == 4) (have_sorts [] qs) k in
    (eqb-true (sort_of p) 4 a.0 ∙ sym (eqb-true (sort_of q) 4 b.0), alike_by_sorts [] ps qs a.1 b.1)
alike_by_sorts (sort ∷ sorts) (p ∷ ps) (q ∷ qs) h k =
    let a = both_true (sort_of p == sort) (have_sorts sorts ps) h in
    let b = both_true (sort_of q == sort) (have_sorts sorts qs) k in
    (eqb-true (sort_of p) sort a.0 ∙ sym (eqb-true (sort_of q) sort b.0), alike_by_sorts sorts ps qs a.1 b.1)

-- ---- the content of parts

abbrev size : Part → ℕ
size (Value register) = register
size (Right register) = register
size (Natural number) = number
size (Skip skip) = skip
size part = 0

abbrev signed : Part → ℤ
signed (Number number) = number
signed part = pos 0

abbrev text : Part → List ℕ
text (Literal t) = t
text part = []

abbrev type_in : Part → NestedScalar
type_in (TypeOf ty) = ty
type_in part = scalar_type Int

abbrev target_in : Part → Option ℕ
target_in (Target target) = target
target_in part = None

-- ---- the rows

-- returns the sort of an operand's part
abbrev sort_in : Form → ℕ
sort_in form.Value = 1
sort_in form.Right = 2
sort_in form.Number = 3
sort_in form.Iterations = 4
sort_in form.Literal = 5
sort_in form.TypeOf = 6
sort_in form.Skip = 7
sort_in form.Callee = 4
sort_in form.Target = 8
sort_in form.Args = 4

-- returns the sorts of the operands; those of arguments are unsigned numbers
abbrev sorts_in : List Form → List ℕ
sorts_in [] = []
sorts_in (form.Args ∷ fs) = []
sorts_in (f ∷ fs) = sort_in f ∷ sorts_in fs

abbrev part_in : List Part → Part
part_in [] = Natural 0
part_in (part ∷ parts) = part

abbrev parts_after : List Part → List Part
parts_after [] = []
parts_after (part ∷ parts) = parts

abbrev contents_in : (fs : List Form) → List Part → Contents fs
contents_in [] parts = tt
contents_in (form.Value ∷ fs) parts = (size (part_in parts), contents_in fs (parts_after parts))
contents_in (form.Right ∷ fs) parts = (size (part_in parts), contents_in fs (parts_after parts))
contents_in (form.Number ∷ fs) parts = (signed (part_in parts), contents_in fs (parts_after parts))
contents_in (form.Iterations ∷ fs) parts = (size (part_in parts), contents_in fs (parts_after parts))
contents_in (form.Literal ∷ fs) parts = (text (part_in parts), contents_in fs (parts_after parts))
contents_in (form.TypeOf ∷ fs) parts = (type_in (part_in parts), contents_in fs (parts_after parts))
contents_in (form.Skip ∷ fs) parts = (size (part_in parts), contents_in fs (parts_after parts))
contents_in (form.Callee ∷ fs) parts = (size (part_in parts), contents_in fs (parts_after parts))
contents_in (form.Target ∷ fs) parts = (target_in (part_in parts), contents_in fs (parts_after parts))
contents_in (form.Args ∷ fs) parts = (map size parts, contents_in fs [])

pub record Row : Type 0 where
  pub name : List ℕ
  pub sorts : List ℕ
  pub make : List Part → Instr

abbrev row_by : Opcode → Row
row_by o = record { name = word_of o; sorts = sorts_in (forms_of o); make = λ parts. instr_of o (contents_in (forms_of o) parts) }

abbrev pub rows : List Row
rows = map row_by OPCODES

abbrev pub names : List (List ℕ)
names = map (λ r. r.name) rows

abbrev pub same : List ℕ → List ℕ → Bool
same [] [] = true
same [] (y ∷ ys) = false
same (x ∷ xs) [] = false
same (x ∷ xs) (y ∷ ys) = (x == y) && same xs ys

abbrev pub is_in : List ℕ → List (List ℕ) → Bool
is_in word [] = false
is_in word (name ∷ others) = if same word name then true else is_in word others

abbrev pub row_among : List ℕ → List Row → Row
row_among word [] = record { name = []; sorts = []; make = λ parts. instr.Ret }
row_among word (row ∷ others) = if same word row.name then row else row_among word others

-- ---- an instruction's parts

abbrev pub first_name : List Part → List ℕ
first_name (Name word ∷ parts) = word
first_name parts = []

abbrev pub after_first : List Part → List Part
after_first [] = []
after_first (part ∷ parts) = parts

abbrev pub name_of : Instr → List ℕ
name_of i = first_name (instr_parts i)

abbrev pub operands_of : Instr → List Part
operands_of i = after_first (instr_parts i)

abbrev pub reskip : ℕ → Part → Part
reskip skip (Skip old) = Skip skip
reskip skip part = part

abbrev pub is_last : List Part → Bool
is_last [] = true
is_last (part ∷ parts) = false

-- returns whether no part is after a skip
abbrev pub skips_last : List Part → Bool
skips_last [] = true
skips_last (Skip skip ∷ parts) = is_last parts
skips_last (part ∷ parts) = skips_last parts

abbrev pub ends_in_colon : List ℕ → Bool
ends_in_colon [] = false
ends_in_colon (b ∷ []) = b == 58
ends_in_colon (b ∷ c ∷ others) = ends_in_colon (c ∷ others)

-- returns the class of a first word, as a number: the head, the registers, a label, an instruction, the version
abbrev pub class_of_word : List ℕ → ℕ
class_of_word word = if ends_in_colon word then 2 else if same word (codes "proc") then 0 else if same word (codes "regs") then 1 else if same word (codes "version") then 4 else 3

-- facts on the parts of an instruction
pub record IsRow (i : Instr) : Type 0 where
  pub parts : instr_parts i ≡ Name (name_of i) ∷ operands_of i
  pub known : is_in (name_of i) names ≡ true
  pub class : class_of_word (name_of i) ≡ 3
  pub sorts : have_sorts (row_among (name_of i) rows).sorts (operands_of i) ≡ true
  pub made : (row_among (name_of i) rows).make (operands_of i) ≡ i
  pub reskipped : (skip : ℕ) → instr_parts (with_skip skip i) ≡ map (reskip skip) (instr_parts i)
  pub last : skips_last (instr_parts i) ≡ true

-- ---- arguments, the last operand

args_sorts : (args : List ℕ) → have_sorts [] (map Natural args ++ []) ≡ true
args_sorts [] = refl
args_sorts (arg ∷ args) = args_sorts args

args_made : (args : List ℕ) → map size (map Natural args ++ []) ≡ args
args_made [] = refl
args_made (arg ∷ args) = ap (λ (xs : List ℕ). arg ∷ xs) (args_made args)

args_reskipped : (skip : ℕ) (args : List ℕ) → map Natural args ++ [] ≡ map (reskip skip) (map Natural args ++ [])
args_reskipped skip [] = refl
args_reskipped skip (arg ∷ args) = ap (λ (ps : List Part). Natural arg ∷ ps) (args_reskipped skip args)

args_last : (args : List ℕ) → skips_last (map Natural args ++ []) ≡ true
args_last [] = refl
args_last (arg ∷ args) = args_last args

-- ---- row by row

-- only the name shows the operation
compute_row : (operation : Arithmetic) (to left right skip : ℕ) → IsRow (instr.Local (local.Compute operation to left right skip))
compute_row Add to left right skip = record { parts = refl; known = refl; class = refl; sorts = refl; made = refl; reskipped = λ skip. refl; last = refl }
compute_row operation to left right skip = record { parts = refl; known = refl; class = refl; sorts = refl; made = refl; reskipped = λ skip. refl; last = refl }

seek_row : (kind : Sought) (to text pattern start skip : ℕ) → IsRow (instr.Local (local.Seek kind to text pattern start skip))
seek_row sought.Find to text pattern start skip = record { parts = refl; known = refl; class = refl; sorts = refl; made = refl; reskipped = λ skip. refl; last = refl }
seek_row kind to text pattern start skip = record { parts = refl; known = refl; class = refl; sorts = refl; made = refl; reskipped = λ skip. refl; last = refl }

local_row : (i : LocalInstr) → IsRow (instr.Local i)
local_row (local.Compute operation to left right skip) = compute_row operation to left right skip
local_row (local.Seek kind to text pattern start skip) = seek_row kind to text pattern start skip
local_row i = record { parts = refl; known = refl; class = refl; sorts = refl; made = refl; reskipped = λ skip. refl; last = refl }

data_row : (i : DataInstr) → IsRow (instr.Data i)
data_row (on_data.Insert Text container subscript member skip) = record { parts = refl; known = refl; class = refl; sorts = refl; made = refl; reskipped = λ skip. refl; last = refl }
data_row (on_data.Look Text member container subscript skip) = record { parts = refl; known = refl; class = refl; sorts = refl; made = refl; reskipped = λ skip. refl; last = refl }
data_row (on_data.SubscriptAt Text to container index skip) = record { parts = refl; known = refl; class = refl; sorts = refl; made = refl; reskipped = λ skip. refl; last = refl }
data_row (on_data.Insert Int container subscript member skip) = record { parts = refl; known = refl; class = refl; sorts = refl; made = refl; reskipped = λ skip. refl; last = refl }
data_row (on_data.Look Int member container subscript skip) = record { parts = refl; known = refl; class = refl; sorts = refl; made = refl; reskipped = λ skip. refl; last = refl }
data_row (on_data.SubscriptAt Int to container index skip) = record { parts = refl; known = refl; class = refl; sorts = refl; made = refl; reskipped = λ skip. refl; last = refl }
data_row i = record { parts = refl; known = refl; class = refl; sorts = refl; made = refl; reskipped = λ skip. refl; last = refl }

rule_row : (procedure : ℕ) (priority : Priority) (target : Option ℕ) (args : List ℕ) → IsRow (instr.Rule (record { procedure = procedure; priority = priority; target = target; args = args }))
rule_row procedure (Constant number) target args = record {
  parts = refl;
  known = refl;
  class = refl;
  sorts = args_sorts args;
  made = ap (λ (xs : List ℕ). instr.Rule (record { procedure = procedure; priority = Constant number; target = target; args = xs })) (args_made args);
  reskipped = λ skip. ap (λ (ps : List Part). Name (codes "RULE") ∷ Natural procedure ∷ Number number ∷ Target target ∷ ps) (args_reskipped skip args);
  last = args_last args;
}
rule_row procedure (Computed register) target args = record {
  parts = refl;
  known = refl;
  class = refl;
  sorts = args_sorts args;
  made = ap (λ (xs : List ℕ). instr.Rule (record { procedure = procedure; priority = Computed register; target = target; args = xs })) (args_made args);
  reskipped = λ skip. ap (λ (ps : List Part). Name (codes "RULEV") ∷ Natural procedure ∷ Value register ∷ Target target ∷ ps) (args_reskipped skip args);
  last = args_last args;
}

put_row : (procedure : ℕ) (priority : Priority) (target : Option ℕ) (args : List ℕ) → IsRow (instr.Put (record { procedure = procedure; priority = priority; target = target; args = args }))
put_row procedure (Constant number) target args = record {
  parts = refl;
  known = refl;
  class = refl;
  sorts = args_sorts args;
  made = ap (λ (xs : List ℕ). instr.Put (record { procedure = procedure; priority = Constant number; target = target; args = xs })) (args_made args);
  reskipped = λ skip. ap (λ (ps : List Part). Name (codes "PUT") ∷ Natural procedure ∷ Number number ∷ Target target ∷ ps) (args_reskipped skip args);
  last = args_last args;
}
put_row procedure (Computed register) target args = record {
  parts = refl;
  known = refl;
  class = refl;
  sorts = args_sorts args;
  made = ap (λ (xs : List ℕ). instr.Put (record { procedure = procedure; priority = Computed register; target = target; args = xs })) (args_made args);
  reskipped = λ skip. ap (λ (ps : List Part). Name (codes "PUTV") ∷ Natural procedure ∷ Value register ∷ Target target ∷ ps) (args_reskipped skip args);
  last = args_last args;
}

pub row : (i : Instr) → IsRow i
row (instr.Local i) = local_row i
row (instr.Data i) = data_row i
row (instr.Rule action) = rule_row action.procedure action.priority action.target action.args
row (instr.Put action) = put_row action.procedure action.priority action.target action.args
row instr.Ret = record { parts = refl; known = refl; class = refl; sorts = refl; made = refl; reskipped = λ skip. refl; last = refl }

-- ---- an instruction with another skip has its other operands

abbrev pub reskip_operand : ℕ → Operand → Operand
reskip_operand skip (holds form.Skip old) = (holds form.Skip skip)
reskip_operand skip o = o

abbrev HasOthers : ℕ → Instr → Type 0
HasOthers skip i = table.row (with_skip skip i) ≡ ((table.row i).0, map (reskip_operand skip) (table.row i).1)

local_others : (skip : ℕ) (i : LocalInstr) → HasOthers skip (instr.Local i)
local_others skip (local.Int to value) = refl
local_others skip i = refl

data_others : (skip : ℕ) (i : DataInstr) → HasOthers skip (instr.Data i)
data_others skip (on_data.New write read ty) = refl
data_others skip i = refl

action_others : (skip : ℕ) (o : Opcode) (procedure : ℕ) (priority : Priority) (target : Option ℕ) (args : List ℕ)
    → ◌≡◌ {A = Opcode × List Operand} (o, table.action_operands (record { procedure = procedure; priority = priority; target = target; args = args }))
    (o, map (reskip_operand skip) (table.action_operands (record { procedure = procedure; priority = priority; target = target; args = args })))
action_others skip o procedure (Constant n) target args = refl
action_others skip o procedure (Computed register) target args = refl

pub others : (skip : ℕ) (i : Instr) → HasOthers skip i
others skip (instr.Local i) = local_others skip i
others skip (instr.Data i) = data_others skip i
others skip (instr.Rule action) = action_others skip (table.opcode_of_priority op.Rule op.RuleComputed action.priority) action.procedure action.priority action.target action.args
others skip (instr.Put action) = action_others skip (table.opcode_of_priority op.Put op.PutComputed action.priority) action.procedure action.priority action.target action.args
others skip instr.Ret = refl
