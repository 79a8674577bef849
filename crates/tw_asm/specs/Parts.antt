-- The parts of each statement of assembly text, in the order of the text.
use Rattle.std.specs.Prelude.{ℕ, ℤ, List, [], ◌∷◌, ◌++◌, map, codes, Option, Some, None}
use Rattle.std.specs.List.{flat_map}
use Rattle.tw_code.specs.declared.form.Form.TheVariants as form
use Rattle.tw_code.specs.declared.instr.Instr.{Instr}
use Rattle.tw_code.specs.format.Table.{Operand, holds, row, word_of}
use Rattle.tw_types.specs.Nesting.{NestedScalar}
use Rattle.tw_types.specs.declared.actor.Kind.{Kind}
use Rattle.tw_types.specs.declared.actor.Kind.TheVariants.{Control, Leaf}
use Rattle.tw_types.specs.declared.data_type.MapKind.{MapKind}
use Rattle.tw_types.specs.declared.data_type.MapKind.TheVariants.{NoMap, Values, Sums}
use Rattle.tw_types.specs.declared.data_type.Scalar.{Scalar}
use Rattle.tw_types.specs.declared.data_type.Scalar.TheVariants.{Int, Text}
use Rattle.tw_types.specs.declared.param.Mode.{Mode}
use Rattle.tw_types.specs.declared.param.Mode.TheVariants.{Val, Closed, Ref, Write}
use Rattle.tw_types.specs.declared.param.Param.{Param}

pub data Part : Type 0 where
  -- a fixed word
  Name : List ℕ → Part
  -- a value register, a right register
  Value : ℕ → Part
  Right : ℕ → Part
  -- a number that may have a sign, and one that may not
  Number : ℤ → Part
  Natural : ℕ → Part
  -- a text
  Literal : List ℕ → Part
  TypeOf : NestedScalar → Part
  -- how many instructions are skipped
  Skip : ℕ → Part
  -- the number of an actor, or `any`
  Target : Option ℕ → Part

abbrev pub kind_word : Kind → List ℕ
kind_word Control = codes "control"
kind_word Leaf = codes "leaf"

abbrev pub mode_word : Mode → List ℕ
mode_word Val = codes "val"
mode_word Closed = codes "closed"
mode_word Ref = codes "ref"
mode_word Write = codes "write"

abbrev pub scalar_word : Scalar → List ℕ
scalar_word Int = codes "int"
scalar_word Text = codes "text"

-- returns the word of a container, by the type of its subscripts
abbrev pub container_word : Scalar → List ℕ
container_word Int = codes "cont"
container_word Text = codes "tcont"

-- returns the word of a map, by the type of its subscripts
abbrev pub map_word : Scalar → List ℕ
map_word Int = codes "map"
map_word Text = codes "tmap"

-- returns the word of a map's sums; they are integers, so no version has the second word
abbrev pub sum_word : Scalar → List ℕ
sum_word Int = codes "sum"
sum_word Text = codes "texts"

-- returns the words of a scalar, or of a map
abbrev pub leaf_words : MapKind → Scalar → List (List ℕ)
leaf_words NoMap scalar = scalar_word scalar ∷ []
leaf_words (Values by) scalar = map_word by ∷ scalar_word scalar ∷ []
leaf_words (Sums by) scalar = map_word by ∷ sum_word scalar ∷ []

-- returns a word for each container, the outermost first, and the words of what is inside
abbrev pub type_words : NestedScalar → List (List ℕ)
type_words ty = map container_word ty.containers ++ leaf_words ty.map ty.scalar

-- ---- instructions: a row for each form of operands

abbrev pub operand_parts : Operand → List Part
operand_parts (holds form.Value register) = Value register ∷ []
operand_parts (holds form.Right register) = Right register ∷ []
operand_parts (holds form.Number number) = Number number ∷ []
operand_parts (holds form.Iterations iterations) = Natural iterations ∷ []
operand_parts (holds form.Literal text) = Literal text ∷ []
operand_parts (holds form.TypeOf ty) = TypeOf ty ∷ []
operand_parts (holds form.Skip skip) = Skip skip ∷ []
operand_parts (holds form.Callee procedure) = Natural procedure ∷ []
operand_parts (holds form.Target target) = Target target ∷ []
operand_parts (holds form.Args registers) = map Natural registers

-- returns the name, and the parts of each operand
abbrev pub instr_parts : Instr → List Part
instr_parts i = Name (word_of (row i).0) ∷ flat_map operand_parts (row i).1

-- ---- the other statements

abbrev pub version_parts : ℕ → List Part
version_parts number = Name (codes "version") ∷ Natural number ∷ []

abbrev pub param_parts : Param → List Part
param_parts param = Name (mode_word param.mode) ∷ TypeOf param.ty ∷ []

abbrev pub head_parts : Kind → List Param → List Part
head_parts kind params = Name (codes "proc") ∷ Name (kind_word kind) ∷ flat_map param_parts params

abbrev pub register_part : Scalar → Part
register_part scalar = Name (scalar_word scalar)

abbrev pub registers_parts : List Scalar → List Part
registers_parts registers = Name (codes "regs") ∷ map register_part registers

-- returns the label's name and `:` as one word
abbrev pub label_parts : List ℕ → List Part
label_parts name = Name (name ++ codes ":") ∷ []

-- ---- skips

abbrev pub skip_among : List Part → Option ℕ
skip_among [] = None
skip_among (Skip skip ∷ parts) = Some skip
skip_among (part ∷ parts) = skip_among parts

-- returns how many instructions it skips, if it may skip any
abbrev pub skip_of : Instr → Option ℕ
skip_of i = skip_among (instr_parts i)
