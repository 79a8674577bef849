-- Reading the words after a first word.
use Rattle.std.specs.Prelude.{◌≡◌, ℕ, ℤ, List, [], ◌∷◌, ◌++◌, length, codes, Option, Some, None, Result, Ok, Err, nat_lt, Bool, true, false, ◌==◌, if◌then◌else◌}
use Rattle.std.specs.Str.{bytes_eq}
use Rattle.tw_code.specs.declared.form.Form.{Form as OperandForm}
use Rattle.tw_code.specs.declared.form.Form.TheVariants as form
use Rattle.tw_code.specs.declared.instr.Instr.{Instr}
use Rattle.tw_code.specs.declared.opcode.Opcode.{Opcode}
use Rattle.tw_code.specs.declared.version.Version.{Version}
use Rattle.tw_code.specs.format.Table as table
use Rattle.tw_code.specs.format.Table.{Contents, a_row, opcode_in}
use Rattle.tw_code.specs.format.Versions.{version_by, version_number}
use Rattle.tw_lexer.specs.Words.{Word, Bare, Quoted}
use Rattle.tw_asm.specs.Parts.{kind_word}
use Rattle.tw_asm.specs.Seen.{Read, bytes_of}
use Rattle.tw_asm.specs.Statement as said
use Rattle.tw_asm.specs.declared.statement.Unlinked.{Unlinked}
use Rattle.tw_lexer.specs.declared.numbers.TokenError.{TokenError}
use Rattle.tw_lexer.specs.declared.numbers.TokenError.TheVariants.{Form, Limit}
use Rattle.tw_asm.specs.declared.gathering.Begun.{Begun}
use Rattle.tw_asm.specs.declared.gathering.Begun.TheVariants as so_far
use Rattle.tw_asm.specs.declared.rejection.Rejection.{Rejection}
use Rattle.tw_asm.specs.declared.rejection.Rejection.TheVariants as rejection
use Rattle.tw_asm.specs.reading.Operands.{both, natural_in, register_in, number_in, literal_in, target_in, name_in, Goal, goal_in, scalar_in, container_in, is_sum, map_in, mode_in}
use Rattle.tw_lexer.specs.Digits.{as_is}
use Rattle.tw_lexer.specs.Names.{before_colon}
use Rattle.tw_types.specs.DataType.{container_of, depth_of, is_scalar, map_of, scalar_type, sums_of}
use Rattle.tw_types.specs.Nesting.{NestedScalar}
use Rattle.tw_types.specs.declared.actor.Kind.{Kind}
use Rattle.tw_types.specs.declared.actor.Kind.TheVariants.{Control, Leaf}
use Rattle.tw_types.specs.declared.data_type.Scalar.{Scalar}
use Rattle.tw_types.specs.declared.param.Mode.{Mode}
use Rattle.tw_types.specs.declared.param.Mode.TheVariants.{Val, Closed, Ref, Write}
use Rattle.tw_types.specs.declared.param.Param.{Param}

-- ---- several words

-- adds an item
abbrev pub joined : {A : Type 0} → Result (List A) TokenError → Result A TokenError → Result (List A) TokenError
joined items item = as_is (λ x. x.0 ++ (x.1 ∷ [])) (both items item)

-- reads an item from each word
abbrev pub each_from : {A : Type 0} → (Word → Result A TokenError) → Result (List A) TokenError → List Word → Result (List A) TokenError
each_from read items [] = items
each_from read items (w ∷ ws) = each_from read (joined items (read w)) ws

abbrev pub each : {A : Type 0} → (Word → Result A TokenError) → List Word → Result (List A) TokenError
each read ws = each_from read (Ok []) ws

-- returns the items, or an error if there are more than this
abbrev pub few : {A : Type 0} → ℕ → Result (List A) TokenError → Result (List A) TokenError
few most (Ok items) = if nat_lt most (length items) then Err Limit else Ok items
few most (Err e) = Err e

-- ---- types and parameters, from the last word on

-- returns a container around data of this type, with such subscripts
abbrev pub around : Result (Scalar × NestedScalar) TokenError → Result NestedScalar TokenError
around (Ok x) = if nat_lt (depth_of x.1) 3 then Ok (container_of x.0 x.1) else Err Limit
around (Err e) = Err e

abbrev pub contained : Result Scalar TokenError → Result NestedScalar TokenError → Result NestedScalar TokenError
contained by ty = around (both by ty)

-- returns the type of maps whose values are of this scalar type
abbrev pub mapped : Scalar → Result NestedScalar TokenError → Result NestedScalar TokenError
mapped by (Ok ty) = if is_scalar ty then Ok (map_of by ty.scalar) else Err Form
mapped by (Err e) = Err Form

-- returns the type that a word makes of the type after it
abbrev pub before : Result Scalar TokenError → Result Scalar TokenError → Result NestedScalar TokenError → Result NestedScalar TokenError
before (Ok by) map ty = contained (Ok by) ty
before (Err e) (Ok by) ty = mapped by ty
before (Err e) (Err f) ty = Err Form

-- reads the last word of a type, or a word before others of the type
abbrev pub typed : Version → Word → Begun → Begun
typed version w so_far.Nothing = if is_sum w then so_far.Sum else so_far.Type (as_is scalar_type (scalar_in w))
typed version w so_far.Sum = so_far.Type (as_is sums_of (map_in version w))
typed version w (so_far.Type ty) = so_far.Type (before (container_in version w) (map_in version w) ty)

abbrev pub type_from : Version → List Word → Begun
type_from version [] = so_far.Nothing
type_from version (w ∷ ws) = typed version w (type_from version ws)

-- returns the type, unless words are missing
abbrev pub whole_type : Begun → Result NestedScalar TokenError
whole_type so_far.Nothing = Err Form
whole_type so_far.Sum = Err Form
whole_type (so_far.Type ty) = ty

-- reads a scalar or a map, and the containers before it
abbrev pub type_in : Version → List Word → Result NestedScalar TokenError
type_in version ws = whole_type (type_from version ws)

-- the parameters, and a type before them whose mode comes next
pub record Params : Type 0 where
  pub whole : Result (List Param) TokenError
  pub begun : Begun

abbrev pub no_params : Params
no_params = record { whole = Ok []; begun = so_far.Nothing }

abbrev pub broken : Params
broken = record { whole = Err Form; begun = so_far.Nothing }

-- continues with a type, or is broken without one
abbrev pub with_type : Result (List Param) TokenError → Result NestedScalar TokenError → Params
with_type whole (Ok ty) = record { whole = whole; begun = so_far.Type (Ok ty) }
with_type whole (Err e) = broken

abbrev pub begins : Result (List Param) TokenError → Bool → Result Scalar TokenError → Params
begins whole true r = record { whole = whole; begun = so_far.Sum }
begins whole false r = with_type whole (as_is scalar_type r)

-- returns the type, unless a container or a map has mode `val`
abbrev pub under : Mode → Result NestedScalar TokenError → Result NestedScalar TokenError
under Val (Ok ty) = if is_scalar ty then Ok ty else Err Form
under Val (Err e) = Err Form
under Closed ty = ty
under Ref ty = ty
under Write ty = ty

abbrev pub param_of : Mode → NestedScalar → Param
param_of mode ty = record { mode = mode; ty = ty }

-- adds an item before the others
abbrev pub put_first : {A : Type 0} → Result A TokenError → Result (List A) TokenError → Result (List A) TokenError
put_first item items = as_is (λ x. x.0 ∷ x.1) (both item items)

abbrev pub ends : Result (List Param) TokenError → Result NestedScalar TokenError → Result Mode TokenError → Params
ends whole ty (Ok mode) = record { whole = put_first (as_is (param_of mode) (under mode ty)) whole; begun = so_far.Nothing }
ends whole ty (Err e) = broken

abbrev pub params_with : Result (List Param) TokenError → Result NestedScalar TokenError → Result Scalar TokenError → Result Scalar TokenError → Result Mode TokenError → Params
params_with whole ty (Ok by) map mode = record { whole = whole; begun = so_far.Type (contained (Ok by) ty) }
params_with whole ty (Err e) (Ok by) mode = with_type whole (mapped by ty)
params_with whole ty (Err e) (Err f) mode = ends whole ty mode

-- reads a word before the others
abbrev pub taken : Version → Word → Params → Params
taken version w params = by params.whole params.begun
  where
    by : Result (List Param) TokenError → Begun → Params
    by whole so_far.Nothing = begins whole (is_sum w) (scalar_in w)
    by whole so_far.Sum = with_type whole (as_is sums_of (map_in version w))
    by whole (so_far.Type ty) = params_with whole ty (container_in version w) (map_in version w) (mode_in w)

abbrev pub params_from : Version → List Word → Params
params_from version [] = no_params
params_from version (w ∷ ws) = taken version w (params_from version ws)

-- returns the parameters, unless a type has no mode
abbrev pub ended : Params → Result (List Param) TokenError
ended params = by params.begun
  where
    by : Begun → Result (List Param) TokenError
    by so_far.Nothing = params.whole
    by so_far.Sum = Err Form
    by (so_far.Type ty) = Err Form

-- ---- operands

pub data Operand : Type 0 where
  value : Operand
  right : Operand
  number : Operand
  natural : ℕ → ℕ → Operand
  literal : Operand
  target : Operand

abbrev pub Content : Operand → Type 0
Content value = ℕ
Content right = ℕ
Content number = ℤ
Content (natural low high) = ℕ
Content literal = List ℕ
Content target = Option ℕ

abbrev pub operand_in : (o : Operand) → Word → Result (Content o) TokenError
operand_in value w = register_in 118 w
operand_in right w = register_in 100 w
operand_in number w = number_in w
operand_in (natural low high) w = natural_in low high w
operand_in literal w = literal_in w
operand_in target w = target_in w

-- the shape of an instruction's operands
pub data Line : Type 0 where
  nothing : Line
  goal : Line
  type : Version → Line
  args : Line
  more : Operand → Line → Line
  -- no words have this shape
  never : Line

abbrev pub LineContent : Line → Type 0
LineContent nothing = Unit {0}
LineContent goal = Goal
LineContent (type version) = NestedScalar
LineContent args = List ℕ
LineContent (more o l) = Content o × LineContent l
LineContent never = ⊥

abbrev pub line_in : (l : Line) → List Word → Result (LineContent l) TokenError
line_in nothing [] = Ok tt
line_in nothing (w ∷ ws) = Err Form
line_in goal [] = Err Form
line_in goal (w ∷ []) = goal_in w
line_in goal (w ∷ x ∷ ws) = Err Form
line_in (type version) ws = type_in version ws
line_in args ws = few 8 (each (natural_in 0 15) ws)
line_in (more o l) [] = Err Form
line_in (more o l) (w ∷ ws) = both (operand_in o w) (line_in l ws)
line_in never ws = Err Form

-- returns the label that is named, if any
abbrev pub label_in : (l : Line) → LineContent l → Option (List ℕ)
label_in nothing x = None
label_in goal x = x.label
label_in (type version) x = None
label_in args x = None
label_in (more o l) x = label_in l x.1
label_in never x = None

-- ---- the operands of these forms; a skip, a type or arguments are the last ones

abbrev pub line_of : Version → List OperandForm → Line
line_of version [] = nothing
line_of version (form.Value ∷ forms) = more value (line_of version forms)
line_of version (form.Right ∷ forms) = more right (line_of version forms)
line_of version (form.Number ∷ forms) = more number (line_of version forms)
line_of version (form.Iterations ∷ forms) = more (natural 1 1000) (line_of version forms)
line_of version (form.Literal ∷ forms) = more literal (line_of version forms)
line_of version (form.TypeOf ∷ []) = type version
line_of version (form.Skip ∷ []) = goal
line_of version (form.Callee ∷ forms) = more (natural 0 255) (line_of version forms)
line_of version (form.Target ∷ forms) = more target (line_of version forms)
line_of version (form.Args ∷ []) = args
line_of version (f ∷ forms) = never

abbrev pub contents_of : (version : Version) (forms : List OperandForm) → LineContent (line_of version forms) → Contents forms
contents_of version [] x = tt
contents_of version (form.TypeOf ∷ []) x = (x, tt)
contents_of version (form.TypeOf ∷ f ∷ forms) x = absurd x
contents_of version (form.Skip ∷ []) x = (x.skip, tt)
contents_of version (form.Skip ∷ f ∷ forms) x = absurd x
contents_of version (form.Args ∷ []) x = (x, tt)
contents_of version (form.Args ∷ f ∷ forms) x = absurd x
contents_of version (f ∷ forms) x = (x.0, contents_of version forms x.1)

-- ---- an instruction

-- the shape of the operands, and the instruction that is made from them
pub data Row : Type 0 where
  row : (l : Line) → (LineContent l → Instr) → Row

abbrev pub row_by : Version → table.Row → Row
row_by version (a_row code forms make) = row (line_of version forms) (λ x. make (contents_of version forms x))

abbrev pub row_of : Version → Opcode → Row
row_of version o = row_by version (table.row_of o)

-- reads an instruction, and the label that it names
abbrev pub draft_by : Row → List Word → Result (Instr × Option (List ℕ)) TokenError
draft_by (row l make) ws = as_is (λ x. (make x, label_in l x)) (line_in l ws)

abbrev pub draft_in : Version → Opcode → List Word → Result (Instr × Option (List ℕ)) TokenError
draft_in version o ws = draft_by (row_of version o) ws

-- ---- statements

abbrev pub version_read : ℕ → Read
version_read n = record { statement = said.OfVersion (version_number (version_by n)); goal = None }

-- returns the number of a version; there is no version 3
abbrev pub version_known : Result ℕ TokenError → Result ℕ TokenError
version_known (Ok n) = if n == 3 then Err Limit else Ok n
version_known (Err e) = Err e

abbrev pub version_in : List Word → Result Read TokenError
version_in [] = Err Form
version_in (w ∷ []) = as_is version_read (version_known (natural_in 1 5 w))
version_in (w ∷ x ∷ ws) = Err Form

abbrev pub kind_in : Word → Result Kind TokenError
kind_in (Bare text) = if bytes_eq text (kind_word Control) then Ok Control else if bytes_eq text (kind_word Leaf) then Ok Leaf else Err Form
kind_in (Quoted text) = Err Form

abbrev pub head_read : Kind × List Param → Read
head_read x = record { statement = said.Head x.0 x.1; goal = None }

abbrev pub head_in : Version → List Word → Result Read TokenError
head_in version [] = Err Form
head_in version (w ∷ ws) = as_is head_read (both (kind_in w) (few 8 (ended (params_from version ws))))

abbrev pub registers_read : List Scalar → Read
registers_read registers = record { statement = said.Registers registers; goal = None }

abbrev pub registers_in : List Word → Result Read TokenError
registers_in ws = as_is registers_read (few 16 (each scalar_in ws))

abbrev pub label_read : List ℕ → Read
label_read name = record { statement = said.Label name; goal = None }

abbrev pub named_in : Option (List ℕ) → Result Read TokenError
named_in None = Err Form
named_in (Some name) = as_is label_read (name_in name)

abbrev pub label_line : List ℕ → List Word → Result Read TokenError
label_line word [] = named_in (before_colon word)
label_line word (w ∷ ws) = Err Form

abbrev pub code_read : Instr × Option (List ℕ) → Read
code_read x = record { statement = said.Code x.0; goal = x.1 }

abbrev pub body_in : Version → Option Opcode → List ℕ → List Word → Result Read TokenError
body_in version (Some o) word ws = as_is code_read (draft_in version o ws)
body_in version None word ws = label_line word ws

unfoldable pub statement_in : Version → List Word → Result Read TokenError
statement_in version [] = Err Form
statement_in version (Quoted text ∷ ws) = Err Form
statement_in version (Bare word ∷ ws) =
    if bytes_eq word (codes "proc") then head_in version ws else
    if bytes_eq word (codes "regs") then registers_in ws else
    if bytes_eq word (codes "version") then version_in ws else
    body_in version (opcode_in version word) word ws

-- ---- results of functions

abbrev pub drafted : Unlinked → Instr × Option (List ℕ)
drafted draft = (draft.instr, bytes_of draft.goal)

-- holds if reading fails with the same error
abbrev pub Fails : {Y : Type 0} → Rejection → Result Y TokenError → Type 0
Fails rejection.NoMemory read = Unit {0}
Fails (rejection.Flawed flaw) read = read ≡ Err flaw

-- holds if the function's result, seen by `view`, is what reading returns, unless an allocation fails
abbrev pub Gives : {X Y : Type 0} → (X → Y) → Result X Rejection → Result Y TokenError → Type 0
Gives view (Ok x) read = read ≡ Ok (view x)
Gives view (Err e) read = Fails e read
