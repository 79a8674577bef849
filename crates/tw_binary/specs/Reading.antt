-- Parsing from left to right, which stops at the first fault.
use Rattle.std.specs.Prelude.{◌≡◌, ◌⊎◌, ℕ, zero, suc, ◌-◌, ℤ, Bool, true, false, List, [], ◌∷◌, length, take, drop, Result, Ok, Err, nat_lt, ◌==◌, if◌then◌else◌, Option, Some, None}
use Rattle.std.specs.Borrow.{Bor}
use Rattle.std.specs.Int.{w16, w64, from_be_bytes, cast_signed}
use Rattle.std.specs.Option.{option_map_or}
use Rattle.std.specs.Str.{is_utf8}
use Rattle.tw_types.specs.Nesting.{NestedScalar}
use Rattle.tw_types.specs.DataType.{container_of, map_of, scalar_type, sums_of}
use Rattle.tw_types.specs.Result.{◌>>=◌}
use Rattle.tw_types.specs.declared.actor.Kind.{Kind}
use Rattle.tw_types.specs.declared.actor.Kind.TheVariants.{Control, Leaf}
use Rattle.tw_types.specs.declared.data_type.Scalar.{Scalar}
use Rattle.tw_types.specs.declared.data_type.Scalar.TheVariants.{Int, Text}
use Rattle.tw_types.specs.declared.param.Mode.{Mode}
use Rattle.tw_types.specs.declared.param.Mode.TheVariants.{Val, Closed, Ref, Write}
use Rattle.tw_types.specs.declared.param.Param.{Param}
use Rattle.tw_binary.specs.declared.fault.Broken.{Broken}
use Rattle.tw_binary.specs.declared.fault.Fault.{Fault}
use Rattle.tw_binary.specs.declared.fault.FaultNo.{FaultNo}
use Rattle.tw_binary.specs.declared.fault.FaultNo.TheVariants as fault
use Rattle.tw_binary.specs.declared.fault.FaultNo.TheVariants.{Magic, Missing, Limit, Unknown, Nesting, Utf8, Trailing, NoMemory}
use Rattle.tw_binary.specs.declared.fault.Stop.{Stop}
use Rattle.tw_binary.specs.declared.fault.Stop.TheVariants as stop
use Rattle.tw_code.specs.declared.form.Form.{Form}
use Rattle.tw_code.specs.declared.form.Form.TheVariants.{Value, Right, Number, Iterations, Literal, TypeOf, Skip, Callee, Target, Args}
use Rattle.tw_code.specs.declared.instr.Instr.{Instr}
use Rattle.tw_code.specs.declared.opcode.Opcode.{Opcode}
use Rattle.tw_code.specs.declared.procedure.Procedure.{Procedure}
use Rattle.tw_code.specs.declared.version.Version.{Version}
use Rattle.tw_code.specs.declared.version.Version.TheVariants.{One, Two, Four, Five}
use Rattle.tw_code.specs.declared.operands.Operands.{Operands}
use Rattle.tw_code.specs.format.Operands.{gathered}
use Rattle.tw_code.specs.format.Program.{Versioned}
use Rattle.tw_code.specs.format.Table.{Content, Contents, Operand, Row, a_row, holds, opcode_at, row_of}
use Rattle.tw_code.specs.format.Versions.{has_maps, has_texts}

-- A parser returns a value and the bytes after it, or a fault: its code, and how many bytes there are from its item on.
abbrev pub Reading : Type 0 → Type 0
Reading A = List ℕ → Result (A × List ℕ) Broken

-- returns the fault of an input that ends before the item is complete
abbrev pub missing : {A : Type 0} → Result A Broken
missing = Err (record { no = Missing; left = 0 })

-- returns the fault of a wrong item at the start of these bytes
abbrev pub wrong : {A : Type 0} → FaultNo → List ℕ → Result A Broken
wrong which bytes = Err (record { no = which; left = length bytes })

-- parses one value, and then another with the parser that depends on it
abbrev pub then_at : {A B : Type 0} → Reading A → (A → Reading B) → Reading (A × B)
then_at first second bytes = first bytes >>= λ a. second a.0 a.1 >>= λ b. Ok ((a.0, b.0), b.1)

-- parses two values in sequence
abbrev pub both : {A B : Type 0} → Reading A → Reading B → Reading (A × B)
both first second bytes = first bytes >>= λ a. second a.1 >>= λ b. Ok ((a.0, b.0), b.1)

-- parses a value and converts it
abbrev pub as_is : {A B : Type 0} → (A → B) → Reading A → Reading B
as_is make read bytes = read bytes >>= λ a. Ok (make a.0, a.1)

-- parses this many values in sequence
abbrev pub many : {A : Type 0} → Reading A → ℕ → Reading (List A)
many read zero bytes = Ok ([], bytes)
many read (suc n) bytes = read bytes >>= λ first. many read n first.1 >>= λ others. Ok (first.0 ∷ others.0, others.1)

-- parses a count, and this many values after it
abbrev pub counted : {A : Type 0} → Reading ℕ → Reading A → Reading (List A)
counted count read bytes = count bytes >>= λ n. many read n.0 n.1

abbrev pub is_within : ℕ → ℕ → ℕ → Bool
is_within low high n = if nat_lt n low then false else if nat_lt high n then false else true

-- ---- items

-- parses one byte within these limits
unfoldable pub byte_at : ℕ → ℕ → Reading ℕ
byte_at low high [] = missing
byte_at low high (b ∷ rest) = if is_within low high b then Ok (b, rest) else wrong Limit (b ∷ rest)

-- parses two bytes as a number within these limits
unfoldable pub wide_at : ℕ → ℕ → Reading ℕ
wide_at low high bytes = if nat_lt (length bytes) 2 then missing else if is_within low high (from_be_bytes w16 (take 2 bytes)) then Ok (from_be_bytes w16 (take 2 bytes), drop 2 bytes) else wrong Limit bytes

-- parses eight bytes as a signed number
unfoldable pub number_at : Reading ℤ
number_at bytes = if nat_lt (length bytes) 8 then missing else Ok (cast_signed w64 (from_be_bytes w64 (take 8 bytes)), drop 8 bytes)

-- parses this many bytes, which must be UTF-8
unfoldable pub utf8_at : ℕ → Reading (List ℕ)
utf8_at size bytes = if nat_lt (length bytes) size then missing else if is_utf8 (take size bytes) then Ok (take size bytes, drop size bytes) else wrong Utf8 bytes

-- parses exactly this byte
unfoldable pub exactly_at : ℕ → FaultNo → Reading ℕ
exactly_at wanted which [] = missing
exactly_at wanted which (b ∷ rest) = if b == wanted then Ok (b, rest) else wrong which (b ∷ rest)

unfoldable pub kind_at : Reading Kind
kind_at [] = missing
kind_at (b ∷ rest) = if b == 0 then Ok (Control, rest) else if b == 1 then Ok (Leaf, rest) else wrong Unknown (b ∷ rest)

unfoldable pub mode_at : Reading Mode
mode_at [] = missing
mode_at (b ∷ rest) = if b == 1 then Ok (Val, rest) else if b == 2 then Ok (Closed, rest) else if b == 3 then Ok (Ref, rest) else if b == 4 then Ok (Write, rest) else wrong Unknown (b ∷ rest)

unfoldable pub scalar_at : Reading Scalar
scalar_at [] = missing
scalar_at (b ∷ rest) = if b == 1 then Ok (Int, rest) else if b == 2 then Ok (Text, rest) else wrong Unknown (b ∷ rest)

-- returns the type of the subscripts, if this byte begins a container
abbrev pub container_in : Version → ℕ → Option Scalar
container_in version b = if b == 3 then Some Int else if b == 4 then if has_texts version then Some Text else None else None

-- returns the type of the subscripts, if this byte begins a map
abbrev pub map_in : Version → ℕ → Option Scalar
map_in version b = if has_maps version then if b == 5 then Some Int else if b == 6 then Some Text else None else None

-- parses the type of a map's values; a 3 is sums'
unfoldable pub values_at : Reading (Option Scalar)
values_at [] = missing
values_at (b ∷ rest) = if b == 1 then Ok (Some Int, rest) else if b == 2 then Ok (Some Text, rest) else if b == 3 then Ok (None, rest) else wrong Unknown (b ∷ rest)

-- returns the type of maps with such subscripts and values
abbrev pub map_from : Scalar → Option Scalar → NestedScalar
map_from by None = sums_of by
map_from by (Some scalar) = map_of by scalar

-- parses a type without containers
unfoldable pub leaf_at : Version → Reading NestedScalar
leaf_at version [] = missing
leaf_at version (b ∷ rest) = option_map_or (λ by. as_is (map_from by) values_at rest) (map_in version b) (as_is scalar_type scalar_at (b ∷ rest))

-- parses a type with at most so many containers
unfoldable pub type_at : Version → ℕ → Reading NestedScalar
type_at version room [] = missing
type_at version zero (b ∷ rest) = option_map_or (λ by. wrong Nesting (b ∷ rest)) (container_in version b) (leaf_at version (b ∷ rest))
type_at version (suc room) (b ∷ rest) = option_map_or (λ by. as_is (container_of by) (type_at version room) rest) (container_in version b) (leaf_at version (b ∷ rest))

-- ---- parameters

-- parses a parameter's type: under val it is a scalar
abbrev pub type_under : Version → Mode → Reading NestedScalar
type_under version Val = as_is scalar_type scalar_at
type_under version Closed = type_at version 3
type_under version Ref = type_at version 3
type_under version Write = type_at version 3

unfoldable pub param_at : Version → Reading Param
param_at version = as_is (λ x. record { mode = x.0; ty = x.1 }) (then_at mode_at (type_under version))

-- ---- instructions

-- parses the number of a value register or a right register
abbrev pub register_at : Reading ℕ
register_at = byte_at 0 15

-- parses the number of instructions to skip
abbrev pub skip_at : Reading ℕ
skip_at = wide_at 0 65535

-- parses a length, and this many bytes
abbrev pub text_at : Reading (List ℕ)
text_at bytes = wide_at 0 4096 bytes >>= λ size. utf8_at size.0 size.1

-- returns no target for 0, else the actor that is one less
abbrev pub target_in : ℕ → Option ℕ
target_in zero = None
target_in (suc number) = Some number

abbrev pub target_at : Reading (Option ℕ)
target_at = as_is target_in (byte_at 0 16)

abbrev pub args_at : Reading (List ℕ)
args_at = counted (byte_at 0 8) register_at

abbrev pub content_at : Version → (form : Form) → Reading (Content form)
content_at version Value = register_at
content_at version Right = register_at
content_at version Number = number_at
content_at version Iterations = wide_at 1 1000
content_at version Literal = text_at
content_at version TypeOf = type_at version 3
content_at version Skip = skip_at
content_at version Callee = byte_at 0 255
content_at version Target = target_at
content_at version Args = args_at

-- parses an operand of a form
abbrev pub operand_at : Version → Form → Reading Operand
operand_at version Value = as_is (holds Value) (content_at version Value)
operand_at version form = as_is (holds form) (content_at version form)

-- parses the contents of operands of these forms, in sequence
abbrev pub contents_at : Version → (forms : List Form) → Reading (Contents forms)
contents_at version [] bytes = Ok (tt, bytes)
contents_at version (form ∷ forms) bytes = both (content_at version form) (contents_at version forms) bytes

-- parses operands of these forms, and gathers them
abbrev pub gathers : Version → List Form → Reading Operands
gathers version forms bytes = as_is (gathered forms) (contents_at version forms) bytes

-- parses the operands of a row, and returns its instruction
abbrev pub made_at : Version → Row → Reading Instr
made_at version (a_row code forms make) bytes = as_is make (contents_at version forms) bytes

-- parses the operands after a code, if an opcode has it; else the code, which is before these bytes, is the fault
abbrev pub after_code : Version → ℕ → Option Opcode → Reading Instr
after_code version code (Some o) bytes = made_at version (row_of o) bytes
after_code version code None bytes = wrong Unknown (code ∷ bytes)

unfoldable pub instr_at : Version → Reading Instr
instr_at version [] = missing
instr_at version (code ∷ rest) = after_code version code (opcode_at version code) rest

-- ---- programs

unfoldable pub procedure_at : Version → Reading Procedure
procedure_at version = as_is (λ x. record { kind = x.0; params = x.1.0; registers = x.1.1.0; code = x.1.1.1 })
    (both kind_at (both (counted (byte_at 0 8) (param_at version)) (both (counted (byte_at 0 16) scalar_at) (counted (wide_at 1 4096) (instr_at version)))))

unfoldable pub version_at : Reading Version
version_at [] = missing
version_at (b ∷ rest) = if b == 1 then Ok (One, rest) else if b == 2 then Ok (Two, rest) else if b == 4 then Ok (Four, rest) else if b == 5 then Ok (Five, rest) else wrong fault.Version (b ∷ rest)

unfoldable pub header_at : Reading Version
header_at = as_is (λ x. x.1.1.1) (both (exactly_at 0x54 Magic) (both (exactly_at 0x57 Magic) (both (exactly_at 0x42 Magic) version_at)))

-- parses all of a program, but doesn't check that the input ends
abbrev pub front_at : Reading (Version × List Procedure)
front_at = then_at header_at (λ version. counted (byte_at 1 64) (procedure_at version))

-- parses all of the bytes
unfoldable pub whole : List ℕ → Result Versioned Broken
whole bytes = front_at bytes >>= λ x. if length x.1 == 0 then Ok (record { version = x.0.0; procedures = x.0.1 }) else wrong Trailing x.1

-- converts a fault's remaining length to its offset
abbrev pub placed : {A : Type 0} → ℕ → Result A Broken → Result A Fault
placed total (Ok x) = Ok x
placed total (Err f) = Err (record { no = f.no; offset = total - f.left })

-- returns the program that the bytes encode, or the first fault in them
abbrev pub program_of : List ℕ → Result Versioned Fault
program_of bytes = placed (length bytes) (whole bytes)

-- ---- the results of functions

-- The parser fails as the function did.
abbrev pub Fails : {Y : Type 0} → Stop → Result Y Broken → Type 0
Fails stop.NoMemory read = Unit {0}
Fails (stop.At f) read = read ≡ Err f

-- The function's result, seen by `view`, is the parser's, unless an allocation failed.
abbrev pub Gives : {X Y : Type 0} → (X → Y) → Result X Stop → Result Y Broken → Type 0
Gives view (Ok x) read = read ≡ Ok (view x)
Gives view (Err e) read = Fails e read

-- Whatever a function returns for any bytes is the parser's result.
abbrev pub AreRead : {X : Type 0} → (Bor (List ℕ) → Result (X × Bor (List ℕ)) Stop → Type 0) → Reading X → Type 0
AreRead {X = X} answers read = (bytes : Bor (List ℕ)) (answer : Result (X × Bor (List ℕ)) Stop) → answers bytes answer → Gives (λ x. (x.0, x.1.now)) answer (read bytes.now)

abbrev pub out_of_memory : Fault
out_of_memory = record { no = NoMemory; offset = 0 }

-- The result of decoding is the parser's, unless an allocation failed.
abbrev pub Answers : Result Versioned Fault → Result Versioned Fault → Type 0
Answers (Ok p) read = read ≡ Ok p
Answers (Err f) read = (f ≡ out_of_memory) ⊎ (read ≡ Err f)
