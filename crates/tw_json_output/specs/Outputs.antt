-- Outputs as JSON values: an integer is a number, a text a string, and a container or a map an object of its members or values.
use Rattle.std.specs.Prelude.{◌++◌, ℕ, Bool, if◌then◌else◌, List, [], ◌∷◌, codes, map, Option, Some, None}
use Rattle.std.specs.FinMap as fin
use Rattle.std.specs.Fmt.{signed_decimal}
use Rattle.std.specs.Option.{option_and_then}
use Rattle.serde_json.specs.Data as json
use Rattle.serde_json.specs.Find.{of_integer}
use Rattle.tw_types.specs.DataType.{has_sums, is_container_by, is_map_by}
use Rattle.tw_types.specs.declared.data_type.Scalar.{Scalar}
use Rattle.tw_types.specs.declared.data_type.Scalar.TheVariants as scalar
use Rattle.tw_types.specs.declared.value.Value.{Value}
use Rattle.tw_types.specs.declared.value.Value.TheVariants as value
use Rattle.tw_types.specs.Nesting.{NestedScalar}
use Rattle.tw_types.specs.Store.{Content, Unset, Set, Contains, Maps, Datum, Data, is_closed}
use Rattle.tw_types.specs.StoreCalls.{members_in, value_in}
use Rattle.tw_types.specs.ValueOrder.{Subscript}
use Rattle.tw_report.specs.Report.{scalar_word}

abbrev pub scalar_json : Value → json.Data
scalar_json (value.Int n) = json.number (of_integer n)
scalar_json (value.Text text) = json.string text

-- returns a scalar's value, if it has one, else null
abbrev pub value_json : Option Value → json.Data
value_json None = json.null
value_json (Some v) = scalar_json v

abbrev pub datum_json : Option Datum → json.Data
datum_json x = value_json (option_and_then (λ d. value_in d.content) x)

-- returns the key of a member: its subscript, in decimal digits if that is an integer
abbrev pub key_of : Subscript → List ℕ
key_of (value.Int n) = signed_decimal n
key_of (value.Text text) = text

-- adds members to an object, one after the other
abbrev pub with_members : Data → json.Members → List (Subscript × ℕ) → json.Members
with_members live members [] = members
with_members live members (e ∷ es) = with_members live (json.put (key_of e.0) (datum_json (fin.get live e.1)) members) es

-- returns the members of a container, which are scalars, each by its subscript
abbrev pub members_json : Data → List (Subscript × ℕ) → json.Members
members_json live members = with_members live json.no_members members

-- adds values to an object, one after the other
abbrev pub with_values : json.Members → List (Subscript × Value) → json.Members
with_values members [] = members
with_values members (e ∷ es) = with_values (json.put (key_of e.0) (scalar_json e.1) members) es

-- returns the values of a map, each by its subscript
abbrev pub values_json : List (Subscript × Value) → json.Members
values_json es = with_values json.no_members es

abbrev pub content_json : Data → Content → json.Data
content_json live Unset = json.null
content_json live (Set v) = scalar_json v
content_json live (Contains members) = json.object (members_json live (fin.entries members))
content_json live (Maps values) = json.object (values_json (fin.entries values))

-- returns an output's value; null if it is unset or was freed
abbrev pub output_json : Data → Option Datum → json.Data
output_json live None = json.null
output_json live (Some x) = content_json live x.content

abbrev pub outputs_json : Data → List ℕ → List json.Data
outputs_json live ids = map (λ id. output_json live (fin.get live id)) ids

-- ---- kinds, which distinguish an unset output from a freed one, and an open container from a closed one, in the words of the report's lines

-- returns a kind, by the types of subscripts and of what they lead to
abbrev pub kind_words : List ℕ → List ℕ → Bool → List ℕ
kind_words by of closed = by ++ (codes " " ++ (of ++ (if closed then codes " closed" else codes " open")))

abbrev pub container_kind : Bool → Scalar → Bool → List ℕ
container_kind by_text scalar closed = kind_words (if by_text then codes "tcont" else codes "cont") (scalar_word scalar) closed

-- returns the type of a map's values; none is sums'
abbrev pub values_word : Option Scalar → List ℕ
values_word None = codes "sum"
values_word (Some scalar) = scalar_word scalar

abbrev pub map_kind : Bool → Option Scalar → Bool → List ℕ
map_kind by_text values closed = kind_words (if by_text then codes "tmap" else codes "map") (values_word values) closed

-- returns the type of a map's values, or none for sums
abbrev pub values_of : NestedScalar → Option Scalar
values_of ty = if has_sums ty.map then None else Some ty.scalar

abbrev pub content_kind : Datum → Content → List ℕ
content_kind x Unset = codes "unset"
content_kind x (Set (value.Int n)) = codes "int"
content_kind x (Set (value.Text text)) = codes "text"
content_kind x (Contains members) = container_kind (is_container_by scalar.Text x.ty) x.ty.scalar (is_closed x)
content_kind x (Maps values) = map_kind (is_map_by scalar.Text x.ty) (values_of x.ty) (is_closed x)

abbrev pub datum_kind : Option Datum → List ℕ
datum_kind None = codes "gone"
datum_kind (Some x) = content_kind x x.content

abbrev pub kinds_json : Data → List ℕ → List json.Data
kinds_json live ids = map (λ id. json.string (datum_kind (fin.get live id))) ids
