-- The inputs of a program as a JSON array: an integer is a number, a text a string, and a container or a map an object of its members or values by
-- subscript. An array of values is a map whose subscripts are 0 and the integers after it.
use Rattle.std.specs.Prelude.{◌≡◌, ℕ, ℤ, pos, suc, Bool, true, false, List, [], ◌∷◌, ◌++◌, codes, decimal, map, length, Option, Some, None, option_map, slice_get}
use Rattle.std.specs.List.{Contains}
use Rattle.std.specs.Cmp.Lexicographic.{slice_cmp}
use Rattle.std.specs.List.Sorted.{IsPermutation, IsSortedByKey}
use Rattle.std.specs.Ordering.{int_cmp, nat_cmp}
use Rattle.std.specs.declared.cmp.Ordering.{Ordering}
use Rattle.std.specs.Option.{option_and_then, option_map_or}
use Rattle.std.specs.Result.{result_ok}
use Rattle.json.specs.Find.{as_number, as_str}
use Rattle.json.specs.Json.{Json, null, boolean, number, string, array, object, Items, Members, no_members, member, if_last, value}
use Rattle.json.specs.Lex.{tokens}
use Rattle.json.specs.Value.{items_of, value_view}
use Rattle.json.specs.declared.value.Value.{Value}
use Rattle.std.specs.Borrow.{Bor}
use Rattle.tw_types.specs.DataType.{has_subscripts_by, is_map_by, scalar_type}
use Rattle.tw_types.specs.Nesting.{NestedScalar}
use Rattle.tw_types.specs.declared.data_type.Scalar.{Scalar}
use Rattle.tw_types.specs.declared.data_type.Scalar.TheVariants as scalar
use Rattle.tw_types.specs.declared.input.Input.{Input}
use Rattle.tw_types.specs.declared.input.Input.TheVariants as input
use Rattle.tw_types.specs.declared.param.Param.{Param}
use Rattle.tw_code.specs.machine.Inputs.{input_params}
use Rattle.tw_lexer.specs.Digits.{signed_in}
use Rattle.tw_inputs.specs.declared.json_inputs.NoInputs.{NoInputs}
use Rattle.tw_inputs.specs.declared.json_inputs.NoInputs.TheVariants.{At, NoMemory}
use Rattle.tw_inputs.specs.declared.json_inputs.Place.{Place}
use Rattle.tw_inputs.specs.declared.json_inputs.Place.TheVariants as place

-- ---- scalars

-- returns the integer of 64 bits that a text writes in decimal digits, with or without `-` before them
abbrev pub int_in : List ℕ → Option ℤ
int_in text = result_ok (signed_in text)

abbrev pub int_json : Json → Option ℤ
int_json j = option_and_then int_in (as_number j)

-- ---- members

abbrev pub entries : Members → List (List ℕ × Json)
entries no_members = []
entries (member key j ms) = (key, j) ∷ entries ms

-- returns a key and a value as definitions see them
abbrev pub entry_of : {A : Type 0} → Bor (List ℕ) × Value A → List ℕ × Json
entry_of m = (m.0.now, value_view m.1)

-- returns the member that a key and a value are, if they are one
abbrev pub member_in : {K V : Type 0} → (List ℕ → Option K) → (Json → Option V) → List ℕ × Json → Option (K × V)
member_in key value m = option_and_then (λ k. option_map (λ v. (k, v)) (value m.1)) (key m.0)

abbrev pub members_in : {K V : Type 0} → (List ℕ → Option K) → (Json → Option V) → Members → List (Option (K × V))
members_in key value ms = map (member_in key value) (entries ms)

-- holds for the members of an object in the order of their subscripts: none is before the one that it follows
abbrev pub AreMembers : {K V : Type 0} → (K → K → Ordering) → (List ℕ → Option K) → (Json → Option V) → Members → List (K × V) → Type 0
AreMembers {K} {V} order key value ms es =
    (read : List (K × V)) × (map Some read ≡ members_in key value ms) × IsPermutation read es × IsSortedByKey (λ (e : K × V). e.0) order es

-- holds if a key or a value of an object is of another type
abbrev pub NoMembers : {K V : Type 0} → (List ℕ → Option K) → (Json → Option V) → Members → Type 0
NoMembers key value ms = Contains (members_in key value ms) None

-- ---- one input

-- holds for the container that an object is, by whether its subscripts are texts, and by the type of its values
abbrev pub IsContainer : Bool → Scalar → Members → Input → Type 0
IsContainer false scalar.Int ms given = (es : List (ℤ × ℤ)) × AreMembers int_cmp int_in int_json ms es × (given ≡ input.Ints es)
IsContainer false scalar.Text ms given = (es : List (ℤ × List ℕ)) × AreMembers int_cmp int_in as_str ms es × (given ≡ input.Texts es)
IsContainer true scalar.Int ms given = (es : List (List ℕ × ℤ)) × AreMembers (slice_cmp nat_cmp) Some int_json ms es × (given ≡ input.IntsByText es)
IsContainer true scalar.Text ms given = (es : List (List ℕ × List ℕ)) × AreMembers (slice_cmp nat_cmp) Some as_str ms es × (given ≡ input.TextsByText es)

-- returns what an array has at the subscripts from `n` on: nothing for an item that is no such value
abbrev pub numbered : {V : Type 0} → (Json → Option V) → ℕ → List Json → List (Option (ℤ × V))
numbered value n [] = []
numbered value n (j ∷ js) = option_map (λ v. (pos n, v)) (value j) ∷ numbered value (suc n) js

-- holds for the map with int subscripts that an array is, by the type of its values
abbrev pub IsListed : Scalar → List Json → Input → Type 0
IsListed scalar.Int js given = (es : List (ℤ × ℤ)) × (map Some es ≡ numbered int_json 0 js) × (given ≡ input.Ints es)
IsListed scalar.Text js given = (es : List (ℤ × List ℕ)) × (map Some es ≡ numbered as_str 0 js) × (given ≡ input.Texts es)

-- holds for the input that a JSON value is. The parameter's type decides only which container an object is, and whether an array is a map: whether
-- it is the input's type is compared when the program is opened.
abbrev pub IsInput : NestedScalar → Json → Input → Type 0
IsInput ty null given = ⊥
IsInput ty (boolean b) given = ⊥
IsInput ty (number s) given = (n : ℤ) × (int_in s ≡ Some n) × (given ≡ input.Int n)
IsInput ty (string s) given = given ≡ input.Text s
IsInput ty (array items) given = (js : List Json) × (items ≡ items_of js) × (is_map_by scalar.Int ty ≡ true) × IsListed ty.scalar js given
IsInput ty (object ms) given = IsContainer (has_subscripts_by scalar.Text ty) ty.scalar ms given

-- ---- all inputs

-- returns the JSON value that a text is, if its arrays and objects nest at most 16 deep
abbrev pub json_in : List ℕ → Option Json
json_in text = option_and_then (λ p. if_last p.0 p.1) (value 16 (tokens text))

-- returns the type of the parameter of the input after so many, or `int` beyond the parameters
abbrev pub type_at : List Param → ℕ → NestedScalar
type_at params index = option_map_or (λ p. p.ty) (slice_get (input_params params) index) (scalar_type scalar.Int)

-- holds if each item, after so many others, is the input for its parameter
abbrev pub AreInputsFrom : List Param → ℕ → List Json → List Input → Type 0
AreInputsFrom params index [] [] = Unit {0}
AreInputsFrom params index [] (given ∷ inputs) = ⊥
AreInputsFrom params index (j ∷ js) [] = ⊥
AreInputsFrom params index (j ∷ js) (given ∷ inputs) = IsInput (type_at params index) j given × AreInputsFrom params (suc index) js inputs

-- holds if a JSON value is an array of the inputs for these parameters
abbrev pub AreInputsOf : List Param → Option Json → List Input → Type 0
AreInputsOf params found inputs = (js : List Json) × (found ≡ Some (array (items_of js))) × AreInputsFrom params 0 js inputs

-- holds if the text is such an array
abbrev pub AreInputsIn : List Param → List ℕ → List Input → Type 0
AreInputsIn params text inputs = AreInputsOf params (json_in text) inputs

-- ---- faults

-- the first item that is no input for its parameter comes after these, which are
pub record IsFirstBad (params : List Param) (js : List Json) (index : ℕ) : Type 0 where
  pub inputs : List Input
  pub before : List Json
  pub item : Json
  pub later : List Json
  pub parts : js ≡ before ++ item ∷ later
  pub count : length before ≡ index
  pub read : AreInputsFrom params 0 before inputs
  pub bad : (given : Input) → IsInput (type_at params index) item given → ⊥

-- holds for the reason why one of the items is no input
abbrev pub IsBadItem : List Param → List Json → NoInputs → Type 0
IsBadItem params js (At place.Text) = ⊥
IsBadItem params js (At place.Array) = ⊥
IsBadItem params js (At (place.Item n)) = (index : ℕ) × (n ≡ suc index) × IsFirstBad params js index
IsBadItem params js NoMemory = Unit {0}

abbrev pub IsNoArray : Json → Type 0
IsNoArray j = (js : Items) → j ≡ array js → ⊥

-- holds for what of a JSON value, if there is one, has no inputs; items count from 1
abbrev pub HasFaultOf : List Param → Option Json → Place → Type 0
HasFaultOf params found place.Text = found ≡ None
HasFaultOf params found place.Array = (j : Json) × (found ≡ Some j) × IsNoArray j
HasFaultOf params found (place.Item n) = (js : List Json) × (found ≡ Some (array (items_of js))) × IsBadItem params js (At (place.Item n))

abbrev pub HasFaultAt : List Param → List ℕ → Place → Type 0
HasFaultAt params text at = HasFaultOf params (json_in text) at

-- hold for the reason why a JSON value, or the text, has no inputs for these parameters
abbrev pub HasNoInputs : List Param → Option Json → NoInputs → Type 0
HasNoInputs params found (At place) = HasFaultOf params found place
HasNoInputs params found NoMemory = Unit {0}

abbrev pub HasFault : List Param → List ℕ → NoInputs → Type 0
HasFault params text why = HasNoInputs params (json_in text) why

-- ---- lines of an error

-- returns the first line: which input is refused, or that all are
abbrev pub first_line : Place → List ℕ
first_line place.Text = codes "inputs refused\n"
first_line place.Array = codes "inputs refused\n"
first_line (place.Item n) = codes "input " ++ (decimal n ++ codes " refused\n")

-- holds for this line and one that says where and why
abbrev pub IsFaultText : Place → List ℕ → Type 0
IsFaultText place text = (more : List ℕ) × (text ≡ first_line place ++ more)
