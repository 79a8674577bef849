-- The inputs of a program, as definitions see them.
use Rattle.std.specs.Prelude.{Bool, if◌then◌else◌, List, [], ◌∷◌, map}
use Rattle.std.specs.FinMap as fin
use Rattle.tw_types.specs.declared.data_type.Scalar.{Scalar}
use Rattle.tw_types.specs.declared.data_type.Scalar.TheVariants as scalar
use Rattle.tw_types.specs.declared.input.Input.{Input}
use Rattle.tw_types.specs.declared.input.Input.TheVariants as input
use Rattle.tw_types.specs.declared.value.Value.{Value}
use Rattle.tw_types.specs.declared.value.Value.TheVariants as value
use Rattle.tw_types.specs.DataType.{has_sums, is_map}
use Rattle.tw_types.specs.Nesting.{NestedScalar}
use Rattle.tw_types.specs.Store.{Values}
use Rattle.tw_types.specs.ValueOrder.{Subscript}

-- a value; or a container or a map: the type of its subscripts, the type of its values, and its members. A map says first whether it has
-- sums.
pub data Given : Type 0 where
  Single : Value → Given
  Container : Scalar → Scalar → List (Subscript × Value) → Given
  Entries : Bool → Scalar → Scalar → List (Subscript × Value) → Given

abbrev pub members_by : {K V : Type 0} → (K → Subscript) → (V → Value) → List (K × V) → List (Subscript × Value)
members_by subscript value es = map (λ e. (subscript e.0, value e.1)) es

abbrev pub given_by : Input → Given
given_by (input.Int n) = Single (value.Int n)
given_by (input.Text text) = Single (value.Text text)
given_by (input.Ints es) = Container scalar.Int scalar.Int (members_by value.Int value.Int es)
given_by (input.Texts es) = Container scalar.Int scalar.Text (members_by value.Int value.Text es)
given_by (input.IntsByText es) = Container scalar.Text scalar.Int (members_by value.Text value.Int es)
given_by (input.TextsByText es) = Container scalar.Text scalar.Text (members_by value.Text value.Text es)

-- returns what it is for a parameter of the type: members are those of a map if that is one
abbrev pub given_as : NestedScalar → Given → Given
given_as ty (Single x) = Single x
given_as ty (Container by scalar es) = if is_map ty then Entries (has_sums ty.map) by scalar es else Container by scalar es
given_as ty (Entries sums by scalar es) = Entries sums by scalar es

abbrev pub given_for : NestedScalar → Input → Given
given_for ty i = given_as ty (given_by i)

-- returns the values of a map at their subscripts
abbrev pub entered : List (Subscript × Value) → Values
entered [] = fin.empty
entered (e ∷ es) = fin.insert (entered es) e.0 e.1
