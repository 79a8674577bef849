-- Values that a map takes.
use Rattle.std.specs.Prelude.{◌≡◌, true, Option, Some, None}
use Rattle.tw_types.specs.declared.value.Value.{Value}
use Rattle.tw_types.specs.DataType.{is_map_of}
use Rattle.tw_types.specs.Store.{Datum}
use Rattle.tw_types.specs.Value.{scalar_of}
use Rattle.tw_types.specs.ValueOrder.{Subscript}

-- holds if the datum is a map from such subscripts to such values
abbrev pub TakesValue : Subscript → Value → Option Datum → Type 0
TakesValue subscript value None = ⊥
TakesValue subscript value (Some x) = is_map_of (scalar_of subscript) (scalar_of value) x.ty ≡ true
