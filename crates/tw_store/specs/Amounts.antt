-- How much a store holds: members of containers and values of maps, and bytes of texts.
use Rattle.std.specs.Prelude.{ℕ, ◌+◌, length, min, Option, Some, None}
use Rattle.std.specs.List.{sum_by}
use Rattle.tw_types.specs.declared.value.Value.{Value}
use Rattle.tw_types.specs.declared.value.Value.TheVariants as value
use Rattle.tw_types.specs.Store.{Data, Datum}
use Rattle.tw_types.specs.StoreCalls.{count_in, entries_in, subscripts_of, value_in}
use Rattle.tw_types.specs.Totals.{total}
use Rattle.tw_store.specs.declared.amounts.Amounts.{Amounts}

-- returns the greatest number of 64 bits for a larger one
abbrev pub capped : ℕ → ℕ
capped number = min number 18446744073709551615

-- counts the members of a container, or the values of a map; a scalar has none
abbrev pub member_count : Datum → ℕ
member_count x = count_in x.content

-- counts the bytes of a text; an integer has none
abbrev pub text_bytes : Value → ℕ
text_bytes (value.Int n) = 0
text_bytes (value.Text text) = length text

abbrev pub text_bytes_if : Option Value → ℕ
text_bytes_if None = 0
text_bytes_if (Some v) = text_bytes v

-- counts the bytes of a datum's texts: of a scalar's value, of the subscripts, and of a map's values
abbrev pub byte_count : Datum → ℕ
byte_count x = text_bytes_if (value_in x.content) + (sum_by text_bytes (subscripts_of x.content) + total text_bytes (entries_in x.content))

abbrev pub amounts_in : Data → Amounts
amounts_in live = record { members = capped (total member_count live); bytes = capped (total byte_count live) }
