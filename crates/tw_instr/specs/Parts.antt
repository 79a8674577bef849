-- The data, by the parts in which they are stored.
use Rattle.std.specs.Prelude.{ℕ, List}
use Rattle.std.specs.Ordering.{nat_cmp}
use Rattle.std.specs.FinMap.{from_entries}
use Rattle.tw_types.specs.Store.{Data, Datum, Store}
use Rattle.tw_types.specs.Mapped.{mapped}
use Rattle.tw_datum.specs.Kept.{KeptDatum}

-- returns a datum whose members are stored as ids
abbrev pub bare : KeptDatum ℕ → Datum
bare d = d.datum

abbrev pub data_of : List (ℕ × KeptDatum ℕ) → Data
data_of es = mapped bare (from_entries {R = nat_cmp} es)

abbrev pub store_of : List (ℕ × KeptDatum ℕ) → ℕ → Store
store_of es next = record { live = data_of es; next = next }
