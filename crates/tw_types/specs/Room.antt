-- Bounds below which one more right can be counted.
use Rattle.std.specs.Prelude.{◌<◌, ◌^◌, Option, Some, None}
use Rattle.tw_types.specs.Store.{Datum}

-- holds if one more read, or one more write, can be counted
abbrev pub HasReadRoom : Option Datum → Type 0
HasReadRoom None = Unit {0}
HasReadRoom (Some x) = x.reads < 2 ^ 63

abbrev pub HasWriteRoom : Option Datum → Type 0
HasWriteRoom None = Unit {0}
HasWriteRoom (Some x) = x.writes < 2 ^ 63
