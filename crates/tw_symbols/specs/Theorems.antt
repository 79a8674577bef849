-- Theorems on texts whose names are replaced. The second text has as many lines that aren't hidden, so counting these gives a line's number. The names of a
-- procedure's registers differ, and stay up to the next head.
use Rattle.std.specs.Prelude.{◌≡◌, ℕ, false, List, Some, filter, length, slice_get}
use Rattle.std.specs.Str.Lines.{lines}
use Rattle.tw_symbols.specs.Lines.{begins_procedure}
use Rattle.tw_symbols.specs.Meanings.{Names, Procedures, Table, meaning}
use Rattle.tw_symbols.specs.Renamed.{IsLine, IsRenamed, is_written}
use Rattle.tw_symbols.specs.declared.meaning.Bank.{Bank}
use Rattle.tw_symbols.specs.declared.meaning.Binding.{Binding}
use Rattle.tw_symbols.specs.declared.meaning.Binding.TheVariants as binding
use Rattle.tw_symbols.specs.declared.meaning.Origin.TheVariants as origin

abbrev pub AsManyLines : Type 0
AsManyLines = (text plain : List ℕ) → IsRenamed text plain → length (filter is_written (lines plain)) ≡ length (lines text)

-- holds if a register was listed or made by this name
abbrev pub IsListedAs : Table → List ℕ → Bank → ℕ → Type 0
IsListedAs table name in_bank number = (i : ℕ) × (slice_get table i ≡ Some (name, binding.Register in_bank number origin.Listed))

-- holds if names by which registers were listed or made mean different registers
abbrev pub DifferAll : Table → Type 0
DifferAll table = (name other : List ℕ) (in_bank : Bank) (number : ℕ) → IsListedAs table name in_bank number → IsListedAs table other in_bank number → name ≡ other

-- holds if they still do after each line
abbrev pub NamesDiffer : Type 0
NamesDiffer = (procedures : Procedures) (number : ℕ) (names after : Names) (words plains : List (List ℕ))
    → IsLine procedures number names words plains after → DifferAll names.registers → DifferAll after.registers

-- holds if the name of a register keeps its meaning after each line that begins no procedure
abbrev pub NamesStay : Type 0
NamesStay = (procedures : Procedures) (number : ℕ) (names after : Names) (words plains : List (List ℕ)) (name : List ℕ) (x : Binding)
    → IsLine procedures number names words plains after → begins_procedure words ≡ false → meaning name names.registers ≡ Some x → meaning name after.registers ≡ Some x
