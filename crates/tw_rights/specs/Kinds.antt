-- The kinds of the rights in a file.
use Rattle.std.specs.Prelude.{ℕ, Bool, true, false, List, None, Option, map as each, option_map, slice_index_or}
use Rattle.tw_rights.specs.declared.held.Held.{Held}
use Rattle.tw_rights.specs.declared.held.Held.TheVariants.{Read, Write}

-- returns whether it is a write right
abbrev pub writes : Held → Bool
writes (Read right) = false
writes (Write right) = true

-- returns for each register whether it has a write right, if it has a right
abbrev pub kinds_of : List (Option Held) → List (Option Bool)
kinds_of file = each (option_map writes) file

abbrev pub kind_at : List (Option Held) → ℕ → Option Bool
kind_at file register = option_map writes (slice_index_or file register None)
