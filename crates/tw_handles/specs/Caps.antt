-- Caps on the runs of a loaded program, and the bounds of its runs.
use Rattle.std.specs.Prelude.{◌≡◌, ◌⊎◌, ◌<◌, ◌≤◌, ◌∷◌}
use Rattle.tw_handles.specs.Names.{[], ℕ, Bool, true, List, Option, Some, None, slice_get, unwrap_or, Procedure, TypedProgram}
use Rattle.tw_bounds.specs.Least.{AreLeastBounds, LeastRuns}
use Rattle.tw_bounds.specs.declared.bound.Bound.{Bound}
use Rattle.tw_bounds.specs.declared.bound.Bound.TheVariants.{AtMost, Over, Endless}
use Rattle.tw_bounds.specs.declared.limited.LimitedBounds.{LimitedBounds}
use Rattle.tw_order.specs.Orders.{greatest_cap}
use Rattle.tw_order.specs.declared.caps.Caps.{Caps}
use Rattle.tw_program_output.specs.Admission.{IsJudged}
use Rattle.tw_handles.specs.Asking.{Fails}
use Rattle.tw_handles.specs.Codes.{done, no_limit, no_memory}
use Rattle.tw_handles.specs.Numbers.{filled}

-- ---- caps

-- the greatest cap is none
abbrev pub listed_cap : List ℕ → ℕ → ℕ
listed_cap numbers index = unwrap_or (slice_get numbers index) greatest_cap

-- the caps of a list, in this order; it has none for those that it lacks
abbrev pub listed_caps : List ℕ → Caps
listed_caps numbers = record {
  tasks = listed_cap numbers 0;
  instructions = listed_cap numbers 1;
  «data» = listed_cap numbers 2;
  bytes = listed_cap numbers 3;
  budget = listed_cap numbers 4;
  members = listed_cap numbers 5;
  rules = listed_cap numbers 6;
}

-- holds for a limit from 1 to 1,000,000
abbrev pub IsLimit : ℕ → Type 0
IsLimit limit = (1 ≤ limit) × (limit ≤ 1000000)

-- Whether no bound of the program is above its cap. With a limit out of its range none is, since no run is opened.
abbrev pub IsDecided : List Procedure → ℕ → Caps → Bool → Type 0
IsDecided program limit caps within = (IsLimit limit × IsJudged program (Some limit) caps within) ⊎ ((IsLimit limit → ⊥) × (within ≡ true))

-- ---- bounds

-- returns 2 ^ 64 - 2 for a bound over the largest, and 2 ^ 64 - 1 if there is none
abbrev pub number_of : Bound → ℕ
number_of (AtMost n) = n
number_of Over = 18446744073709551614
number_of Endless = 18446744073709551615

-- returns the bounds of tasks, instructions, data, members, rules, bytes and events
abbrev pub numbers_of : LimitedBounds → List ℕ
numbers_of bounds =
    number_of bounds.tasks ∷ number_of bounds.instructions ∷ number_of bounds.«data» ∷ number_of bounds.members ∷ number_of bounds.rules ∷ number_of bounds.bytes ∷ number_of bounds.events ∷ []

-- holds if these are main's bounds, or the smaller of them and those of the limit, and each such run stays within them; or an allocation failed
abbrev pub AreFound : TypedProgram → Option ℕ → List ℕ → List ℕ → ℕ → Type 0
AreFound verified limit old new code =
    ((bounds : LimitedBounds) × AreLeastBounds verified.program limit bounds × LeastRuns verified.program limit bounds × (new ≡ filled (numbers_of bounds) old) × (code ≡ done)) ⊎ Fails no_memory old new code

-- holds if these are the bounds of all runs, by the limit 0, or of those with at most so many events, or there are no runs with such a limit
abbrev pub AreBoundsIn : TypedProgram → ℕ → List ℕ → List ℕ → ℕ → Type 0
AreBoundsIn verified limit old new code =
    ((limit ≡ 0) × AreFound verified None old new code) ⊎ (IsLimit limit × AreFound verified (Some limit) old new code) ⊎ ((1000000 < limit) × Fails no_limit old new code)
