-- Rows of the table, and the places that they describe.
use Rattle.std.specs.Prelude.{◌≡◌, ℕ, ◌+◌, ◌≤◌, min, List, length, Some, slice_get}
use Rattle.tw_code.specs.declared.flow.Flow.{Flow}
use Rattle.tw_code.specs.accepting.Structure.{end_of}
use Rattle.tw_bounds.specs.declared.row.Row.{Row}
use Rattle.tw_bounds.specs.Bounds.{cost_in}
use Rattle.tw_bounds.specs.GreatestCost.{greatest_cost}

abbrev pub greatest_bound : ℕ
greatest_bound = 1000000000000

-- costs over the greatest bound are capped at this
abbrev pub cap : ℕ
cap = greatest_bound + 1

-- the greatest cost of one instruction
abbrev pub most_cost : ℕ
most_cost = 2000000000000

abbrev pub AreSmall : List ℕ → Type 0
AreSmall costs = (place : ℕ) → cost_in costs place ≤ most_cost

pub record IsRow (cost : ℕ → ℕ) (code : List Flow) (place : ℕ) (row : Row) : Type 0 where
  pub ends : row.end ≡ end_of code place
  pub greatest : row.greatest_cost ≡ min (greatest_cost cost code place) cap

-- the rows from a place on are computed
pub record RowsFrom (cost : ℕ → ℕ) (code : List Flow) (rows : List Row) (from : ℕ) : Type 0 where
  pub long : length rows ≡ length code
  pub each : (place : ℕ) (row : Row) → from ≤ place → slice_get rows place ≡ Some row → IsRow cost code place row
