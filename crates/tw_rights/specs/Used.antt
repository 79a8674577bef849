-- The registers at the end of a file that are empty.
use Rattle.std.specs.Prelude.{◌≡◌, ◌≤◌, ℕ, List, length, None, Option, slice_index_or}
use Rattle.tw_rights.specs.declared.held.Held.{Held}

-- no register from this one on has a right
pub record IsUsed (file : List (Option Held)) (used : ℕ) : Type 0 where
  pub sixteen : length file ≡ 16
  pub few : used ≤ 16
  pub rest : (place : ℕ) → used ≤ place → slice_index_or file place None ≡ None
