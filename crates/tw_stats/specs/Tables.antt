-- Tables of numbers by key.
use Rattle.std.specs.Prelude.{◌≡◌, ◌+◌, ◌≤◌, ◌==◌, ℕ, if◌then◌else◌, List, slice_index}
use Rattle.std.specs.List.{sum_by}
use Rattle.tw_stats.specs.declared.table.Table.{Table}

abbrev pub total : List ℕ → ℕ
total numbers = sum_by (λ n. n) numbers

abbrev pub number_at : Table → ℕ → ℕ
number_at t key = slice_index t.items.items key

abbrev pub sum_of : Table → ℕ
sum_of t = total t.items.items

-- holds if the number of a key is this one, and no other number has changed
abbrev pub IsSet : Table → ℕ → ℕ → Table → Type 0
IsSet old key number new = (k : ℕ) → number_at new k ≡ (if key == k then number else number_at old k)

-- the number of a key has grown by this amount, no other number has changed, and the sum has grown likewise
pub record IsAdded (old : Table) (key amount : ℕ) (new : Table) : Type 0 where
  pub each : (k : ℕ) → number_at new k ≡ number_at old k + (if key == k then amount else 0)
  pub sum : sum_of new ≡ sum_of old + amount

-- holds if no number exceeds this one
abbrev pub IsWithin : Table → ℕ → Type 0
IsWithin t most = (k : ℕ) → number_at t k ≤ most
