-- Sorted lists of entries, and the two ways in which entries are stored.
use Rattle.std.specs.Prelude.{◌≡◌, ◌⊎◌, ℕ, List, [], ◌∷◌, ◌++◌, length}
use Rattle.std.specs.declared.cmp.Ordering.TheVariants.{Equal, Greater}
use Rattle.tw_types.specs.declared.value.Value.{Value}
use Rattle.tw_types.specs.ValueOrder.{value_cmp}
use Rattle.tw_datum.specs.declared.run_or_tree.Entries.{Entries}
use Rattle.tw_datum.specs.declared.run_or_tree.Entries.TheVariants.{Run, Tree}

-- the entry at a place has this key
pub record IsEntryAt {V : Type 0} (key : Value) (run : List (Value × V)) (place : ℕ) : Type 0 where
  pub before : List (Value × V)
  pub own : Value × V
  pub after : List (Value × V)
  pub is : run ≡ before ++ own ∷ after
  pub at : length before ≡ place
  pub same : value_cmp key own.0 ≡ Equal

-- holds if a key is greater than the last one of a list
abbrev pub IsAbove : {V : Type 0} → Value → List (Value × V) → Type 0
IsAbove {V} key run = (length run ≡ 0) ⊎ ((before : List (Value × V)) × (last : Value × V) × (run ≡ before ++ last ∷ []) × (value_cmp key last.0 ≡ Greater))

-- returns the entries in order
abbrev pub all_in : {V : Type 0} → Entries V → List (Value × V)
all_in (Run run) = run.items
all_in (Tree tree) = tree
