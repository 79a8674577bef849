-- The model of a run queue.
use Rattle.std.specs.Prelude.{◌≡◌, Bool, List, [], ◌∷◌, Option, Some, None, ⊤}
use Rattle.std.specs.List.{Contains}
use Rattle.std.specs.BinaryHeap.{IsUpperBound}
use Rattle.tw_queue.specs.declared.rank.Rank.{Rank}
use Rattle.tw_queue.specs.Ranks.{rank_cmp}

-- the ranks, in any order; and whether there is memory for one more
pub record RunQueueView : Type 0 where
  pub ranks : List Rank
  pub has_room : Bool

-- holds for the greatest rank of the list
abbrev pub IsFirst : List Rank → Option Rank → Type 0
IsFirst ranks None = ranks ≡ []
IsFirst ranks (Some rank) = Contains ranks rank × IsUpperBound rank_cmp rank ranks

-- holds if none is greater than one before it
abbrev pub IsInOrder : List Rank → Type 0
IsInOrder [] = ⊤
IsInOrder (rank ∷ ranks) = IsUpperBound rank_cmp rank ranks × IsInOrder ranks

-- holds if the first of the one list is at least as great as all of the other, or both are empty
abbrev pub IsInFront : List Rank → List Rank → Type 0
IsInFront [] others = others ≡ []
IsInFront (rank ∷ ranks) others = IsUpperBound rank_cmp rank others
