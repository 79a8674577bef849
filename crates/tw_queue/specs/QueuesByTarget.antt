-- The model of the run queues of one kind.
use Rattle.std.specs.Prelude.{◌≡◌, ℕ, ◌<◌, ◌⊎◌, Bool, true, List, [], ◌∷◌, map, Option, Some, None, IfSome, slice_index_or}
use Rattle.std.specs.List.{Contains}
use Rattle.std.specs.List.Sorted.{IsPermutation}
use Rattle.std.specs.BinaryHeap.{IsUpperBound}
use Rattle.tw_queue.specs.declared.rank.Rank.{Rank}
use Rattle.tw_queue.specs.RunQueues.{RunQueueView, IsFirst}
use Rattle.tw_queue.specs.Ranks.{rank_cmp}
use Rattle.tw_queue.specs.Queues.{room_at}

-- the ranks in each run queue, in any order; and for each whether there is memory for one more
pub record Listed : Type 0 where
  pub queues : List (List Rank)
  pub rooms : List Bool

abbrev pub ranks_in : List RunQueueView → List (List Rank)
ranks_in queues = map (λ queue. queue.ranks) queues

abbrev pub rooms_in : List RunQueueView → List Bool
rooms_in queues = map (λ queue. queue.has_room) queues

abbrev pub seen : List RunQueueView → Listed
seen queues = record { queues = ranks_in queues; rooms = rooms_in queues }

-- holds if reserved memory is still there
abbrev pub AreRoomsKept : List Bool → List Bool → Type 0
AreRoomsKept old new = (queue : ℕ) → room_at old queue ≡ true → room_at new queue ≡ true

abbrev pub ranks_at : List (List Rank) → ℕ → List Rank
ranks_at queues queue = slice_index_or queues queue []

-- holds if only this run queue has changed
abbrev pub IsChangedAt : ℕ → (ℕ → List Rank) → (ℕ → List Rank) → Type 0
IsChangedAt queue old new = (p : ℕ) → (p ≡ queue) ⊎ (new p ≡ old p)

-- holds if one rank was added
abbrev pub IsPushed : ℕ → Rank → (ℕ → List Rank) → (ℕ → List Rank) → Type 0
IsPushed queue rank old new = IsPermutation (rank ∷ old queue) (new queue) × IsChangedAt queue old new

-- holds for the first rank of a run queue, if it is one of the 17
abbrev pub IsFirstAt : ℕ → List (List Rank) → Option Rank → Type 0
IsFirstAt queue queues first = IsFirst (ranks_at queues queue) first × IfSome first (λ rank. queue < 17)

-- holds if no rank for any actor and none for this number is greater
abbrev pub IsAheadOfAll : Rank → ℕ → (ℕ → List Rank) → Type 0
IsAheadOfAll rank number ranks = IsUpperBound rank_cmp rank (ranks 16) × IsUpperBound rank_cmp rank (ranks number)

-- holds for the run queue of any actor, or of this number
abbrev pub IsOwnQueue : ℕ → ℕ → Type 0
IsOwnQueue number queue = (queue ≡ 16) ⊎ (queue ≡ number)

-- holds for the run queue and the rank that an actor of this number takes
abbrev pub IsBestQueue : ℕ → List (List Rank) → Option (ℕ × Rank) → Type 0
IsBestQueue number queues None = (ranks_at queues 16 ≡ []) × (ranks_at queues number ≡ [])
IsBestQueue number queues (Some best) =
    (best.0 < 17) × IsOwnQueue number best.0 × Contains (ranks_at queues best.0) best.1
    × IsAheadOfAll best.1 number (ranks_at queues)

-- holds for the rank that it takes
abbrev pub IsBest : ℕ → (ℕ → List Rank) → Option Rank → Type 0
IsBest number ranks None = (ranks 16 ≡ []) × (ranks number ≡ [])
IsBest number ranks (Some rank) =
    (queue : ℕ) × IsOwnQueue number queue × Contains (ranks queue) rank × IsAheadOfAll rank number ranks

-- holds if the rank was removed from its run queue
abbrev pub IsTaken : Rank → (ℕ → List Rank) → (ℕ → List Rank) → Type 0
IsTaken rank old new =
    (queue : ℕ) × IsPermutation (old queue) (rank ∷ new queue) × IsChangedAt queue old new
