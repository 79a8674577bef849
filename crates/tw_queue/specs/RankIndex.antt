-- The index of the ranks, and its changes.
use Rattle.std.specs.Prelude.{◌≡◌, ◌⊎◌, ◌&&◌, ℕ, Bool, List, ◌∷◌, map, Option, None}
use Rattle.std.specs.List.Sorted.{IsPermutation}
use Rattle.tw_types.specs.declared.actor.Actor.{Actor}
use Rattle.tw_types.specs.declared.actor.Actor.TheVariants.{Engine, Server, Worker}
use Rattle.tw_types.specs.declared.actor.Kind.{Kind}
use Rattle.tw_types.specs.declared.actor.Kind.TheVariants.{Control, Leaf}
use Rattle.tw_queue.specs.declared.index.RankIndex.{RankIndex}
use Rattle.tw_queue.specs.declared.rank.Rank.{Rank}
use Rattle.tw_queue.specs.QueuesByTarget.{Listed, ranks_at, IsBest, AreRoomsKept}
use Rattle.tw_queue.specs.Queues.{room_at}

-- the ranks of a kind in a run queue
abbrev pub Ranking : Type 0
Ranking = Kind → ℕ → List Rank

abbrev pub listed : Kind → RankIndex → Listed
listed Control index = index.control
listed Leaf index = index.leaf

abbrev pub ranks_of : RankIndex → Ranking
ranks_of index kind queue = ranks_at (listed kind index).queues queue

abbrev pub has_room_for : Kind → ℕ → RankIndex → Bool
has_room_for kind queue index = room_at (listed kind index).rooms queue

-- holds if memory reserved for a rank is still there
abbrev pub KeepsRoom : RankIndex → RankIndex → Type 0
KeepsRoom old new = (kind : Kind) → AreRoomsKept (listed kind old).rooms (listed kind new).rooms

-- returns where a task can be added without an allocation: where its rank fits, if there is a slot too
abbrev pub rooms_with : Bool → List Bool → List Bool
rooms_with has_slot rooms = map (λ has_room. has_slot && has_room) rooms

-- holds if only this run queue of this kind has changed
abbrev pub IsHereOrSame : Kind → ℕ → Ranking → Ranking → Type 0
IsHereOrSame kind queue old new = (k : Kind) (p : ℕ) → ((k ≡ kind) × (p ≡ queue)) ⊎ (new k p ≡ old k p)

-- the second ranking has one rank more than the first there
pub record IsRankAdded (kind : Kind) (queue : ℕ) (rank : Rank) (less more : Ranking) : Type 0 where
  pub here : IsPermutation (rank ∷ less kind queue) (more kind queue)
  pub others : IsHereOrSame kind queue less more

-- holds if the rank was removed from its kind and run queue
abbrev pub IsRankRemoved : Rank → Ranking → Ranking → Type 0
IsRankRemoved rank old new = (kind : Kind) × (queue : ℕ) × IsRankAdded kind queue rank new old

-- holds for the first rank of those that the actor may take
abbrev pub IsRankBest : Actor → Ranking → Option Rank → Type 0
IsRankBest (Engine number) ranks best = IsBest number (ranks Control) best
IsRankBest (Server number) ranks best = best ≡ None
IsRankBest (Worker number) ranks best = IsBest number (ranks Leaf) best
