-- The ranks of the waiting tasks, and their changes.
use Rattle.std.specs.Prelude.{◌≡◌, ◌≤◌, ◌&&◌, ◌||◌, ℕ, Bool, true, false, if◌then◌else◌, Option, Some, None}
use Rattle.std.specs.declared.cmp.Ordering.{Ordering}
use Rattle.std.specs.BTreeMap.{BTreeMap, get}
use Rattle.std.specs.BTreeSet.{BTreeSet, contains}
use Rattle.std.specs.FinMap as map
use Rattle.std.specs.Option.{option_cmp}
use Rattle.std.specs.Ordering.{eq_by_cmp, is_lt, nat_cmp}
use Rattle.tw_types.specs.declared.actor.Actor.{Actor}
use Rattle.tw_types.specs.declared.actor.Actor.TheVariants.{Engine, Server, Worker}
use Rattle.tw_types.specs.declared.actor.Kind.{Kind}
use Rattle.tw_types.specs.declared.actor.Kind.TheVariants.{Control, Leaf}
use Rattle.tw_types.specs.Actor.{same_kind}
use Rattle.tw_types.specs.Task.{Task, Tasks}
use Rattle.tw_machine.specs.declared.rank.Rank.{Rank}
use Rattle.tw_machine.specs.declared.ranks.Ranks.{Ranks}
use Rattle.tw_machine.specs.Rank.{rank_cmp, rank_of}

-- a set for each target
abbrev pub Sets : Type 0
Sets = BTreeMap (Option ℕ) (BTreeSet Rank)

abbrev pub target_cmp : Option ℕ → Option ℕ → Ordering
target_cmp = option_cmp nat_cmp

-- returns whether the ranks of this target have this one
abbrev pub has_rank_in : Option (BTreeSet Rank) → Rank → Bool
has_rank_in None rank = false
has_rank_in (Some set) rank = contains rank_cmp set rank

abbrev pub has_rank_at : Sets → Option ℕ → Rank → Bool
has_rank_at sets target rank = has_rank_in (get target_cmp sets target) rank

-- returns the ranks of the tasks of a kind
abbrev pub sets_of : Ranks → Kind → Sets
sets_of ranks Control = ranks.control
sets_of ranks Leaf = ranks.leaf

abbrev pub has_rank : Ranks → Kind → Option ℕ → Rank → Bool
has_rank ranks kind target rank = has_rank_at (sets_of ranks kind) target rank

-- returns whether two targets are the same
abbrev pub same_target : Option ℕ → Option ℕ → Bool
same_target target other = eq_by_cmp target_cmp target other

-- returns whether the rank is that of the task, which has its number, and the task is of this kind and target
abbrev pub is_rank : Kind → Option ℕ → Rank → Option Task → Bool
is_rank kind target rank None = false
is_rank kind target rank (Some task) = (same_kind task.kind kind && same_target task.target target) && eq_by_cmp rank_cmp (rank_of rank.number task) rank

-- the ranks are those of the waiting tasks, whose numbers are below the next one
pub record AreRanked (tasks : Tasks) (next : ℕ) (ranks : Ranks) : Type 0 where
  pub ranked : (kind : Kind) (target : Option ℕ) (rank : Rank) → has_rank ranks kind target rank ≡ is_rank kind target rank (map.get tasks rank.number)
  pub unused : (number : ℕ) → next ≤ number → map.get tasks number ≡ None

-- ---- changes

abbrev pub AreSameIn : Sets → Sets → Type 0
AreSameIn old new = (target : Option ℕ) (rank : Rank) → has_rank_at new target rank ≡ has_rank_at old target rank

abbrev pub AreSame : Ranks → Ranks → Type 0
AreSame old new = (kind : Kind) (target : Option ℕ) (rank : Rank) → has_rank new kind target rank ≡ has_rank old kind target rank

-- holds if the set has this rank exactly if `there`, and nothing else has changed
abbrev pub IsMarkedIn : Rank → Bool → BTreeSet Rank → BTreeSet Rank → Type 0
IsMarkedIn rank there old new = (r : Rank) → contains rank_cmp new r ≡ (if eq_by_cmp rank_cmp rank r then there else contains rank_cmp old r)

-- like `IsMarkedIn`, for a rank of this target
abbrev pub IsMarkedAt : Option ℕ → Rank → Bool → Sets → Sets → Type 0
IsMarkedAt target rank there old new =
    (t : Option ℕ) (r : Rank) → has_rank_at new t r ≡ (if same_target target t && eq_by_cmp rank_cmp rank r then there else has_rank_at old t r)

-- like `IsMarkedAt`, for a rank of this kind
abbrev pub IsMarked : Kind → Option ℕ → Rank → Bool → Ranks → Ranks → Type 0
IsMarked kind target rank there old new =
    (k : Kind) (t : Option ℕ) (r : Rank) → has_rank new k t r ≡ (if (same_kind kind k && same_target target t) && eq_by_cmp rank_cmp rank r then there else has_rank old k t r)

-- ---- the tasks that an actor may take

-- returns whether the rank is one of a task for any actor of this kind, or for the one of this number
abbrev pub has_rank_for : Ranks → Kind → ℕ → Rank → Bool
has_rank_for ranks kind number rank = has_rank ranks kind None rank || has_rank ranks kind (Some number) rank

-- returns whether the rank is one of a task that the actor may take
abbrev pub is_offered : Ranks → Actor → Rank → Bool
is_offered ranks (Engine number) rank = has_rank_for ranks Control number rank
is_offered ranks (Server number) rank = false
is_offered ranks (Worker number) rank = has_rank_for ranks Leaf number rank

-- holds for the first of the ranks that pass, if one does
abbrev pub IsLeast : (Rank → Bool) → Option Rank → Type 0
IsLeast passes None = (rank : Rank) → passes rank ≡ false
IsLeast passes (Some first) = (passes first ≡ true) × ((rank : Rank) → passes rank ≡ true → is_lt (rank_cmp rank first) ≡ false)
