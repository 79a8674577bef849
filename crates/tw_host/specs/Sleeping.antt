-- Which actors sleep and which run a job, one bit for each at its index in the layout, and which sleepers have to be woken.
use Rattle.std.specs.Prelude.{◌≡◌, ◌≢◌, ◌≤◌, ◌<◌, ◌+◌, ◌^◌, ◌⊎◌, ℕ, Bool, true, false, None, if◌then◌else◌}
use Rattle.std.specs.Int.{bit_at}
use Rattle.tw_types.specs.declared.actor.Actor.{Actor}
use Rattle.tw_types.specs.declared.actor.Actor.TheVariants.{Engine, Server, Worker}
use Rattle.tw_types.specs.declared.actor.Kind.{Kind}
use Rattle.tw_types.specs.declared.actor.Kind.TheVariants.{Control, Leaf}
use Rattle.tw_types.specs.Layout.{ActorCounts}
use Rattle.tw_pool.specs.declared.answer.Turn.{Turn}
use Rattle.tw_pool.specs.declared.answer.Turn.TheVariants as turn
use Rattle.tw_pool.specs.Kept.{InState}
use Rattle.tw_pool.specs.PoolView.{PoolView}
use Rattle.tw_pool.specs.Turns.{closing_at}
use Rattle.tw_pool.specs.Work.{AreTargeted, LacksWork}
use Rattle.tw_host.specs.Seats.{actor_at, actor_count}

-- ---- indices

-- returns the first index of a kind's actors, and the one after their last
abbrev pub first_of : Kind → ActorCounts → ℕ
first_of Control layout = 0
first_of Leaf layout = layout.engines + layout.servers

abbrev pub end_of : Kind → ActorCounts → ℕ
end_of Control layout = layout.engines
end_of Leaf layout = actor_count layout

abbrev pub Is : ℕ → ℕ → Type 0
Is bits i = bit_at bits i ≡ 1

abbrev pub Isnt : ℕ → ℕ → Type 0
Isnt bits i = bit_at bits i ≡ 0

abbrev pub NoneSleeps : ℕ → ℕ → ℕ → Type 0
NoneSleeps asleep from to = (i : ℕ) → from ≤ i → i < to → Isnt asleep i

-- holds if an actor at such an index neither sleeps nor runs a job: it makes a step before it sleeps
abbrev pub Looks : ℕ → ℕ → ℕ → ℕ → Type 0
Looks asleep out from to = (i : ℕ) × (from ≤ i) × (i < to) × Isnt asleep i × Isnt out i

-- ---- the invariant

-- holds if no event is made any more
abbrev pub IsOver : PoolView → Type 0
IsOver p = InState p (λ s. closing_at p s ≢ None)

-- holds if no task of the kind waits that has no target, or none of its actors sleeps, or one of them looks for work
abbrev pub IsCovered : PoolView → ℕ → ℕ → Kind → Type 0
IsCovered p asleep out kind =
    AreTargeted p kind ⊎ (NoneSleeps asleep (first_of kind p.layout) (end_of kind p.layout) ⊎ Looks asleep out (first_of kind p.layout) (end_of kind p.layout))

-- holds if no work waits for these sleepers alone
abbrev pub HaveNoWork : PoolView → ℕ → ℕ → ℕ → Type 0
HaveNoWork p asleep from to = (i : ℕ) → from ≤ i → i < to → Is asleep i → LacksWork p (actor_at p.layout i)

pub record AreWoken (p : PoolView) (asleep out : ℕ) (is_over : Bool) : Type 0 where
  -- while work waits that only one actor may do, that actor doesn't sleep
  pub own : HaveNoWork p asleep 0 (actor_count p.layout)
  -- while a task without a target waits, an actor of its kind looks for work, or none of that kind sleeps
  pub any : (kind : Kind) → IsCovered p asleep out kind
  -- once it is known that the run is over, nobody sleeps
  pub over : is_over ≡ true → asleep ≡ 0
  pub ended : is_over ≡ true → IsOver p
  -- of a stopped run it is known
  pub stops : p.stopped ≡ true → is_over ≡ true
  -- who sleeps runs no job
  pub rests : (i : ℕ) → i < actor_count p.layout → Is asleep i → Isnt out i

-- ---- changes of bits

-- the bits from an index on, before another
pub record IsRange (from to bits : ℕ) : Type 0 where
  pub inside : (i : ℕ) → from ≤ i → i < to → Is bits i
  pub only : (i : ℕ) → Is bits i → (from ≤ i) × (i < to)
  pub few : bits < 2 ^ 64

-- only this bit may have changed, and it is set or cleared
pub record IsMarked (index : ℕ) (is_set : Bool) (old new : ℕ) : Type 0 where
  pub here : bit_at new index ≡ (if is_set then 1 else 0)
  pub others : (i : ℕ) → i < 64 → i ≢ index → bit_at new i ≡ bit_at old i

-- the bits that are due are cleared
pub record IsCleared (due old new : ℕ) : Type 0 where
  pub gone : (i : ℕ) → i < 64 → Is due i → Isnt new i
  pub others : (i : ℕ) → i < 64 → Isnt due i → bit_at new i ≡ bit_at old i
  pub all : (due ≡ old) ⊎ (old ≡ 0) → new ≡ 0

-- these bits have every bit that was set and isn't any more, except one
abbrev pub HasCleared : ℕ → ℕ → ℕ → ℕ → Type 0
HasCleared index old new due = (i : ℕ) → i < 64 → i ≢ index → Is old i → Isnt new i → Is due i

-- ---- the sleepers that are woken

-- holds if all of these that stay asleep have no work for them alone
abbrev pub WakesOwn : PoolView → ℕ → ℕ → ℕ → ℕ → Type 0
WakesOwn p asleep due from to = (i : ℕ) → from ≤ i → i < to → Is asleep i → Isnt due i → LacksWork p (actor_at p.layout i)

-- the sleeper at an index is woken if it has work of its own, or if a task was left
pub record IsConsidered (p : PoolView) (asleep index old new : ℕ) (was_left is_left : Bool) : Type 0 where
  pub kept : (i : ℕ) → i < 64 → Is old i → Is new i
  pub own : Is asleep index → Isnt new index → LacksWork p (actor_at p.layout index)
  pub less : is_left ≡ true → was_left ≡ true
  pub left : (is_left ≡ was_left) ⊎ (Is asleep index × Is new index)
  pub one : is_left ≡ true → Is asleep index → Is new index

abbrev pub WakesOne : ℕ → ℕ → ℕ → ℕ → Type 0
WakesOne asleep due from to = (i : ℕ) × (from ≤ i) × (i < to) × Is asleep i × Is due i

-- holds if the kind is covered then
abbrev pub Covers : PoolView → ℕ → ℕ → ℕ → Kind → Type 0
Covers p asleep out due kind = IsCovered p asleep out kind ⊎ WakesOne asleep due (first_of kind p.layout) (end_of kind p.layout)

abbrev pub WakesKind : PoolView → ℕ → ℕ → ℕ → Kind → Type 0
WakesKind p asleep out due kind = WakesOwn p asleep due (first_of kind p.layout) (end_of kind p.layout) × Covers p asleep out due kind

abbrev pub WakesServers : PoolView → ℕ → ℕ → Type 0
WakesServers p asleep due = WakesOwn p asleep due p.layout.engines (p.layout.engines + p.layout.servers)

-- The sleepers that may have work by events of an actor: an engine makes rules and tasks, a server makes rules ready, and a worker closes data.
-- If a worker runs a job from now on, another has to look for tasks.
abbrev pub Wakes : PoolView → ℕ → ℕ → ℕ → Actor → Bool → Type 0
Wakes p asleep out due (Engine _) is_out = WakesKind p asleep out due Control × WakesServers p asleep due × WakesKind p asleep out due Leaf
Wakes p asleep out due (Server _) is_out = WakesKind p asleep out due Control
Wakes p asleep out due (Worker _) is_out = WakesServers p asleep due × (is_out ≡ true → WakesKind p asleep out due Leaf)

-- holds if these are woken after steps with this number of events
abbrev pub WakesAfter : PoolView → ℕ → ℕ → Bool → ℕ → Actor → ℕ → Bool → Type 0
WakesAfter p asleep out is_over due actor events is_out =
    (asleep ≡ 0) ⊎ (((is_over ≡ true) × (due ≡ asleep)) ⊎ ((is_over ≡ false) × (((events ≡ 0) × (is_out ≡ false)) ⊎ Wakes p asleep out due actor is_out)))

-- ---- what is known after steps

-- returns whether the answer has a job, and whether it is that nothing is due, or that the run is over
abbrev pub has_job : Turn → Bool
has_job (turn.Over closing) = false
has_job (turn.Foreign done) = false
has_job turn.Owed = false
has_job (turn.NoMemory given) = false
has_job (turn.Run job) = true
has_job turn.Ended = false
has_job turn.Went = false
has_job turn.Idle = false

abbrev pub is_idle : Turn → Bool
is_idle (turn.Over closing) = false
is_idle (turn.Foreign done) = false
is_idle turn.Owed = false
is_idle (turn.NoMemory given) = false
is_idle (turn.Run job) = false
is_idle turn.Ended = false
is_idle turn.Went = false
is_idle turn.Idle = true

abbrev pub is_over_turn : Turn → Bool
is_over_turn (turn.Over closing) = true
is_over_turn (turn.Foreign done) = false
is_over_turn turn.Owed = false
is_over_turn (turn.NoMemory given) = false
is_over_turn (turn.Run job) = false
is_over_turn turn.Ended = false
is_over_turn turn.Went = false
is_over_turn turn.Idle = false

abbrev pub KnownBy : PoolView → ℕ → ℕ → Actor → Type 0
KnownBy p asleep out (Engine _) = Unit {0}
KnownBy p asleep out (Server _) = HaveNoWork p asleep p.layout.engines (actor_count p.layout) × IsCovered p asleep out Leaf
KnownBy p asleep out (Worker _) = HaveNoWork p asleep 0 p.layout.engines × HaveNoWork p asleep (p.layout.engines + p.layout.servers) (actor_count p.layout) × ((kind : Kind) → IsCovered p asleep out kind)

-- holds if, after steps of an actor with this number of events, only sleepers may have work that these events can have made
pub record IsKnown (p : PoolView) (asleep out : ℕ) (actor : Actor) (events : ℕ) : Type 0 where
  pub unchanged : events ≡ 0 → HaveNoWork p asleep 0 (actor_count p.layout) × ((kind : Kind) → IsCovered p asleep out kind)
  pub by_actor : KnownBy p asleep out actor
  pub rests : (i : ℕ) → i < actor_count p.layout → Is asleep i → Isnt out i

-- holds if no task waits that any actor of the same kind may take
abbrev pub TakesNone : PoolView → Actor → Type 0
TakesNone p (Engine _) = AreTargeted p Control
TakesNone p (Server _) = Unit {0}
TakesNone p (Worker _) = AreTargeted p Leaf
