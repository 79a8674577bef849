-- Notes on a run, event by event: which data have been copied. For private functions.
use Rattle.std.specs.Prelude.{◌≡◌, ◌≤◌, ◌++◌, ℕ, true, false, List, Option, Some, None, take}
use Rattle.std.specs.BTreeSet.{BTreeSet, contains}
use Rattle.std.specs.List.{AllByRecursion}
use Rattle.std.specs.Ordering.{nat_cmp}
use Rattle.tw_types.specs.declared.event.Event.{Event}
use Rattle.tw_types.specs.Layout.{ActorCounts}
use Rattle.tw_types.specs.Outcome.{Went}
use Rattle.tw_code.specs.accepting.Walk.{greatest_budget}
use Rattle.tw_code.specs.declared.procedure.Procedure.{Procedure}
use Rattle.tw_code.specs.machine.Bounds.{size_of}
use Rattle.tw_code.specs.machine.Machine.{run, step}
use Rattle.tw_code.specs.machine.State.{Frame, State}
use Rattle.tw_copies.specs.declared.check.CopyInsertion.{CopyInsertion}
use Rattle.tw_determinism.specs.Contested.{ContestsNone, Copied, contests, copied_by, none_copied, with_copy}
use Rattle.tw_certificate.specs.FirstContest.{CallsAt, IsInsertion}

-- holds if the set has the data that have been copied
abbrev pub Notes : BTreeSet ℕ → Copied → Type 0
Notes set copied = (d : ℕ) → copied d ≡ contains nat_cmp set d

-- holds if the event isn't contested
abbrev pub IsCalm : List Procedure → Event → State → BTreeSet ℕ → Type 0
IsCalm program event s set = (copied : Copied) → Notes set copied → contests program copied event s ≡ false

-- holds for the place of a running task
abbrev pub IsPlaceOf : Option Frame → ℕ → ℕ → Type 0
IsPlaceOf None procedure place = ⊥
IsPlaceOf (Some frame) procedure place = (frame.procedure ≡ procedure) × (frame.position.place ≡ place)

-- the event isn't contested, leads to the next state, and its copy is noted
pub record IsNoted (program : List Procedure) (layout : ActorCounts) (event : Event) (s next : State) (old new : BTreeSet ℕ) : Type 0 where
  pub goes : step program layout event s ≡ Went next
  pub calm : IsCalm program event s old
  pub notes : (copied : Copied) → Notes old copied → Notes new (with_copy copied (copied_by program event s))

-- the event is contested, at this place
pub record IsContestedAt (program : List Procedure) (event : Event) (s : State) (old : BTreeSet ℕ) (at : CopyInsertion) : Type 0 where
  pub contested : (copied : Copied) → Notes old copied → contests program copied event s ≡ true
  pub calls : CallsAt event s at.procedure at.place
  pub inserts : IsInsertion program at.procedure at.place

-- The state after the first k events, with what they have copied. More events have the same outcome and the same contested insertions
-- from there on as after these.
pub record IsAfter (program : List Procedure) (layout : ActorCounts) (events : List Event) (k : ℕ) (first s : State) (set : BTreeSet ℕ) : Type 0 where
  pub copied : Copied
  pub noted : Notes set copied
  pub runs : (more : List Event) → run program layout (take k events ++ more) first ≡ run program layout more s
  pub onward : (more : List Event) → ContestsNone program layout copied more s → ContestsNone program layout none_copied (take k events ++ more) first
  pub rest : (more : List Event) → ContestsNone program layout none_copied (take k events ++ more) first → ContestsNone program layout copied more s

-- holds if no event executes more instructions than a task may
abbrev pub AreShort : List Event → Type 0
AreShort events = AllByRecursion (λ event. size_of event ≤ greatest_budget) events
