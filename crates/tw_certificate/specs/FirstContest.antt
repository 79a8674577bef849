-- The first contested insertion of a run.
use Rattle.std.specs.Prelude.{◌≡◌, ◌+◌, ℕ, List, MatchOption, Option, Some, None, slice_get, take}
use Rattle.std.specs.FinMap as fin
use Rattle.tw_types.specs.declared.actor.Actor.{Actor}
use Rattle.tw_types.specs.declared.event.Event.{Event}
use Rattle.tw_types.specs.declared.event.Event.TheVariants.{Call}
use Rattle.tw_types.specs.declared.input.Input.{Input}
use Rattle.tw_types.specs.Layout.{ActorCounts}
use Rattle.tw_types.specs.Outcome.{Went}
use Rattle.tw_code.specs.declared.instr.Instr.{Instr}
use Rattle.tw_code.specs.declared.procedure.Procedure.{Procedure}
use Rattle.tw_code.specs.machine.Machine.{run}
use Rattle.tw_code.specs.machine.Opening.{opening}
use Rattle.tw_code.specs.machine.State.{Frame, State}
use Rattle.tw_copies.specs.Copies.{InsertsInto, IsAt}
use Rattle.tw_copies.specs.declared.check.CopyInsertion.{CopyInsertion}
use Rattle.tw_determinism.specs.Contested.{ContestsNone, none_copied}

-- the event is a call of the instruction at this place of a procedure
pub record CallsAt (event : Event) (s : State) (procedure place : ℕ) : Type 0 where
  pub actor : Actor
  pub call : event ≡ Call actor
  pub frame : Frame
  pub runs : fin.get s.frames actor ≡ Some frame
  pub in_procedure : frame.procedure ≡ procedure
  pub at_place : frame.position.place ≡ place

-- at the place is an INS, TINS or MINS
pub record IsInsertion (program : List Procedure) (number place : ℕ) : Type 0 where
  pub i : Instr
  pub is : IsAt program number place i
  pub container : ℕ
  pub inserts : InsertsInto i container

-- holds for a place with one, and for none
abbrev pub MayBeInsertion : List Procedure → Option CopyInsertion → Type 0
MayBeInsertion program None = Unit {0}
MayBeInsertion program (Some at) = IsInsertion program at.procedure at.place

-- the event after the first k is the insertion at this place, and the first that is contested
pub record IsFirstFrom (program : List Procedure) (layout : ActorCounts) (events : List Event) (first : State) (at : CopyInsertion) : Type 0 where
  pub k : ℕ
  pub before : ContestsNone program layout none_copied (take k events) first
  pub contested : ContestsNone program layout none_copied (take (k + 1) events) first → ⊥
  pub state : State
  pub reaches : run program layout (take k events) first ≡ Went state
  pub event : Event
  pub is : slice_get events k ≡ Some event
  pub calls : CallsAt event state at.procedure at.place
  pub inserts : IsInsertion program at.procedure at.place

-- holds for the first insertion that is contested from this state on; for none if none is
abbrev pub IsFirstContestFrom : List Procedure → ActorCounts → List Event → State → Option CopyInsertion → Type 0
IsFirstContestFrom program layout events first found = MatchOption found (ContestsNone program layout none_copied events first) (IsFirstFrom program layout events first)

abbrev pub IsFirstContest : List Procedure → List Input → ActorCounts → List Event → Option CopyInsertion → Type 0
IsFirstContest program inputs layout events found = IsFirstContestFrom program layout events (opening program inputs) found
