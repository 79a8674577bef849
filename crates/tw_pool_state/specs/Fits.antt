-- Invariants of the parts of every pool. Their state is one that the program reaches. Each right has its datum's place, and is of the
-- kind that its holder's typing has. Each running task is of the program, and is in its actor's slot.
use Rattle.std.specs.Prelude.{◌≡◌, ℕ, Bool, true, false, List, [], ◌∷◌, Option, Some, None, map as each, option_map, length}
use Rattle.std.specs.FinMap.{get}
use Rattle.tw_types.specs.declared.actor.Actor.{Actor}
use Rattle.tw_types.specs.declared.event.Event.{Event}
use Rattle.tw_types.specs.declared.input.Input.{Input}
use Rattle.tw_types.specs.declared.param.Param.{Param}
use Rattle.tw_types.specs.Layout.{ActorCounts, IsLayout}
use Rattle.tw_types.specs.Mode.{is_write}
use Rattle.tw_types.specs.Notices.{Notices}
use Rattle.tw_types.specs.Outcome.{Went}
use Rattle.tw_types.specs.Rule.{RuleOf, RulesOf}
use Rattle.tw_types.specs.Task.{TaskOf, TasksOf}
use Rattle.tw_rights.specs.declared.arg.Arg.{Arg}
use Rattle.tw_rights.specs.declared.arg.Arg.TheVariants as arg
use Rattle.tw_rights.specs.declared.held.Held.{Held}
use Rattle.tw_rights.specs.declared.held.Held.TheVariants as held
use Rattle.tw_rights.specs.Kinds.{kinds_of}
use Rattle.tw_rights.specs.Rights.{Right}
use Rattle.tw_store.specs.Slots.{Places}
use Rattle.tw_code.specs.accepting.Needs.{HasTargets}
use Rattle.tw_code.specs.declared.procedure.Procedure.{Procedure}
use Rattle.tw_code.specs.format.Program.{IsProgram}
use Rattle.tw_code.specs.machine.Arguments.{params_of}
use Rattle.tw_code.specs.machine.Holders.{typing_at}
use Rattle.tw_code.specs.machine.Inputs.{AreInputsOf}
use Rattle.tw_code.specs.machine.Opening.{reached}
use Rattle.tw_code.specs.machine.Rights.{RightType, Typing, right_of}
use Rattle.tw_code.specs.machine.State.{State}
use Rattle.tw_soundness.specs.NoTrap.{AreRight}
use Rattle.tw_verify.specs.Typed.{TypedProgram, typings_of}
use Rattle.tw_frame.specs.Jobs.{FrameView}
use Rattle.tw_pool_state.specs.Notes.{AreQueued}
use Rattle.tw_pool_state.specs.Parts.{state_of}
use Rattle.tw_pool_state.specs.RunningTasks.{TasksByActor}
use Rattle.tw_pool_state.specs.declared.parts.Parts.{Parts}

-- ---- places

abbrev pub IsAt : Places → Right → Type 0
IsAt places right = get places right.id ≡ Some right.place

abbrev pub AreAt : Places → List Right → Type 0
AreAt places [] = Unit {0}
AreAt places (right ∷ rights) = IsAt places right × AreAt places rights

abbrev pub right_in : Held → Right
right_in (held.Read right) = right
right_in (held.Write right) = right

abbrev pub IsPlaced : Places → Option Held → Type 0
IsPlaced places None = Unit {0}
IsPlaced places (Some h) = IsAt places (right_in h)

abbrev pub ArePlaced : Places → List (Option Held) → Type 0
ArePlaced places [] = Unit {0}
ArePlaced places (h ∷ file) = IsPlaced places h × ArePlaced places file

-- ---- kinds

-- returns for each register whether it must have a write right, if it must have a right
abbrev pub kinds_in : Typing → List (Option Bool)
kinds_in typing = each (option_map (λ right. is_write right.mode)) typing

-- ---- arguments

-- holds for a value if the parameter is one, and else for a right of the parameter's kind that has its datum's place
abbrev pub ArgMatches : Places → Option RightType → Arg → Type 0
ArgMatches places None (arg.Val value) = Unit {0}
ArgMatches places None (arg.Read right) = ⊥
ArgMatches places None (arg.Write right) = ⊥
ArgMatches places (Some t) (arg.Val value) = ⊥
ArgMatches places (Some t) (arg.Read right) = (is_write t.mode ≡ false) × IsAt places right
ArgMatches places (Some t) (arg.Write right) = (is_write t.mode ≡ true) × IsAt places right

-- holds if each parameter has one
abbrev pub ArgsMatch : Places → List Param → List Arg → Type 0
ArgsMatch places [] [] = Unit {0}
ArgsMatch places [] (arg ∷ args) = ⊥
ArgsMatch places (p ∷ params) [] = ⊥
ArgsMatch places (p ∷ params) (arg ∷ args) = ArgMatches places (right_of p) arg × ArgsMatch places params args

-- ---- all rights

-- a task of the program in this actor's slot
pub record FrameFits (verified : TypedProgram) (places : Places) (actor : Actor) (f : FrameView) : Type 0 where
  pub program : f.program ≡ verified
  pub own : f.actor ≡ actor
  pub placed : ArePlaced places f.held
  pub kinds : kinds_of f.held ≡ kinds_in (typing_at (typings_of verified) f.procedure f.position.place)

pub record RightsFit (verified : TypedProgram) (places : Places) (running_tasks : TasksByActor) (waiting : TasksOf Arg) (pending : RulesOf Arg) (given : List Right) : Type 0 where
  pub frames : (actor : Actor) (f : FrameView) → get running_tasks actor ≡ Some f → FrameFits verified places actor f
  pub tasks : (number : ℕ) (t : TaskOf Arg) → get waiting number ≡ Some t → ArgsMatch places (params_of verified.program t.procedure) t.args
  pub rules : (number : ℕ) (r : RuleOf Arg) → get pending number ≡ Some r → ArgsMatch places (params_of verified.program r.procedure) r.args
  pub outputs : AreAt places given

-- ---- all parts

-- some events lead to the state
pub record IsReached (program : List Procedure) (layout : ActorCounts) (s : State) : Type 0 where
  pub inputs : List Input
  pub given : AreInputsOf program inputs
  pub history : List Event
  pub replays : reached program inputs layout history ≡ Went s

-- an accepted program with its typings, and a layout that has its targets
pub record IsRunnable (verified : TypedProgram) (layout : ActorCounts) : Type 0 where
  pub is : IsProgram verified.program
  pub right : AreRight verified.program (typings_of verified)
  pub counts : IsLayout layout
  pub targets : HasTargets verified.program layout

-- The theorems on the machine give the rest for the state by itself: no trap, actors in the layout, and small numbers.
pub record AreParts (verified : TypedProgram) (layout : ActorCounts) (p : Parts) (notices : Notices) : Type 0 where
  pub runnable : IsRunnable verified layout
  pub law : IsReached verified.program layout (state_of p notices)
  pub queued : AreQueued p.store.queues notices
  pub servers : length p.store.queues ≡ layout.servers
  pub layout_is : p.running_tasks.layout ≡ layout
  pub rights_fit : RightsFit verified p.store.places p.running_tasks.tasks p.tasks.tasks p.rules.rules p.outputs
