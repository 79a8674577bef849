-- Runs whose result is the only one: every order of events, in any layout, ends with the same outputs.
use Rattle.std.specs.Prelude.{◌≡◌, ℕ, List, Some, slice_get}
use Rattle.tw_types.specs.declared.ending.Ending.{Ending}
use Rattle.tw_types.specs.declared.event.Event.{Event}
use Rattle.tw_types.specs.declared.input.Input.{Input}
use Rattle.tw_types.specs.Layout.{ActorCounts}
use Rattle.tw_types.specs.Outcome.{Went}
use Rattle.tw_code.specs.declared.instr.DataInstr.TheVariants as on_data
use Rattle.tw_code.specs.declared.instr.Instr.TheVariants as instr
use Rattle.tw_code.specs.declared.procedure.Procedure.{Procedure}
use Rattle.tw_code.specs.machine.Ending.{ending}
use Rattle.tw_code.specs.machine.Inputs.{AreInputsOf}
use Rattle.tw_code.specs.machine.Opening.{opening, reached}
use Rattle.tw_code.specs.machine.State.{State}
use Rattle.tw_determinism.specs.Refused.{RefusesNone}
use Rattle.tw_determinism.specs.Contested.{ContestsNone, none_copied}
use Rattle.tw_determinism.specs.Found.{ArePartOf, SameOutputs}

-- a run with these inputs that ends by itself, quiet or stuck
pub record IsWholeRun (program : List Procedure) (inputs : List Input) (layout : ActorCounts) (events : List Event) (s : State) (end : Ending) : Type 0 where
  pub given : AreInputsOf program inputs
  pub goes : reached program inputs layout events ≡ Went s
  pub ends : ending s ≡ Some end

-- Every run with these inputs, in any layout and order of events, ends alike with the same outputs if it ends by itself. What is in the
-- outputs of any other is a part of these.
pub record IsOnlyResult (program : List Procedure) (inputs : List Input) (s : State) (end : Ending) : Type 0 where
  pub ends_alike : (layout : ActorCounts) (events : List Event) (t : State) (other : Ending) → reached program inputs layout events ≡ Went t → ending t ≡ Some other → (other ≡ end) × SameOutputs t s
  pub comes_before : (layout : ActorCounts) (events : List Event) (t : State) → reached program inputs layout events ≡ Went t → ArePartOf t s

-- ---- three statements about a program

-- If a whole run refuses no insertion, its result is the only one, and no run with these inputs refuses an insertion.
pub record IsOnlyIfUnrefused (program : List Procedure) : Type 0 where
  pub only : (inputs : List Input) (layout : ActorCounts) (events : List Event) (s : State) (end : Ending)
      → IsWholeRun program inputs layout events s end → RefusesNone program layout events (opening program inputs) → IsOnlyResult program inputs s end
  pub never : (inputs : List Input) (layout : ActorCounts) (events : List Event) (s : State) (end : Ending)
      → IsWholeRun program inputs layout events s end → RefusesNone program layout events (opening program inputs)
      → (other : ActorCounts) (others : List Event) (t : State) → reached program inputs other others ≡ Went t → RefusesNone program other others (opening program inputs)

-- If a whole run contests no insertion, its result is the only one, and no run with these inputs contests an insertion.
pub record IsOnlyIfUncontested (program : List Procedure) : Type 0 where
  pub only : (inputs : List Input) (layout : ActorCounts) (events : List Event) (s : State) (end : Ending)
      → IsWholeRun program inputs layout events s end → ContestsNone program layout none_copied events (opening program inputs) → IsOnlyResult program inputs s end
  pub never : (inputs : List Input) (layout : ActorCounts) (events : List Event) (s : State) (end : Ending)
      → IsWholeRun program inputs layout events s end → ContestsNone program layout none_copied events (opening program inputs)
      → (other : ActorCounts) (others : List Event) (t : State) → reached program inputs other others ≡ Went t → ContestsNone program other none_copied others (opening program inputs)

-- The result of each whole run is the only one, whatever is refused.
abbrev pub IsDeterministic : List Procedure → Type 0
IsDeterministic program = (inputs : List Input) (layout : ActorCounts) (events : List Event) (s : State) (end : Ending) → IsWholeRun program inputs layout events s end → IsOnlyResult program inputs s end

-- ---- which programs are

-- holds if no instruction of the program copies a write right
abbrev pub CopiesNone : List Procedure → Type 0
CopiesNone program = (procedure place to from : ℕ) (p : Procedure) → slice_get program procedure ≡ Some p → slice_get p.code place ≡ Some (instr.Data (on_data.CopyWrite to from)) → ⊥

-- holds if no run of the program contests an insertion, with any inputs of its signature, in any layout and order of events
abbrev pub NeverContests : List Procedure → Type 0
NeverContests program = (inputs : List Input) (layout : ActorCounts) (events : List Event) → AreInputsOf program inputs → ContestsNone program layout none_copied events (opening program inputs)
