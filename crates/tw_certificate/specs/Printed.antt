-- Outputs that are printed alike: in the lines of a report, and in JSON.
use Rattle.std.specs.Prelude.{◌≡◌, ℕ, List}
use Rattle.tw_types.specs.declared.event.Event.{Event}
use Rattle.tw_types.specs.declared.input.Input.{Input}
use Rattle.tw_types.specs.Layout.{ActorCounts}
use Rattle.tw_types.specs.Outcome.{Went}
use Rattle.tw_code.specs.declared.procedure.Procedure.{Procedure}
use Rattle.tw_code.specs.machine.Inputs.{AreInputsOf}
use Rattle.tw_code.specs.machine.Opening.{reached}
use Rattle.tw_code.specs.machine.State.{State}
use Rattle.tw_determinism.specs.Found.{SameOutputs}
use Rattle.tw_json_output.specs.Outputs.{kinds_json, outputs_json}
use Rattle.tw_report.specs.Report.{report}

-- the reports of two states are equal if their last lines are, and so are the kinds and values of their outputs in JSON
pub record ArePrintedAlike (s t : State) : Type 0 where
  pub lines : (last_lines : List ℕ) → report s.store.live s.outputs last_lines ≡ report t.store.live t.outputs last_lines
  pub kinds : kinds_json s.store.live s.outputs ≡ kinds_json t.store.live t.outputs
  pub values : outputs_json s.store.live s.outputs ≡ outputs_json t.store.live t.outputs

-- holds if equal outputs of any two runs of the program are printed alike
abbrev pub PrintsEqualsAlike : List Procedure → Type 0
PrintsEqualsAlike program =
    (inputs others : List Input) (layout other : ActorCounts) (events more : List Event) (s t : State) → AreInputsOf program inputs → AreInputsOf program others
    → reached program inputs layout events ≡ Went s → reached program others other more ≡ Went t → SameOutputs s t → ArePrintedAlike s t
