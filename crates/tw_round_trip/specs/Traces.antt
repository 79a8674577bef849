-- Traces of runs, written and read.
use Rattle.std.specs.Prelude.{◌≡◌, ◌≤◌, List, ℕ, ◌++◌, codes, length, Ok}
use Rattle.std.specs.List.{flat_map}
use Rattle.tw_types.specs.declared.event.Event.{Event}
use Rattle.tw_types.specs.declared.input.Input.{Input}
use Rattle.tw_types.specs.Layout.{ActorCounts, IsLayout}
use Rattle.tw_types.specs.Outcome.{Went}
use Rattle.tw_code.specs.declared.procedure.Procedure.{Procedure}
use Rattle.tw_code.specs.machine.Inputs.{AreInputsOf}
use Rattle.tw_code.specs.machine.Opening.{reached}
use Rattle.tw_code.specs.machine.State.{State}
use Rattle.tw_report.specs.Events.{event_line}
use Rattle.tw_report.specs.History.{IsTraceOf, lines_in}

-- returns the lines of a text that has these events, then `end`, and then anything else
abbrev pub trace_lines : List Event → List ℕ → List (List ℕ)
trace_lines events rest = lines_in (flat_map event_line events ++ (codes "end\n" ++ rest))

-- the events of each run of the program that is within the greatest limit are read back
abbrev pub TracesAreReadBack : List Procedure → Type 0
TracesAreReadBack program =
    (inputs : List Input) (layout : ActorCounts) (events : List Event) (s : State) (rest : List ℕ)
    → AreInputsOf program inputs → IsLayout layout → length events ≤ 1000000 → reached program inputs layout events ≡ Went s → IsTraceOf (trace_lines events rest) (Ok events)
