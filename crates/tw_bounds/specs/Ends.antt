-- Runs of a program with a bound end.
use Rattle.std.specs.Prelude.{◌≡◌, ℕ, ◌+◌, ◌≤◌, true, List, length}
use Rattle.tw_types.specs.declared.event.Event.{Event}
use Rattle.tw_types.specs.declared.input.Input.{Input}
use Rattle.tw_types.specs.Layout.{ActorCounts, IsLayout}
use Rattle.tw_types.specs.Outcome.{Went}
use Rattle.tw_code.specs.declared.procedure.Procedure.{Procedure}
use Rattle.tw_code.specs.accepting.Needs.{HasTargets}
use Rattle.tw_code.specs.machine.Ending.{is_quiet}
use Rattle.tw_code.specs.machine.Inputs.{AreInputsOf}
use Rattle.tw_code.specs.machine.Machine.{run}
use Rattle.tw_code.specs.machine.Opening.{reached}
use Rattle.tw_code.specs.machine.State.{State}

-- after any events, a run ends after at most so many in all: none is longer, and one that hasn't ended can continue to its end
pub record RunsEnd (program : List Procedure) (most : ℕ) : Type 0 where
  pub none_longer : (inputs : List Input) (layout : ActorCounts) (events : List Event) (s : State) → AreInputsOf program inputs → reached program inputs layout events ≡ Went s → length events ≤ most
  pub goes_on : (inputs : List Input) (layout : ActorCounts) (events : List Event) (s : State) → AreInputsOf program inputs → IsLayout layout → HasTargets program layout → reached program inputs layout events ≡ Went s
      → (more : List Event) × (t : State) × (run program layout more s ≡ Went t) × (is_quiet t ≡ true) × (length events + length more ≤ most)
