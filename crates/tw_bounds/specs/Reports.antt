-- The bounds that are reported of a program, and what they mean for its runs.
use Rattle.std.specs.Prelude.{◌≡◌, ℕ, ◌+◌, ◌≤◌, if◌then◌else◌, nat_le, List, length, map, Option, Some, None, slice_get}
use Rattle.tw_types.specs.declared.event.Event.{Event}
use Rattle.tw_types.specs.declared.input.Input.{Input}
use Rattle.tw_types.specs.Layout.{ActorCounts}
use Rattle.tw_types.specs.Outcome.{Went}
use Rattle.tw_code.specs.declared.procedure.Procedure.{Procedure}
use Rattle.tw_code.specs.machine.Inputs.{AreInputsOf}
use Rattle.tw_code.specs.machine.Opening.{opening, reached}
use Rattle.tw_code.specs.machine.State.{State}
use Rattle.tw_bounds.specs.declared.bound.Bound.{Bound}
use Rattle.tw_bounds.specs.declared.bound.Bound.TheVariants.{AtMost, Over, Endless}
use Rattle.tw_bounds.specs.declared.bound.RunBounds.{RunBounds}
use Rattle.tw_bounds.specs.declared.weights.Weights.{Weights}
use Rattle.tw_bounds.specs.Bounds.{AreAllBounds}
use Rattle.tw_bounds.specs.Contents.{bytes_held, members_held}
use Rattle.tw_bounds.specs.Ends.{RunsEnd}
use Rattle.tw_bounds.specs.Rows.{greatest_bound}
use Rattle.tw_bounds.specs.Runs.{bytes_alone, data_alone, events_alone, instructions_alone, instructions_in, members_alone, rules_alone, tasks_alone, tasks_in}

-- reports a number, or only that it is over the greatest bound
abbrev pub reported : Option ℕ → Bound
reported None = Endless
reported (Some n) = if nat_le n greatest_bound then AtMost n else Over

-- holds if these bounds are reported of the procedures, for these weights
abbrev pub AreReported : List Procedure → Weights → List Bound → Type 0
AreReported program weights bounds = (exact : List (Option ℕ)) × AreAllBounds program weights exact × (bounds ≡ map reported exact)

pub record AreRunBounds (program : List Procedure) (bounds : RunBounds) : Type 0 where
  pub tasks : AreReported program tasks_alone bounds.tasks.items
  pub instructions : AreReported program instructions_alone bounds.instructions.items
  pub new_data : AreReported program data_alone bounds.data.items
  pub rules : AreReported program rules_alone bounds.rules.items
  pub members : AreReported program members_alone bounds.members.items
  pub bytes : AreReported program bytes_alone bounds.bytes.items
  pub events : AreReported program events_alone bounds.events.items

-- ---- main's bounds and runs

abbrev pub IsAtMost : List Bound → ℕ → Type 0
IsAtMost bounds n = slice_get bounds 0 ≡ Some (AtMost n)

-- a run with these events, which led to this state, is within main's bounds
pub record IsRunWithin (program : List Procedure) (bounds : RunBounds) (inputs : List Input) (history : List Event) (s : State) : Type 0 where
  pub tasks : (n : ℕ) → IsAtMost bounds.tasks.items n → tasks_in history ≤ n
  pub instructions : (n : ℕ) → IsAtMost bounds.instructions.items n → instructions_in history ≤ n
  pub new_data : (n : ℕ) → IsAtMost bounds.data.items n → s.store.next ≤ (opening program inputs).store.next + n
  pub rules : (n : ℕ) → IsAtMost bounds.rules.items n → s.next_rule ≤ (opening program inputs).next_rule + n
  pub members : (n : ℕ) → IsAtMost bounds.members.items n → members_held s.store ≤ members_held (opening program inputs).store + n
  pub bytes : (n : ℕ) → IsAtMost bounds.bytes.items n → bytes_held s ≤ bytes_held (opening program inputs) + n
  pub events : (n : ℕ) → IsAtMost bounds.events.items n → length history ≤ n

-- with any inputs, layout and events, each run is within the bounds, and each run ends if its events have a bound
pub record BoundsRuns (program : List Procedure) (bounds : RunBounds) : Type 0 where
  pub within : (inputs : List Input) (layout : ActorCounts) (events : List Event) (s : State) → AreInputsOf program inputs → reached program inputs layout events ≡ Went s → IsRunWithin program bounds inputs events s
  pub ends : (n : ℕ) → IsAtMost bounds.events.items n → RunsEnd program n
