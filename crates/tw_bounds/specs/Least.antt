-- The smaller of main's bounds and those of a limit.
use Rattle.std.specs.Prelude.{◌≡◌, ℕ, ◌≤◌, min, List, length, Option, Some, None, slice_get, unwrap_or}
use Rattle.tw_types.specs.declared.event.Event.{Event}
use Rattle.tw_types.specs.declared.input.Input.{Input}
use Rattle.tw_types.specs.Layout.{ActorCounts}
use Rattle.tw_types.specs.Outcome.{Went}
use Rattle.tw_code.specs.declared.procedure.Procedure.{Procedure}
use Rattle.tw_code.specs.machine.Inputs.{AreInputsOf}
use Rattle.tw_code.specs.machine.Opening.{reached}
use Rattle.tw_code.specs.machine.State.{State}
use Rattle.tw_bounds.specs.declared.bound.Bound.{Bound}
use Rattle.tw_bounds.specs.declared.bound.Bound.TheVariants.{AtMost, Over, Endless}
use Rattle.tw_bounds.specs.declared.bound.RunBounds.{RunBounds}
use Rattle.tw_bounds.specs.declared.limited.LimitedBounds.{LimitedBounds}
use Rattle.tw_bounds.specs.Limited.{AreLimitedBounds, IsRunWithinLimited}
use Rattle.tw_bounds.specs.Reports.{AreRunBounds}

-- return the smaller of two bounds; none is larger than `over`, which is larger than a number
abbrev pub lesser_number : ℕ → Bound → Bound
lesser_number a (AtMost b) = AtMost (min a b)
lesser_number a Over = AtMost a
lesser_number a Endless = AtMost a

abbrev pub lesser_over : Bound → Bound
lesser_over (AtMost b) = AtMost b
lesser_over Over = Over
lesser_over Endless = Over

abbrev pub lesser : Bound → Bound → Bound
lesser (AtMost a) b = lesser_number a b
lesser Over b = lesser_over b
lesser Endless b = b

abbrev pub least : LimitedBounds → LimitedBounds → LimitedBounds
least a b = record {
  tasks = lesser a.tasks b.tasks;
  instructions = lesser a.instructions b.instructions;
  «data» = lesser a.«data» b.«data»;
  rules = lesser a.rules b.rules;
  members = lesser a.members b.members;
  bytes = lesser a.bytes b.bytes;
  events = lesser a.events b.events;
}

abbrev pub main_in : List Bound → Bound
main_in bounds = unwrap_or (slice_get bounds 0) Endless

-- returns main's bounds
abbrev pub main_of : RunBounds → LimitedBounds
main_of bounds = record {
  tasks = main_in bounds.tasks.items;
  instructions = main_in bounds.instructions.items;
  «data» = main_in bounds.«data».items;
  rules = main_in bounds.rules.items;
  members = main_in bounds.members.items;
  bytes = main_in bounds.bytes.items;
  events = main_in bounds.events.items;
}

-- holds for main's bounds, or for the smaller of them and those of the limit if there is one
abbrev pub AreLeastBounds : List Procedure → Option ℕ → LimitedBounds → Type 0
AreLeastBounds program None bounds = (run : RunBounds) × AreRunBounds program run × (bounds ≡ main_of run)
AreLeastBounds program (Some limit) bounds =
    (run : RunBounds) × (limited : LimitedBounds) × AreRunBounds program run × AreLimitedBounds program limit limited × (bounds ≡ least (main_of run) limited)

-- holds for any events without a limit, else for at most so many
abbrev pub IsShort : Option ℕ → List Event → Type 0
IsShort None events = Unit {0}
IsShort (Some limit) events = length events ≤ limit

-- with any inputs and layout, each run that the limit allows is within the bounds
pub record LeastRuns (program : List Procedure) (limit : Option ℕ) (bounds : LimitedBounds) : Type 0 where
  pub within : (inputs : List Input) (layout : ActorCounts) (events : List Event) (s : State) → AreInputsOf program inputs → IsShort limit events → reached program inputs layout events ≡ Went s
      → IsRunWithinLimited program bounds inputs events s
