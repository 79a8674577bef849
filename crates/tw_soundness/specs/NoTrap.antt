-- Accepted programs don't trap, and each of their tasks reaches its end within its budget.
use Rattle.std.specs.Prelude.{◌≡◌, ◌⊎◌, ℕ, ◌<◌, List, length, Some, slice_get}
use Rattle.std.specs.FinMap.{get}
use Rattle.tw_types.specs.declared.actor.Actor.{Actor}
use Rattle.tw_types.specs.declared.cause.Cause.{Cause}
use Rattle.tw_types.specs.declared.event.Event.{Event}
use Rattle.tw_types.specs.declared.event.Event.TheVariants.{Local, Call, End}
use Rattle.tw_types.specs.declared.input.Input.{Input}
use Rattle.tw_types.specs.Layout.{ActorCounts}
use Rattle.tw_types.specs.Outcome.{Outcome, Went, NotEnabled, Trap}
use Rattle.tw_code.specs.declared.procedure.Procedure.{Procedure}
use Rattle.tw_code.specs.accepting.Flow.{flows}
use Rattle.tw_code.specs.accepting.Walk.{IsBudget}
use Rattle.tw_code.specs.accepting.WellTyped.{IsAccepted, IsWellTyped}
use Rattle.tw_code.specs.machine.Holders.{Typings}
use Rattle.tw_code.specs.machine.Inputs.{AreInputsOf}
use Rattle.tw_code.specs.machine.Machine.{step}
use Rattle.tw_code.specs.machine.Opening.{reached}
use Rattle.tw_code.specs.machine.State.{State, Frame}

-- holds if it is a state
abbrev pub GivesState : Outcome State → Type 0
GivesState outcome = (next : State) × (outcome ≡ Went next)

-- the first of the three is a state, and the others aren't enabled
pub record IsOnly (first second third : Outcome State) : Type 0 where
  pub goes : GivesState first
  pub second_waits : second ≡ NotEnabled
  pub third_waits : third ≡ NotEnabled

-- holds if exactly one of them is a state, and the others aren't enabled
abbrev pub ExactlyOne : Outcome State → Outcome State → Outcome State → Type 0
ExactlyOne first second third = IsOnly first second third ⊎ (IsOnly second first third ⊎ IsOnly third first second)

-- holds if an actor's task has exactly one next step
abbrev pub HasOneStep : List Procedure → ActorCounts → State → Actor → Type 0
HasOneStep program layout s actor = ExactlyOne (step program layout (Local actor 1) s) (step program layout (Call actor) s) (step program layout (End actor) s)

-- holds if it has spent less than the budget of its procedure
abbrev pub IsBelowBudget : List Procedure → Frame → Type 0
IsBelowBudget program frame = (p : Procedure) × (slice_get program frame.procedure ≡ Some p) × ((budget : ℕ) → IsBudget (flows p.code) budget → frame.spent < budget)

-- no event traps, and each running task has one next step and is below its budget
pub record IsSafe (program : List Procedure) (layout : ActorCounts) (s : State) : Type 0 where
  pub no_trap : (event : Event) (cause : Cause) → step program layout event s ≡ Trap cause → ⊥
  pub one_step : (actor : Actor) (frame : Frame) → get s.frames actor ≡ Some frame → HasOneStep program layout s actor
  pub below : (actor : Actor) (frame : Frame) → get s.frames actor ≡ Some frame → IsBelowBudget program frame

-- the program is accepted, and each procedure is well typed with these typings
pub record AreRight (program : List Procedure) (typings : Typings) : Type 0 where
  pub accepted : IsAccepted program
  pub typed : (k : ℕ) (p : Procedure) → slice_get program k ≡ Some p → IsWellTyped program p (typings k) (length p.code)

-- With any inputs of the signature, any layout and any events, the run doesn't trap, and the state that it reaches is safe.
pub record NoTrap (program : List Procedure) : Type 0 where
  pub run_goes : (inputs : List Input) (layout : ActorCounts) (events : List Event) (cause : Cause) → AreInputsOf program inputs → reached program inputs layout events ≡ Trap cause → ⊥
  pub reached_is_safe : (inputs : List Input) (layout : ActorCounts) (events : List Event) (s : State) → AreInputsOf program inputs → reached program inputs layout events ≡ Went s → IsSafe program layout s
