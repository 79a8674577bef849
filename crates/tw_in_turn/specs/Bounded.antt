-- Runs in one thread of a program whose events have a bound.
use Rattle.std.specs.Prelude.{◌≡◌, ◌<◌, ◌≤◌, ℕ, Bool, List, length, Option, Some, None}
use Rattle.tw_types.specs.declared.input.Input.{Input}
use Rattle.tw_types.specs.Layout.{ActorCounts}
use Rattle.tw_code.specs.format.Program.{IsProgram}
use Rattle.tw_code.specs.machine.Inputs.{AreInputsOf}
use Rattle.tw_code.specs.machine.State.{State}
use Rattle.tw_soundness.specs.NoTrap.{AreRight}
use Rattle.tw_verify.specs.Typed.{TypedProgram, typings_of}
use Rattle.tw_bounds.specs.Runs.{IsBoundOfMain, events_alone}
use Rattle.tw_pool.specs.declared.answer.Closing.{Closing}
use Rattle.tw_pool.specs.declared.answer.Closing.TheVariants.{Quiet, Stuck, Stopped, Limit}
use Rattle.tw_pool.specs.Openings.{opened}
use Rattle.tw_pool.specs.PoolView.{PoolView, HasState}
use Rattle.tw_in_turn.specs.declared.rounds.End.TheVariants.{Over}
use Rattle.tw_in_turn.specs.declared.run.EndedRun.{EndedRun}
use Rattle.tw_in_turn.specs.Stopping.{IsLeftIf, executed_in}

-- an accepted program, and a bound of the events of main's task, with all tasks that descend from it
pub record IsBoundedBy (verified : TypedProgram) (most : ℕ) : Type 0 where
  pub within : IsProgram verified.program
  pub right : AreRight verified.program (typings_of verified)
  pub bound : IsBoundOfMain verified.program events_alone most

-- holds if no pool of the program has more events
abbrev pub HasFew : TypedProgram → ℕ → Type 0
HasFew verified most = (p : PoolView) (s : State) → p.program ≡ verified → AreInputsOf verified.program p.inputs → HasState p s → length p.history ≤ most

-- holds if the run has ended by itself, not by the limit
abbrev pub HasEndedByItself : Option Closing → Type 0
HasEndedByItself None = ⊥
HasEndedByItself (Some Quiet) = Unit {0}
HasEndedByItself (Some (Stuck rules)) = Unit {0}
HasEndedByItself (Some Stopped) = ⊥
HasEndedByItself (Some Limit) = ⊥

-- holds if a run with a limit above the bound ends by itself, unless an allocation fails
abbrev pub EndsByItself : TypedProgram → ℕ → Type 0
EndsByItself verified most =
    (inputs : List Input) (layout : ActorCounts) (limit : ℕ) (seed : Option ℕ) (may_stop : Bool) (left : EndedRun) → AreInputsOf verified.program inputs → most < limit
    → left.end ≡ Over → IsLeftIf may_stop seed (opened verified inputs layout limit) left → HasEndedByItself left.outcome.closing

-- holds if no run executes more instructions, also with those of a task that was cut off
abbrev pub ExecutesFew : TypedProgram → ℕ → Type 0
ExecutesFew verified most =
    (inputs : List Input) (layout : ActorCounts) (limit : ℕ) (seed : Option ℕ) (may_stop : Bool) (left : EndedRun) → AreInputsOf verified.program inputs
    → IsLeftIf may_stop seed (opened verified inputs layout limit) left → executed_in left ≤ most
