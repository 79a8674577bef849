-- Accepted programs don't trap.
use Rattle.std.proofs.Common.{◌≡◌, ℕ, List, [], ◌∷◌, slice_get, Some}
use Rattle.tw_soundness.proofs.MachineNames.{Accepts, ActorCounts, AreInputsOf, AreRight, Event, Input, IsHeld, IsProcedure, IsProgram, IsSafe, NoTrap, Procedure, State, Typings, Went, opening, reached, step}
use Rattle.tw_budget.proofs.Sound.{sound_flows}
use Rattle.tw_soundness.proofs.Accepted.{accepted, all_found}
use Rattle.tw_soundness.proofs.AllEvents.{run_keeps, step_keeps}
use Rattle.tw_soundness.proofs.OneStep.{below, one_step}
use Rattle.tw_soundness.proofs.Opening.{opening_held}
use Rattle.tw_soundness.proofs.Steps.{Keeps, keeps_no_trap, keeps_went}

module _ (program : List Procedure) (typings : Typings) (is : IsProgram program) (right : AreRight program typings) where
  pub accepts : (k : ℕ) (p : Procedure) → slice_get program k ≡ Some p → Accepts program (typings k) p
  accepts k p here =
      let each = right.accepted.each k p here in
      let limits = all_found IsProcedure program k p is.1 here in
      record {
        typed = right.typed k p here;
        sound = sound_flows p limits each.structured;
        budget = (each.budget.0, each.budget.1);
        limits = limits;
      }

  pub event_keeps : (layout : ActorCounts) (event : Event) (s : State) → IsHeld program typings s → Keeps (step program layout event s) (IsHeld program typings)
  event_keeps layout event s held = step_keeps program typings layout (accepted program typings accepts) event s held

  pub safe : (layout : ActorCounts) (s : State) → IsHeld program typings s → IsSafe program layout s
  safe layout s held = record {
    no_trap = λ event cause e. keeps_no_trap (step program layout event s) (IsHeld program typings) cause (event_keeps layout event s held) e;
    one_step = λ a f at. one_step program typings accepts layout s a f held at;
    below = λ a f at. below program typings accepts s a f held at;
  }

-- of the state in which main waits
pub opened_held : (program : List Procedure) (typings : Typings) → IsProgram program → AreRight program typings → (inputs : List Input) → AreInputsOf program inputs → IsHeld program typings (opening program inputs)
opened_held [] typings is right inputs given = let main = right.accepted.main in cc
opened_held (main ∷ others) typings is right inputs given = opening_held main others inputs is.1.0.params.1 right.accepted.main given typings

pub no_trap : (program : List Procedure) (typings : Typings) → IsProgram program → AreRight program typings → NoTrap program
no_trap program typings is right = record {
  run_goes = λ inputs layout events cause given e. keeps_no_trap (reached program inputs layout events) (IsHeld program typings) cause (run_held inputs layout events given) e;
  reached_is_safe = λ inputs layout events s given e. safe program typings is right layout s (keeps_went (reached program inputs layout events) (IsHeld program typings) s (run_held inputs layout events given) e);
}
  where
    run_held : (inputs : List Input) (layout : ActorCounts) (events : List Event) → AreInputsOf program inputs → Keeps (reached program inputs layout events) (IsHeld program typings)
    run_held inputs layout events given = run_keeps program typings layout (accepted program typings (accepts program typings is right)) events (opening program inputs) (opened_held program typings is right inputs given)

-- of each state that is reached
pub reached_is_held : (program : List Procedure) (typings : Typings) → IsProgram program → AreRight program typings → (inputs : List Input) (layout : ActorCounts) (events : List Event) (s : State)
    → AreInputsOf program inputs → reached program inputs layout events ≡ Went s → IsHeld program typings s
reached_is_held program typings is right inputs layout events s given e =
    keeps_went (reached program inputs layout events) (IsHeld program typings) s
    (run_keeps program typings layout (accepted program typings (accepts program typings is right)) events (opening program inputs) (opened_held program typings is right inputs given)) e

-- the state after one event that succeeds
pub kept_by : (program : List Procedure) (typings : Typings) (layout : ActorCounts) (event : Event) (s next : State) → IsProgram program → AreRight program typings → IsHeld program typings s → step program layout event s ≡ Went next → IsHeld program typings next
kept_by program typings layout event s next is right held e = keeps_went (step program layout event s) (IsHeld program typings) next (event_keeps program typings is right layout event s held) e
