-- How many local instructions a task can execute from its position.
use Rattle.std.specs.Prelude.{◌≡◌, ℕ, ◌+◌, ◌<◌, ◌≤◌, List}
use Rattle.tw_types.specs.Outcome.{Outcome, Went, ◌>>=◌, outcome_of}
use Rattle.tw_code.specs.declared.procedure.Procedure.{Procedure}
use Rattle.tw_code.specs.machine.State.{Frame}
use Rattle.tw_code.specs.machine.Arguments.{procedure_of}
use Rattle.tw_code.specs.machine.Position.{Position}
use Rattle.tw_code.specs.machine.Machine.{local_steps}

-- executes this many local instructions from the frame's position
abbrev pub steps_from : List Procedure → Frame → ℕ → Outcome Position
steps_from program frame n = outcome_of (procedure_of program frame.procedure) >>= λ p. local_steps n p.code frame.position

-- n local instructions succeed, and either no more do, or n is `most`
pub record IsStretch (program : List Procedure) (frame : Frame) (most n : ℕ) : Type 0 where
  pub few : n ≤ most
  pub go : 0 < n → (at : Position) × (steps_from program frame n ≡ Went at)
  pub whole : n < most → (at : Position) → steps_from program frame (n + 1) ≡ Went at → ⊥
