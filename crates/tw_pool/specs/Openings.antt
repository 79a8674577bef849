-- Openings of runs, and their errors.
use Rattle.std.specs.Prelude.{◌≡◌, ◌≤◌, ℕ, true, false, List, []}
use Rattle.tw_types.specs.declared.input.Input.{Input}
use Rattle.tw_types.specs.Layout.{ActorCounts}
use Rattle.tw_code.specs.accepting.Needs.{HasTargets}
use Rattle.tw_code.specs.declared.procedure.Procedure.{Procedure}
use Rattle.tw_code.specs.machine.Inputs.{AreInputsOf, has_fitting_inputs, has_input_count}
use Rattle.tw_verify.specs.Typed.{TypedProgram}
use Rattle.tw_pool.specs.PoolView.{PoolView}
use Rattle.tw_pool.specs.declared.open.OpenError.{OpenError}
use Rattle.tw_pool.specs.declared.open.OpenError.TheVariants.{InputCount, InputType, MissingTarget, LimitRange, NoMemory}

-- the limit is from 1 to 1,000,000
pub record IsLimit (limit : ℕ) : Type 0 where
  pub some : 1 ≤ limit
  pub few : limit ≤ 1000000

-- only a failed allocation can prevent the opening
pub record MayOpen (program : List Procedure) (inputs : List Input) (layout : ActorCounts) (limit : ℕ) : Type 0 where
  pub inputs_are : AreInputsOf program inputs
  pub targets : HasTargets program layout
  pub within : IsLimit limit

-- holds for the first error whose condition holds; a failed allocation is reported only without any other error
abbrev pub IsRejection : List Procedure → List Input → ActorCounts → ℕ → OpenError → Type 0
IsRejection program inputs layout limit InputCount = has_input_count program inputs ≡ false
IsRejection program inputs layout limit InputType = (has_input_count program inputs ≡ true) × (has_fitting_inputs program inputs ≡ false)
IsRejection program inputs layout limit MissingTarget = AreInputsOf program inputs × (HasTargets program layout → ⊥)
IsRejection program inputs layout limit LimitRange = AreInputsOf program inputs × HasTargets program layout × (IsLimit limit → ⊥)
IsRejection program inputs layout limit NoMemory = MayOpen program inputs layout limit

-- returns the code without the letter O
abbrev pub open_error_code : OpenError → ℕ
open_error_code InputCount = 1
open_error_code InputType = 2
open_error_code MissingTarget = 3
open_error_code LimitRange = 4
open_error_code NoMemory = 5

-- returns the pool before the first event
abbrev pub opened : TypedProgram → List Input → ActorCounts → ℕ → PoolView
opened verified inputs layout limit =
    record { program = verified; inputs = inputs; layout = layout; limit = limit; stopped = false; history = [] }
