-- Errors of openings.
use Rattle.std.specs.Prelude.{◌≡◌, ℕ, not, if◌then◌else◌, List, Option, Some, None}
use Rattle.tw_types.specs.declared.input.Input.{Input}
use Rattle.tw_code.specs.declared.procedure.Procedure.{Procedure}
use Rattle.tw_code.specs.machine.Inputs.{has_input_count, has_fitting_inputs}
use Rattle.tw_code.specs.accepting.MainShape.{has_main_shape}
use Rattle.tw_machine.specs.declared.rejection.OpenError.{OpenError}
use Rattle.tw_machine.specs.declared.rejection.OpenError.TheVariants.{InputCount, InputType, NoMemory, MainShape}

-- returns the code without the letter O
abbrev pub open_error_code : OpenError → ℕ
open_error_code InputCount = 1
open_error_code InputType = 2
open_error_code NoMemory = 5
open_error_code MainShape = 6

-- returns the error of an opening, apart from a failed allocation: main's shape is checked first, then the number of the inputs,
-- then their types
abbrev pub rejection_of : List Procedure → List Input → Option OpenError
rejection_of program inputs =
    if not (has_main_shape program) then Some MainShape
    else if not (has_input_count program inputs) then Some InputCount
    else if not (has_fitting_inputs program inputs) then Some InputType
    else None

-- holds for this error; without one, for a failed allocation
abbrev pub IsFirstError : Option OpenError → OpenError → Type 0
IsFirstError (Some why) first_error = first_error ≡ why
IsFirstError None first_error = first_error ≡ NoMemory
