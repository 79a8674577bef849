-- Details of a failed opening of a program that was read from a text: which input is wrong, if one is.
use Rattle.std.specs.Prelude.{◌≡◌, ◌<◌, ℕ, ◌+◌, true, false, MatchBool, List, [], length, Option, Some, None, take}
use Rattle.tw_types.specs.declared.input.Input.{Input}
use Rattle.tw_code.specs.declared.procedure.Procedure.{Procedure}
use Rattle.tw_code.specs.machine.Inputs.{has_fitting_inputs, has_input_count}
use Rattle.tw_source.specs.declared.failure.Position.{Position}
use Rattle.tw_source.specs.declared.failure.Position.TheVariants as position
use Rattle.tw_visible.specs.Visible.{HidesNothing}

-- holds for an input that doesn't fit its parameter, after so many others that fit theirs
abbrev pub IsFirstUnfit : List Procedure → List Input → ℕ → Type 0
IsFirstUnfit program inputs index =
    (index < length inputs) × (has_fitting_inputs program (take index inputs) ≡ true) × (has_fitting_inputs program (take (index + 1) inputs) ≡ false)

abbrev pub IsUnfitAt : List Procedure → List Input → Position → Type 0
IsUnfitAt program inputs at = (index : ℕ) × IsFirstUnfit program inputs index × (at ≡ position.Input (index + 1))

-- holds for the first input that doesn't fit; for none if all fit, or if there aren't as many as main takes
abbrev pub IsWrongInput : List Procedure → List Input → Position → Type 0
IsWrongInput program inputs at =
    MatchBool (has_input_count program inputs)
    (MatchBool (has_fitting_inputs program inputs) (at ≡ position.Nowhere) (IsUnfitAt program inputs at))
    (at ≡ position.Nowhere)

-- holds for the position and the text of the details; without a text of the program there are none
abbrev pub AreOpeningDetails : Option (List ℕ) → List Procedure → List Input → Position → List ℕ → Type 0
AreOpeningDetails None program inputs at more = (at ≡ position.Nowhere) × (more ≡ [])
AreOpeningDetails (Some text) program inputs at more = IsWrongInput program inputs at × HidesNothing more
