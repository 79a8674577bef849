-- The first input that doesn't fit main.
use Rattle.std.specs.Prelude.{◌≡◌, ◌⊎◌, ◌<◌, ◌+◌}
use Rattle.tw_handles.specs.Names.{ℕ, true, false, List, length, take, Option, MatchOption, Procedure, has_fitting_inputs, has_input_count, Input, TypedProgram}
use Rattle.tw_handles.specs.Asking.{Fails}
use Rattle.tw_handles.specs.Codes.{done, input_count, no_index, no_inputs}
use Rattle.tw_handles.specs.Loading.{inputs_in}
use Rattle.tw_handles.specs.declared.held.Held.{Held}

-- the inputs before this one fit their parameters, and this one doesn't
abbrev pub IsFirstUnfit : List Procedure → List Input → ℕ → Type 0
IsFirstUnfit program inputs index =
    (index < length inputs) × (has_fitting_inputs program (take index inputs) ≡ true) × (has_fitting_inputs program (take (index + 1) inputs) ≡ false)

-- holds for the first input that doesn't fit; or there are more or fewer inputs than main takes, O01; or each fits
abbrev pub IsUnfitIn : List Procedure → List Input → ℕ → ℕ → ℕ → Type 0
IsUnfitIn program inputs old new code =
    ((has_input_count program inputs ≡ true) × IsFirstUnfit program inputs new × (code ≡ done))
    ⊎ ((has_input_count program inputs ≡ true) × (has_fitting_inputs program inputs ≡ true) × Fails no_index old new code)
    ⊎ ((has_input_count program inputs ≡ false) × Fails input_count old new code)

-- likewise for the inputs of a handle
abbrev pub IsUnfitBy : TypedProgram → Option Held → ℕ → ℕ → ℕ → Type 0
IsUnfitBy verified given old new code = MatchOption (inputs_in given) (Fails no_inputs old new code) (λ inputs. IsUnfitIn verified.program inputs old new code)
