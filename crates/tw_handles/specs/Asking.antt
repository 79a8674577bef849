-- Calls on a loaded program: another handle of it, the number of its procedures, and their budgets.
use Rattle.std.specs.Prelude.{◌≡◌, ◌⊎◌}
use Rattle.tw_handles.specs.Names.{ℕ, Option, Some, slice_get, MatchOption, TypedProgram}
use Rattle.tw_code.specs.accepting.Flow.{flows}
use Rattle.tw_code.specs.accepting.Walk.{IsBudget}
use Rattle.tw_handles.specs.Codes.{done, no_index, no_memory, no_program}
use Rattle.tw_handles.specs.Loading.{program_in}
use Rattle.tw_handles.specs.declared.held.Held.{Held}

-- holds if the call failed with this code, and wrote nothing
abbrev pub Fails : {A : Type 0} → ℕ → A → A → ℕ → Type 0
Fails why old new code = (new ≡ old) × (code ≡ why)

-- holds if the call wrote this
abbrev pub Writes : {A : Type 0} → A → A → A → ℕ → Type 0
Writes made old new code = (new ≡ made) × (code ≡ done)

-- what a call does with a handle's program; or the handle holds none
abbrev pub WithProgram : {A : Type 0} → (TypedProgram → A → A → ℕ → Type 0) → Option Held → A → A → ℕ → Type 0
WithProgram Does held old new code = MatchOption (program_in held) (Fails no_program old new code) (λ verified. Does verified old new code)

-- holds if the other handle holds the program too, or an allocation failed
abbrev pub IsShare : TypedProgram → Option Held → Option Held → ℕ → Type 0
IsShare verified old new code = ((program_in new ≡ Some verified) × (code ≡ done)) ⊎ Fails no_memory old new code

-- holds if this is the budget of the procedure, or there is no such procedure
abbrev pub IsBudgetIn : TypedProgram → ℕ → ℕ → ℕ → ℕ → Type 0
IsBudgetIn verified procedure old new code =
    MatchOption (slice_get verified.program procedure) (Fails no_index old new code) (λ p. IsBudget (flows p.code) new × (code ≡ done))
