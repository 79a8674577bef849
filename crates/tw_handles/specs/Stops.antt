-- Calls on a stop flag.
use Rattle.std.specs.Prelude.{◌≡◌, ◌⊎◌}
use Rattle.tw_handles.specs.Names.{ℕ, Bool, [], Option, Some, None, MatchOption, StopFlag, IsSet, IsShared, values_of}
use Rattle.tw_handles.specs.Asking.{Fails}
use Rattle.tw_handles.specs.Codes.{done, no_memory, no_stop}
use Rattle.tw_handles.specs.declared.held.Held.{Held}
use Rattle.tw_handles.specs.declared.held.Held.TheVariants.{Stop}

-- the handle holds this flag, or an allocation failed
abbrev pub IsFlagPut : StopFlag → Option Held → Option Held → ℕ → Type 0
IsFlagPut flag old new code = ((new ≡ Some (Stop flag)) × (code ≡ done)) ⊎ Fails no_memory old new code

-- the handle holds a flag that nobody has set, or an allocation failed
abbrev pub IsStopMade : Option Held → Option Held → ℕ → Type 0
IsStopMade old new code = ((flag : StopFlag) × (values_of flag ≡ []) × (new ≡ Some (Stop flag)) × (code ≡ done)) ⊎ Fails no_memory old new code

-- returns the flag of a handle; a null one has none
abbrev pub flag_in : Option Held → Option StopFlag
flag_in (Some (Stop flag)) = Some flag
flag_in held = None

-- the handle holds the same flag, or an allocation failed
abbrev pub IsFlagShared : StopFlag → Option Held → Option Held → ℕ → Type 0
IsFlagShared flag old new code = ((other : StopFlag) × IsShared flag other × (new ≡ Some (Stop other)) × (code ≡ done)) ⊎ Fails no_memory old new code

-- the other handle holds the same flag
abbrev pub IsStopShared : Option Held → Option Held → Option Held → ℕ → Type 0
IsStopShared held old new code = MatchOption (flag_in held) (Fails no_stop old new code) (λ flag. IsFlagShared flag old new code)

-- the handle's flag was raised, or lowered
abbrev pub IsStopSet : Bool → Option Held → Option Held → ℕ → Type 0
IsStopSet raised old new code = MatchOption (flag_in old) (Fails no_stop old new code) (λ flag. (after : StopFlag) × IsSet raised flag after × (new ≡ Some (Stop after)) × (code ≡ done))
