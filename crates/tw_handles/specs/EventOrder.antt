-- Whether the order of events may show in the outputs of a loaded program.
use Rattle.std.specs.Prelude.{◌≡◌, ◌⊎◌, ◌∷◌}
use Rattle.tw_handles.specs.Names.{[], ℕ, List, Option, Some, None, CopyInsertion, IsDeterministic, TypedProgram}
use Rattle.tw_copies.specs.Copies.{IsFirstCopyInsertion}
use Rattle.tw_handles.specs.Asking.{Fails}
use Rattle.tw_handles.specs.Codes.{done, no_memory}
use Rattle.tw_handles.specs.Numbers.{filled}

-- returns 1, the procedure and the place of the insertion, or zeros if there is none
abbrev pub order_of : Option CopyInsertion → List ℕ
order_of None = 0 ∷ 0 ∷ 0 ∷ []
order_of (Some at) = 1 ∷ at.procedure ∷ at.place ∷ []

-- Holds if this is the first insertion by a right that may be a copy. If there is none, the program is deterministic. Otherwise an allocation
-- failed.
abbrev pub IsOrderFound : TypedProgram → List ℕ → List ℕ → ℕ → Type 0
IsOrderFound verified old new code =
    ((found : Option CopyInsertion) × IsFirstCopyInsertion verified.program found × (found ≡ None → IsDeterministic verified.program) × (new ≡ filled (order_of found) old) × (code ≡ done)) ⊎ Fails no_memory old new code
