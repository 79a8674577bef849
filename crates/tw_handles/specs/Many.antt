-- Calls that read many members of an output at once, or values of one that is a map.
use Rattle.std.specs.Prelude.{◌≡◌, ◌⊎◌, ◌<◌, ◌≤◌, ◌+◌}
use Rattle.tw_handles.specs.Names.{ℕ, List, length, Option, Some, None, slice_get, FinalView}
use Rattle.tw_handles.specs.Asking.{Fails}
use Rattle.tw_handles.specs.Codes.{done, no_index}
use Rattle.tw_handles.specs.Members.{member_by}
use Rattle.tw_handles.specs.Shown.{AtSubscript, shown_by}
use Rattle.tw_handles.specs.declared.members.Member.{Member}

-- holds if this is the member
abbrev pub IsReadAt : Option AtSubscript → Option Member → Type 0
IsReadAt None read = ⊥
IsReadAt (Some e) read = read ≡ Some (member_by e)

-- holds if the first so many are the members from a place on
abbrev pub AreReadTo : List AtSubscript → ℕ → ℕ → List Member → Type 0
AreReadTo es first count new = (k : ℕ) → k < count → IsReadAt (slice_get es (first + k)) (slice_get new k)

-- holds if the buffer has the members from a place on, of which there are enough; or there are fewer
abbrev pub AreRead : List AtSubscript → ℕ → List Member → List Member → ℕ → Type 0
AreRead es first old new code =
    (length new ≡ length old)
    × (((first + length old ≤ length es) × AreReadTo es first (length old) new × (code ≡ done)) ⊎ ((length es < first + length old) × (code ≡ no_index)))

-- likewise for an output, if there is one
abbrev pub AreReadIn : FinalView → ℕ → ℕ → List Member → List Member → ℕ → Type 0
AreReadIn final index first old new code =
    ((index < length final.outputs) × AreRead (shown_by final index) first old new code) ⊎ ((length final.outputs ≤ index) × Fails no_index old new code)
