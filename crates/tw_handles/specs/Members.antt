-- Calls on the members of an output that is a container, or on the values of one that is a map.
use Rattle.std.specs.Prelude.{◌≡◌}
use Rattle.tw_handles.specs.Names.{ℕ, List, Option, Some, MatchOption, slice_get, FinalView}
use Rattle.tw_handles.specs.Asking.{Fails}
use Rattle.tw_handles.specs.Codes.{done, no_index}
use Rattle.tw_handles.specs.Reading.{IsWritten, value_item}
use Rattle.tw_handles.specs.Shown.{AtSubscript, shown_by}
use Rattle.tw_handles.specs.declared.members.Member.{Member}

-- returns what an output has at the place with so many smaller subscripts
abbrev pub entry_at : FinalView → ℕ → ℕ → Option AtSubscript
entry_at final index place = slice_get (shown_by final index) place

abbrev pub member_by : AtSubscript → Member
member_by e = record { subscript = value_item e.subscript; value = e.item }

abbrev pub IsMemberIn : FinalView → ℕ → ℕ → Member → Member → ℕ → Type 0
IsMemberIn final index place old new code =
    MatchOption (entry_at final index place) (Fails no_index old new code) (λ e. (new ≡ member_by e) × (code ≡ done))

abbrev pub IsMemberTextIn : FinalView → ℕ → ℕ → List ℕ → List ℕ → ℕ → Type 0
IsMemberTextIn final index place old new code =
    MatchOption (entry_at final index place) (Fails no_index old new code) (λ e. IsWritten e.value old new code)

abbrev pub IsSubscriptTextIn : FinalView → ℕ → ℕ → List ℕ → List ℕ → ℕ → Type 0
IsSubscriptTextIn final index place old new code =
    MatchOption (entry_at final index place) (Fails no_index old new code) (λ e. IsWritten (Some e.subscript) old new code)
