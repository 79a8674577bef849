-- Parsing of traces, line by line.
use Rattle.std.specs.Prelude.{◌≡◌, ◌⊎◌, ◌+◌, ℕ, Bool, true, false, List, [], ◌∷◌, ◌++◌, Option, Some, None, Result, Ok, Err}
use Rattle.tw_types.specs.declared.event.Event.{Event}
use Rattle.tw_report.specs.Events.{EncodesEvent}
use Rattle.tw_report.specs.History.{HasNoLineFeed, IsBlank, IsEnd, IsUnknown, IsTraceOf, lines_in}
use Rattle.tw_report.specs.declared.history.HistoryFault.{HistoryFault}
use Rattle.tw_report.specs.declared.history.HistoryFault.TheVariants.{UnknownLine, NoMemory}

-- holds for the events after one line, and whether other lines may follow
abbrev pub Takes : List Event → List ℕ → ℕ → Result Bool HistoryFault → List Event → Type 0
Takes events line number (Ok true) after = (IsBlank line × (after ≡ events)) ⊎ ((event : Event) × EncodesEvent event line × (after ≡ events ++ event ∷ []))
Takes events line number (Ok false) after = IsEnd line × (after ≡ events)
Takes events line number (Err (UnknownLine at)) after = IsUnknown line × (at ≡ number)
Takes events line number (Err NoMemory) after = Unit {0}

-- appends the result of later lines, after `count` lines, to these events
abbrev pub onto : List Event → ℕ → Result (List Event) ℕ → Result (List Event) ℕ
onto events count (Ok others) = Ok (events ++ others)
onto events count (Err line) = Err (count + line)

-- holds if these are the events of the first `count` lines, and this is the rest of the text
abbrev pub IsReadTo : List ℕ → List Event → ℕ → List ℕ → Type 0
IsReadTo text events count rest = (r : Result (List Event) ℕ) → IsTraceOf (lines_in rest) r → IsTraceOf (lines_in text) (onto events count r)

-- holds for the text after the first line: nothing, or a line feed and the other lines
abbrev pub Follows : List ℕ → List ℕ → Option (List ℕ) → Type 0
Follows text line None = (lines_in text ≡ line ∷ []) × (text ≡ line)
Follows text line (Some rest) = (lines_in text ≡ line ∷ lines_in rest) × (text ≡ line ++ 10 ∷ rest)

-- holds for the first line, and the text after it, if there is a line feed
abbrev pub IsFirstLine : List ℕ → List ℕ → Option (List ℕ) → Type 0
IsFirstLine text line after = HasNoLineFeed line × Follows text line after
