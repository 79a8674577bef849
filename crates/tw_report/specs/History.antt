-- The trace format: one line for each event.
use Rattle.std.specs.Prelude.{◌≡◌, ◌⊎◌, ◌==◌, false, ℕ, suc, List, [], ◌∷◌, ◌++◌, codes, Result, Ok, Err}
use Rattle.std.specs.List.{AllByRecursion, flat_map, slice_split}
use Rattle.tw_types.specs.declared.event.Event.{Event}
use Rattle.tw_report.specs.declared.history.HistoryFault.{HistoryFault}
use Rattle.tw_report.specs.declared.history.HistoryFault.TheVariants.{UnknownLine, NoMemory}
use Rattle.tw_report.specs.Events.{EncodesEvent, words_in}

-- ---- lines

abbrev pub lines_in : List ℕ → List (List ℕ)
lines_in text = slice_split (λ b. b == 10) text

abbrev pub HasNoLineFeed : List ℕ → Type 0
HasNoLineFeed line = AllByRecursion (λ b. (b == 10) ≡ false) line

abbrev pub IsBlank : List ℕ → Type 0
IsBlank line = words_in line ≡ []

-- holds if the line has only this word
abbrev pub IsWord : List ℕ → List ℕ → Type 0
IsWord word line = words_in line ≡ word ∷ []

abbrev pub IsEnd : List ℕ → Type 0
IsEnd line = IsWord (codes "end") line

-- holds if the line isn't blank, nor `end`, nor an event
abbrev pub IsUnknown : List ℕ → Type 0
IsUnknown line = (IsBlank line → ⊥) × (IsEnd line → ⊥) × ((event : Event) → EncodesEvent event line → ⊥)

-- ---- traces

-- returns the result for lines after one that isn't an event
abbrev pub after_blank : Result (List Event) ℕ → Result (List Event) ℕ
after_blank (Ok events) = Ok events
after_blank (Err line) = Err (suc line)

abbrev pub after_event : Event → Result (List Event) ℕ → Result (List Event) ℕ
after_event event (Ok events) = Ok (event ∷ events)
after_event event (Err line) = Err (suc line)

-- Holds for the events of lines, up to `end` or all of them, in their order; or for the number, from 1, of the first unknown
-- line.
abbrev pub IsTraceOf : List (List ℕ) → Result (List Event) ℕ → Type 0
IsTraceOf [] r = r ≡ Ok []
IsTraceOf (line ∷ others) r =
    (IsBlank line × ((q : Result (List Event) ℕ) × IsTraceOf others q × (r ≡ after_blank q)))
    ⊎ ((IsEnd line × (r ≡ Ok []))
    ⊎ (((event : Event) × EncodesEvent event line × ((q : Result (List Event) ℕ) × IsTraceOf others q × (r ≡ after_event event q)))
    ⊎ (IsUnknown line × (r ≡ Err 1))))

-- holds for the error of lines
abbrev pub IsNoHistory : List (List ℕ) → HistoryFault → Type 0
IsNoHistory lines (UnknownLine line) = IsTraceOf lines (Err line)
IsNoHistory lines NoMemory = Unit {0}

-- ---- the text after `events`

-- returns lines, each with a line feed
abbrev pub text_of : List (List ℕ) → List ℕ
text_of lines = flat_map (λ l. l ++ 10 ∷ []) lines

-- The text is cut at its first line that is `events`: into the text before that line, and the text after it.
pub record IsCut (text before after : List ℕ) : Type 0 where
  pub lines : List (List ℕ)
  pub line : List ℕ
  pub front : before ≡ text_of lines
  pub whole : AllByRecursion HasNoLineFeed (line ∷ lines)
  pub is : IsWord (codes "events") line
  pub first : AllByRecursion (λ l. IsWord (codes "events") l → ⊥) lines
  pub parts : (text ≡ before ++ (line ++ 10 ∷ after)) ⊎ ((text ≡ before ++ line) × (after ≡ []))

-- holds if it has no such line
abbrev pub HasNoHistory : List ℕ → Type 0
HasNoHistory text = AllByRecursion (λ l. IsWord (codes "events") l → ⊥) (lines_in text)

-- holds for the program's text and the trace
abbrev pub AreParts : List ℕ → List ℕ → List ℕ → Type 0
AreParts text before after = IsCut text before after ⊎ (HasNoHistory text × (before ≡ text) × (after ≡ []))

-- ---- the theorem

-- no lines are two traces
abbrev pub OneHistory : Type 0
OneHistory = (lines : List (List ℕ)) (r q : Result (List Event) ℕ) → IsTraceOf lines r → IsTraceOf lines q → r ≡ q
