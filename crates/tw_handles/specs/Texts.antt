-- Texts that calls make of a report or a source. A handle holds such a text, and its bytes are copied from there.
use Rattle.std.specs.Prelude.{◌≡◌, ◌⊎◌}
use Rattle.tw_handles.specs.Names.{ℕ, List, length, min, Option, Some, None, MatchOption, true, cut_of, executed_in, EndedRun}
use Rattle.tw_run_output.specs.Ends.{IsEndReport}
use Rattle.tw_run_output.specs.Json.{IsEndLine}
use Rattle.tw_run_output.specs.Run.{trace_text}
use Rattle.tw_visible.specs.Visible.{HidesNothing}
use Rattle.tw_handles.specs.Asking.{Fails}
use Rattle.tw_handles.specs.Codes.{done, no_end, no_memory, no_string}
use Rattle.tw_handles.specs.Reading.{IsFilled}
use Rattle.tw_handles.specs.declared.held.Held.{Held}
use Rattle.tw_handles.specs.declared.held.Held.TheVariants.{Text}

-- returns the text of a handle
abbrev pub text_in : Option Held → Option (List ℕ)
text_in (Some (Text text)) = Some text.items
text_in held = None

-- holds if the handle holds the text, or an allocation failed
abbrev pub IsTextKept : List ℕ → Option Held → Option Held → ℕ → Type 0
IsTextKept text old new code = ((text_in new ≡ Some text) × (code ≡ done)) ⊎ Fails no_memory old new code

-- holds if the handle holds such a text, or an allocation failed
abbrev pub IsTextMade : (List ℕ → Type 0) → Option Held → Option Held → ℕ → Type 0
IsTextMade Is old new code = ((text : List ℕ) × Is text × (text_in new ≡ Some text) × (code ≡ done)) ⊎ Fails no_memory old new code

-- the handle holds a text without hidden characters, or is as it was
abbrev pub MayBeTold : Option Held → Option Held → Type 0
MayBeTold old new = (new ≡ old) ⊎ ((text : List ℕ) × (text_in new ≡ Some text) × HidesNothing text)

-- ---- texts of a report

abbrev pub IsReportOf : EndedRun → List ℕ → Type 0
IsReportOf left text = IsEndReport left.outcome text

abbrev pub IsTrace : EndedRun → List ℕ → Type 0
IsTrace left text = text ≡ trace_text true left.history.events

-- a run that was broken off has no JSON line
abbrev pub IsJsonIn : EndedRun → Option Held → Option Held → ℕ → Type 0
IsJsonIn left old new code =
    MatchOption left.outcome.closing (Fails no_end old new code) (λ closing. IsTextMade (IsEndLine left.outcome left.history.events (cut_of left.end) closing) old new code)

-- returns the greatest number of 64 bits for a larger one
abbrev pub capped : ℕ → ℕ
capped number = min number 18446744073709551615

abbrev pub executed : EndedRun → ℕ
executed left = capped (executed_in left)

-- ---- reading a text

abbrev pub IsTextLength : Option Held → ℕ → ℕ → ℕ → Type 0
IsTextLength held old new code = MatchOption (text_in held) (Fails no_string old new code) (λ text. (new ≡ length text) × (code ≡ done))

abbrev pub IsTextCopied : Option Held → List ℕ → List ℕ → ℕ → Type 0
IsTextCopied held old new code = MatchOption (text_in held) (Fails no_string old new code) (λ text. IsFilled text old new code)
