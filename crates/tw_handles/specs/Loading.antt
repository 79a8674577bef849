-- The contents of a handle, and loading a program.
use Rattle.std.specs.Prelude.{◌≡◌, ◌≢◌, ◌⊎◌, ◌<◌, ◌≤◌, ◌∷◌}
use Rattle.tw_handles.specs.Names.{ℕ, List, [], length, unwrap_or, Option, Some, None, slice_get, Input, TypedProgram}
use Rattle.std.specs.Arc.{arc_value}
use Rattle.tw_code.specs.format.Versions.{version_number}
use Rattle.tw_verdict.specs.Source.{HasSource, IsSourceError, IsSourceReading, without_line}
use Rattle.tw_verdict.specs.Verdict.{accepted, no_memory}
use Rattle.tw_verdict.specs.declared.format.Format.{Format}
use Rattle.tw_verdict.specs.declared.format.Format.TheVariants as format
use Rattle.tw_verdict.specs.declared.text.SourceVerdict.{SourceVerdict}
use Rattle.tw_handles.specs.Codes.{loading_code, no_options}
use Rattle.tw_handles.specs.Numbers.{filled}
use Rattle.tw_handles.specs.declared.finished.Finished.{Finished}
use Rattle.tw_handles.specs.declared.held.Held.{Held}
use Rattle.tw_handles.specs.declared.held.Held.TheVariants.{Inputs, Program, Report}

-- returns the loaded program of a handle
abbrev pub program_in : Option Held → Option TypedProgram
program_in (Some (Program verified)) = Some (arc_value verified)
program_in held = None

-- returns the inputs of a handle; a null handle has no inputs
abbrev pub inputs_in : Option Held → Option (List Input)
inputs_in None = Some []
inputs_in (Some (Inputs inputs)) = Some inputs.items
inputs_in held = None

-- returns the result of a run, with its certificate, from a report's handle
abbrev pub finished_in : Option Held → Option Finished
finished_in (Some (Report run)) = Some run
finished_in held = None

-- the handle holds the program, or an allocation failed
abbrev pub IsKept : TypedProgram → SourceVerdict → Option Held → Option Held → SourceVerdict → Type 0
IsKept verified reading old new verdict = ((program_in new ≡ Some verified) × (verdict ≡ reading)) ⊎ ((new ≡ old) × (verdict ≡ without_line no_memory))

-- a verdict of a letter, a number and a byte
abbrev pub verdict_at : ℕ → ℕ → ℕ → SourceVerdict
verdict_at letter number place = without_line (record { letter = letter; number = number; engines = 0; workers = 0; procedure = 0; place = place })

-- Holds if the handle holds the accepted program of the source; or that is of a later version than the newest, which is F02 at its fourth byte; or the
-- verdict has the source's error. Then the contents of the handle are as they were.
abbrev pub IsSourceLoaded : Format → ℕ → List ℕ → Option Held → Option Held → SourceVerdict → Type 0
IsSourceLoaded form newest source old new verdict =
    ((verified : TypedProgram) × HasSource form source verified × (((version_number verified.version ≤ newest) × IsKept verified (without_line (accepted verified.program)) old new verdict)
    ⊎ ((newest < version_number verified.version) × (new ≡ old) × (verdict ≡ verdict_at 70 2 3))))
    ⊎ ((new ≡ old) × (verdict.verdict.letter ≢ 0) × IsSourceError form source verdict)

-- returns an option of a load, or the usual one if there are fewer: the greatest length is 16 MiB, and the newest version 4
abbrev pub most_of : List ℕ → ℕ
most_of options = unwrap_or (slice_get options 0) 16777216

abbrev pub newest_of : List ℕ → ℕ
newest_of options = unwrap_or (slice_get options 1) 4

-- holds if the source is loaded or rejected; or it has more bytes than it may, which is H02
abbrev pub IsWithinLength : Format → List ℕ → List ℕ → Option Held → Option Held → SourceVerdict → Type 0
IsWithinLength form options source old new verdict =
    ((length source ≤ most_of options) × IsSourceLoaded form (newest_of options) source old new verdict)
    ⊎ ((most_of options < length source) × (new ≡ old) × (verdict ≡ verdict_at 72 2 0))

-- returns a verdict's letter, number, engines, workers, procedure and place, then its line, word and column
abbrev pub verdict_numbers : SourceVerdict → List ℕ
verdict_numbers v =
    v.verdict.letter ∷ v.verdict.number ∷ v.verdict.engines ∷ v.verdict.workers ∷ v.verdict.procedure ∷ v.verdict.place ∷ v.line ∷ v.word ∷ v.column ∷ []

-- the verdict's numbers are written, and this is its code
abbrev pub IsPut : SourceVerdict → List ℕ → List ℕ → ℕ → Type 0
IsPut verdict old new code = (new ≡ filled (verdict_numbers verdict) old) × (code ≡ loading_code verdict.verdict.letter)

-- holds if the source is loaded or rejected, with its verdict; or there are more options than two
abbrev pub IsLoading : Format → List ℕ → List ℕ → Option Held → Option Held → List ℕ → List ℕ → ℕ → Type 0
IsLoading form options source old new before after code =
    ((length options ≤ 2) × (verdict : SourceVerdict) × IsWithinLength form options source old new verdict × IsPut verdict before after code)
    ⊎ ((2 < length options) × (new ≡ old) × (after ≡ before) × (code ≡ no_options))

-- holds if the verdict on the bytes is written
abbrev pub IsVerified : List ℕ → List ℕ → List ℕ → ℕ → Type 0
IsVerified bytes before after code = (found : Option TypedProgram) × (verdict : SourceVerdict) × IsSourceReading format.Bytes bytes found verdict × IsPut verdict before after code
