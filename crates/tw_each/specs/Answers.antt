-- The answers to lines of inputs, each of them a JSON object on one line.
use Rattle.std.specs.Prelude.{◌≡◌, ◌≢◌, ◌⊎◌, ◌+◌, ◌++◌, ◌∷◌}
use Rattle.tw_each.specs.Names.{ℕ, Bool, is_some, MatchBool, List, [], codes, decimal, drop, length, nat_lt, IsUtf8, Option, Some, None, list_all, TypedProgram, Closing, is_gap_byte, most_bytes, coded, text_of}
use Rattle.tw_types.specs.Layout.{ActorCounts}
use Rattle.tw_types.specs.declared.input.Input.{Input}
use Rattle.tw_code.specs.machine.Opening.{main_params}
use Rattle.tw_pool.specs.declared.open.OpenError.{OpenError}
use Rattle.tw_pool.specs.declared.open.OpenError.TheVariants.{NoMemory}
use Rattle.tw_pool.specs.Openings.{IsRejection, MayOpen, opened}
use Rattle.tw_pool.specs.PoolView.{PoolView}
use Rattle.tw_in_turn.specs.Stopping.{IsLeftIf, cut_of, left_closing}
use Rattle.tw_in_turn.specs.declared.run.EndedRun.{EndedRun}
use Rattle.tw_inputs.specs.JsonInputs.{AreInputsOf, HasFaultOf}
use Rattle.tw_inputs.specs.JsonLines.{line_id, line_json}
use Rattle.tw_inputs.specs.declared.json_inputs.Place.{Place}
use Rattle.tw_json_output.specs.Lines.{IsJsonLine}
use Rattle.tw_source.specs.declared.failure.Failure.{Failure}
use Rattle.tw_source.specs.declared.failure.Position.TheVariants.{Nowhere}
use Rattle.tw_run_output.specs.Json.{IsEndLine}
use Rattle.tw_each.specs.Worst.{end_of, worse}
use Rattle.tw_each.specs.declared.answer.EachRun.{EachRun}
use Rattle.tw_each.specs.declared.worst.WorstEnd.{WorstEnd}
use Rattle.tw_each.specs.declared.worst.WorstEnd.TheVariants as ends

-- a program, the text from which it was read if any, how it is run, and whether a run may be stopped
pub record Way : Type 0 where
  pub text : Option (List ℕ)
  pub verified : TypedProgram
  pub layout : ActorCounts
  pub limit : ℕ
  pub may_stop : Bool

abbrev pub way : EachRun → Way
way run = record { text = text_of run.source; verified = run.verified; layout = run.layout; limit = run.limit; may_stop = is_some run.seconds }

-- ---- one line

-- holds for the line of a finished run, and its end: why it ended, or that it was stopped, unless it had its end then
abbrev pub IsLeftLine : EndedRun → List ℕ → WorstEnd → Type 0
IsLeftLine left line end =
    (closing : Closing) × (left_closing left ≡ Some closing) × IsEndLine left.outcome left.history.events (cut_of left.end) closing line × (end ≡ end_of closing)

-- holds for the line of what a run leaves, from its first pool on, if it may be stopped
abbrev pub IsRunLine : Bool → PoolView → List ℕ → WorstEnd → Type 0
IsRunLine may_stop first line end = (left : EndedRun) × IsLeftIf may_stop None first left × IsLeftLine left line end

-- holds for the line of the error at opening
abbrev pub IsRejectedLine : Way → List Input → List ℕ → Type 0
IsRejectedLine w inputs line = (why : OpenError) × IsRejection w.verified.program inputs w.layout w.limit why × (why ≢ NoMemory) × IsJsonLine line

-- holds for the line of a run with these inputs, or of its error, and for its end
abbrev pub IsInputsAnswer : Way → List Input → List ℕ → WorstEnd → Type 0
IsInputsAnswer w inputs line end =
    (MayOpen w.verified.program inputs w.layout w.limit × IsRunLine w.may_stop (opened w.verified inputs w.layout w.limit) line end) ⊎ (IsRejectedLine w inputs line × (end ≡ ends.Refused))

-- holds for the line of an error, of inputs that aren't read
abbrev pub IsFaultAnswer : List ℕ → WorstEnd → Type 0
IsFaultAnswer line worst = IsJsonLine line × (worst ≡ ends.Refused)

-- holds for the answer to a text: it has inputs, with which the program is run in turn; or it has none
abbrev pub IsAnswer : Way → List ℕ → List ℕ → WorstEnd → Type 0
IsAnswer w text line worst =
    ((inputs : List Input) × AreInputsOf (main_params w.verified.program) (line_json text) inputs × IsInputsAnswer w inputs line worst)
    ⊎ ((place : Place) × HasFaultOf (main_params w.verified.program) (line_json text) place × IsFaultAnswer line worst)

-- ---- all lines

-- returns the member of an id, if there is one
abbrev pub id_member : Option (List ℕ) → List ℕ
id_member None = []
id_member (Some id) = codes ",\"id\":" ++ id

-- returns an object's line with a number as its first member, then any id
abbrev pub labelled : ℕ → Option (List ℕ) → List ℕ → List ℕ
labelled n id line = codes "{\"line\":" ++ (decimal n ++ (id_member id ++ 44 ∷ drop 1 line))

abbrev pub numbered : ℕ → List ℕ → List ℕ
numbered n line = labelled n None line

-- returns whether a line has no other bytes than spaces, tabs, carriage returns and line feeds
abbrev pub is_blank : List ℕ → Bool
is_blank line = list_all is_gap_byte line

-- holds for the line of an error, of a line that isn't read as inputs
abbrev pub IsUnread : ℕ → List ℕ → Type 0
IsUnread n answer = (line : List ℕ) × IsJsonLine line × (answer ≡ numbered n line)

-- the error of a line that is too long
abbrev pub too_long : Failure
too_long = coded 72 2 Nowhere

-- holds for the answer to a line that isn't blank: that of its text, with the line's id; or the error of bytes that aren't UTF-8
abbrev pub IsFullLine : Way → ℕ → List ℕ → List ℕ → WorstEnd → Type 0
IsFullLine w n text answer worst =
    (IsUtf8 text × ((line : List ℕ) × IsAnswer w text line worst × (answer ≡ labelled n (line_id text) line)))
    ⊎ ((IsUtf8 text → ⊥) × IsUnread n answer × (worst ≡ ends.Refused))

-- holds for the answer to a line that isn't too long; a blank line has none
abbrev pub IsShortLine : Way → ℕ → List ℕ → List ℕ → WorstEnd → Type 0
IsShortLine w n text answer worst = MatchBool (is_blank text) ((answer ≡ []) × (worst ≡ ends.Quiet)) (IsFullLine w n text answer worst)

-- holds for the answer to the line with this number; a line has a limit of its bytes
abbrev pub IsLine : Way → ℕ → List ℕ → List ℕ → WorstEnd → Type 0
IsLine w n text answer worst =
    MatchBool (nat_lt most_bytes (length text)) (IsUnread n answer × (worst ≡ ends.Refused)) (IsShortLine w n text answer worst)

-- holds for the answers to the lines after so many, in their order, and for the worst of their ends
abbrev pub AreAnswers : Way → ℕ → List (List ℕ) → List ℕ → WorstEnd → Type 0
AreAnswers w before [] text worst = (text ≡ []) × (worst ≡ ends.Quiet)
AreAnswers w before (line ∷ lines) text worst =
    (first : List ℕ) × (rest : List ℕ) × (bad : WorstEnd) × (others : WorstEnd) × IsLine w (before + 1) line first bad × AreAnswers w (before + 1) lines rest others
    × (text ≡ first ++ rest) × (worst ≡ (worse bad others))
