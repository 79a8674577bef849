-- Output of `replay` and `picture`: the events of a trace, one after the other, on the reference machine.
use Rattle.std.specs.Prelude.{◌≡◌, ◌⊎◌, ◌++◌, ℕ, suc, List, [], ◌∷◌, codes, length, Option, Some, None, Ok, Err}
use Rattle.tw_types.specs.declared.ending.Ending.{Ending}
use Rattle.tw_types.specs.declared.ending.Ending.TheVariants as ending
use Rattle.tw_types.specs.declared.event.Event.{Event}
use Rattle.tw_types.specs.declared.input.Input.{Input}
use Rattle.tw_types.specs.Cause.{cause_number}
use Rattle.tw_types.specs.Layout.{ActorCounts}
use Rattle.tw_types.specs.Outcome.{Outcome, Went, NotEnabled, Trap}
use Rattle.tw_code.specs.declared.procedure.Procedure.{Procedure}
use Rattle.tw_code.specs.format.Program.{Versioned}
use Rattle.tw_code.specs.machine.Ending as machine
use Rattle.tw_code.specs.machine.Machine.{run, step}
use Rattle.tw_code.specs.machine.Opening.{opening}
use Rattle.tw_code.specs.machine.Pending.{circle}
use Rattle.tw_code.specs.machine.State.{State}
use Rattle.tw_bounds.specs.Runs.{instructions_in}
use Rattle.tw_order.specs.declared.runs.Answer.{Answer}
use Rattle.tw_order.specs.declared.runs.Answer.TheVariants.{Json, Numbers, Picture, Report}
use Rattle.tw_order.specs.declared.runs.ReplayOrder.{ReplayOrder}
use Rattle.tw_json_output.specs.Lines.{IsOneLine}
use Rattle.tw_json_output.specs.Run.{json_line, run_json}
use Rattle.tw_machine.specs.PlainView.{PlainView}
use Rattle.tw_machine.specs.declared.rejection.OpenError.{OpenError}
use Rattle.tw_machine.specs.declared.rejection.OpenError.TheVariants.{MainShape}
use Rattle.tw_machine.specs.Opening.{open_error_code, rejection_of}
use Rattle.tw_timeline.specs.Xml.{IsPrinted, IsXml}
use Rattle.tw_visible.specs.Visible.{HidesNothing}
use Rattle.tw_report.specs.History.{IsTraceOf}
use Rattle.tw_report.specs.Lines.{history_line, not_enabled_line, trap_line}
use Rattle.tw_source.specs.Failure.{coded, failed_with, uncoded}
use Rattle.tw_source.specs.declared.failure.Position.{Position}
use Rattle.tw_source.specs.declared.failure.Position.TheVariants as position
use Rattle.tw_report.specs.Report.{state_report}
use Rattle.tw_replay_output.specs.Circle.{AreEndingDetails, Start, reached_from}
use Rattle.tw_replay_output.specs.Opening.{AreOpeningDetails}
use Rattle.tw_source.specs.Reply.{Reply, reply}
use Rattle.tw_source.specs.declared.close.Close.{Close}
use Rattle.tw_source.specs.declared.close.Close.TheVariants.{Success, Refused, Stuck, Trapped}

-- ---- the events

-- returns how a session ends; a state that is still running is no failure
abbrev pub close_of : Option Ending → Close
close_of None = Success
close_of (Some ending.Quiet) = Success
close_of (Some (ending.Stuck rules)) = Stuck

-- returns the report of the state that was reached
abbrev pub state_reply : List Procedure → State → Reply
state_reply program s = reply (state_report program s) (close_of (machine.ending s))

-- returns the reply after the event with this number; if it failed, its own
abbrev pub after_event : ℕ → Outcome State → (State → Reply) → Reply
after_event number (Went s) next = next s
after_event number NotEnabled next = reply (not_enabled_line number) (Refused (uncoded (position.Event number)))
after_event number (Trap cause) next = reply (trap_line (cause_number cause) number) (Trapped (coded 67 (cause_number cause) (position.Event number)))

-- returns the reply to the events from this number on, up to the first that fails
unfoldable pub played : List Procedure → ActorCounts → ℕ → List Event → State → Reply
played program layout number [] s = state_reply program s
played program layout number (event ∷ events) s = after_event number (step program layout event s) (λ next. played program layout (suc number) events next)

-- returns the reply to events from this machine on
abbrev pub played_from : PlainView → List Event → Reply
played_from first events = played first.program first.layout 1 events first.state

-- ---- the timeline

-- holds for a timeline of events that lead to a state: XML of printed bytes
abbrev pub IsPicture : State → Reply → Type 0
IsPicture s r = IsXml r.text × IsPrinted r.text × (r.close ≡ close_of (machine.ending s))

-- holds by the outcome: `goes` if the events succeed, `stops` if one fails
abbrev pub ByOutcome : Outcome State → (State → Type 0) → Type 0 → Type 0
ByOutcome (Went s) goes stops = goes s
ByOutcome NotEnabled goes stops = stops
ByOutcome (Trap cause) goes stops = stops

-- holds for their timeline, or for what `replay` prints
abbrev pub IsDrawn : PlainView → List Event → Reply → Type 0
IsDrawn first events r = ByOutcome (run first.program first.layout events first.state) (λ s. IsPicture s r) (r ≡ played_from first events)

-- ---- the statistics

-- holds for the report of the state to which events lead, followed by their statistics
abbrev pub IsNumbered : List Procedure → State → Reply → Type 0
IsNumbered program s r = (text : List ℕ) × (r ≡ reply (state_report program s ++ text) (close_of (machine.ending s)))

-- holds for that, or for what `replay` prints
abbrev pub IsCounted : PlainView → List Event → Reply → Type 0
IsCounted first events r = ByOutcome (run first.program first.layout events first.state) (λ s. IsNumbered first.program s r) (r ≡ played_from first events)

-- ---- the JSON line

-- returns the word for the end of a trace
abbrev pub status_of : Option Ending → List ℕ
status_of None = codes "running"
status_of (Some ending.Quiet) = codes "quiet"
status_of (Some (ending.Stuck rules)) = codes "stuck"

-- returns the number of pending rules of a stuck state
abbrev pub pending_of : Option Ending → Option ℕ
pending_of None = None
pending_of (Some ending.Quiet) = None
pending_of (Some (ending.Stuck rules)) = Some rules

-- returns the line of the state to which events lead
abbrev pub state_line : List Procedure → List Event → State → List ℕ
state_line program events s =
    json_line (run_json (status_of (machine.ending s)) (pending_of (machine.ending s)) (circle program s) (length events) (instructions_in events) s.store.live s.outputs)

abbrev pub shown_state : List Procedure → List Event → State → Reply
shown_state program events s = reply (state_line program events s) (close_of (machine.ending s))

-- holds for the line of the state to which the events lead, or for what `replay` prints
abbrev pub IsShownState : PlainView → List Event → Reply → Type 0
IsShownState first events r = ByOutcome (run first.program first.layout events first.state) (λ s. r ≡ shown_state first.program events s) (r ≡ played_from first events)

-- ---- an answer

abbrev pub IsAnswer : Answer → PlainView → List Event → Reply → Type 0
IsAnswer Report first events r = r ≡ played_from first events
IsAnswer Numbers first events r = IsCounted first events r
IsAnswer Json first events r = IsShownState first events r
IsAnswer (Picture shown) first events r = IsDrawn first events r

-- ---- details of an answer, if the program was read from a text

-- holds for a line that says why an event failed, or for none
abbrev pub IsReason : List ℕ → Type 0
IsReason more = (more ≡ []) ⊎ (HidesNothing more × IsOneLine more)

-- without a text that isn't said
abbrev pub MayExplain : Option (List ℕ) → List ℕ → Type 0
MayExplain None more = more ≡ []
MayExplain (Some text) more = IsReason more

-- holds for the details of a report and of statistics, or for why an event failed; a timeline has none, and a JSON line only the latter
abbrev pub AreReportDetails : Answer → List ℕ → Start → List Event → Outcome State → List ℕ → Type 0
AreReportDetails (Picture shown) text start events o more = more ≡ []
AreReportDetails Json text start events o more = ByOutcome o (λ s. more ≡ []) (IsReason more)
AreReportDetails answer text start events o more = ByOutcome o (λ s. AreEndingDetails text start events s (machine.ending s) more) (IsReason more)

abbrev pub AreAnswerDetails : Option (List ℕ) → Answer → Start → List Event → List ℕ → Type 0
AreAnswerDetails None answer start events more = more ≡ []
AreAnswerDetails (Some text) answer start events more = AreReportDetails answer text start events (reached_from start events) more

-- ---- the program and its inputs

-- holds for the details of an error in the inputs; if main doesn't have its shape, there are none
abbrev pub AreRejectionDetails : Option (List ℕ) → List Procedure → List Input → OpenError → Position → List ℕ → Type 0
AreRejectionDetails text program inputs MainShape at more = (at ≡ position.Nowhere) × (more ≡ [])
AreRejectionDetails text program inputs why at more = AreOpeningDetails text program inputs at more

-- holds for the reply to a program that isn't opened, else like `Answers`
abbrev pub OpensOr : Option (List ℕ) → List Procedure → List Input → Option OpenError → Type 0 → Reply → Type 0
OpensOr text program inputs None Answers r = Answers
OpensOr text program inputs (Some why) Answers r = (at : Position) × (more : List ℕ) × AreRejectionDetails text program inputs why at more × (r ≡ failed_with (coded 79 (open_error_code why) at) more)

abbrev pub start_of : ReplayOrder → Versioned → Start
start_of order program = record { program = program.procedures; inputs = order.inputs; layout = order.layout }

-- returns the machine after the opening, if the program is opened
abbrev pub opened : ReplayOrder → Versioned → PlainView
opened order program = record { version = program.version; program = program.procedures; layout = order.layout; state = opening program.procedures order.inputs }

-- holds for such an answer, followed by its details
abbrev pub IsDetailed : (Reply → Type 0) → Option (List ℕ) → Answer → Start → List Event → Reply → Type 0
IsDetailed Answers text answer start events r =
    (answered : Reply) × (more : List ℕ) × Answers answered × AreAnswerDetails text answer start events more × (r ≡ reply (answered.text ++ more) answered.close)

-- holds for the answer, followed by its details
abbrev pub IsAnswered : Option (List ℕ) → ReplayOrder → Versioned → List Event → Reply → Type 0
IsAnswered text order program events r = IsDetailed (λ a. IsAnswer order.answer (opened order program) events a) text order.answer (start_of order program) events r

abbrev pub IsReplayed : Option (List ℕ) → ReplayOrder → Versioned → List Event → Reply → Type 0
IsReplayed text order program events r =
    OpensOr text program.procedures order.inputs (rejection_of program.procedures order.inputs) (IsAnswered text order program events r) r

-- ---- what is read

-- holds if the lines encode a trace, or have a first line that isn't known
abbrev pub RepliesByLines : Option (List ℕ) → ReplayOrder → List (List ℕ) → Versioned → Reply → Type 0
RepliesByLines text order lines program r =
    ((events : List Event) × IsTraceOf lines (Ok events) × IsReplayed text order program events r)
    ⊎ ((line : ℕ) × IsTraceOf lines (Err line) × (r ≡ reply (history_line line) (Refused (coded 69 1 (position.Line line 0 0)))))
