-- Output of a run that is over.
use Rattle.std.specs.Prelude.{◌≡◌, ◌++◌, Bool, true, false, ℕ, List, [], codes, decimal, Option, Some, None}
use Rattle.std.specs.List.{flat_map}
use Rattle.tw_types.specs.declared.event.Event.{Event}
use Rattle.tw_code.specs.declared.procedure.Procedure.{Procedure}
use Rattle.tw_code.specs.declared.version.Version.{Version}
use Rattle.tw_code.specs.machine.Opening.{opening}
use Rattle.tw_code.specs.machine.Pending.{circle}
use Rattle.tw_code.specs.machine.State.{State}
use Rattle.tw_certificate.specs.FirstContest.{IsFirstContest}
use Rattle.tw_copies.specs.declared.check.CopyInsertion.{CopyInsertion}
use Rattle.tw_pool.specs.declared.answer.Closing.{Closing}
use Rattle.tw_pool.specs.declared.answer.Closing.TheVariants.{Quiet, Stuck, Stopped, Limit}
use Rattle.tw_order.specs.declared.runs.RunAnswer.{RunAnswer}
use Rattle.tw_order.specs.declared.runs.RunAnswer.TheVariants.{Json, Numbers, Order, OrderJson, Picture, Report}
use Rattle.tw_order.specs.declared.runs.RunOrder.{RunOrder}
use Rattle.tw_machine.specs.PlainView.{PlainView}
use Rattle.tw_timeline.specs.Xml.{IsPrinted, IsXml}
use Rattle.tw_report.specs.Events.{event_line}
use Rattle.tw_run_output.specs.Ends.{end_report}
use Rattle.tw_run_output.specs.Json.{members_of, run_line}
use Rattle.tw_run_output.specs.EventOrder.{IsOrderText, order_line}
use Rattle.tw_source.specs.declared.close.Close.{Close}
use Rattle.tw_source.specs.declared.close.Close.TheVariants as close
use Rattle.tw_replay_output.specs.Circle.{Start, PrintsCircle}

-- returns the lines of the run's events, if they are requested
abbrev pub trace_text : Bool → List Event → List ℕ
trace_text false history = []
trace_text true history = codes "events\n" ++ (flat_map event_line history ++ codes "end\n")

abbrev pub close_of : Closing → Close
close_of Quiet = close.Success
close_of (Stuck rules) = close.Stuck
close_of Limit = close.Limit
close_of Stopped = close.Limit

-- returns the line after `limit`, if the program was read from a text: how many events the run has, and how many one may have
abbrev pub limit_details : Option (List ℕ) → RunOrder → Closing → List ℕ
limit_details (Some text) order Limit = codes "events " ++ (decimal order.options.limit ++ codes "; --limit takes up to 1000000\n")
limit_details (Some text) order Quiet = []
limit_details (Some text) order (Stuck rules) = []
limit_details (Some text) order Stopped = []
limit_details None order closing = []

-- returns the report of a program, which was read from this text, if from any
abbrev pub run_report : Option (List ℕ) → List Procedure → RunOrder → State → Closing → List ℕ
run_report text program order s closing = end_report program s (Some closing) ++ limit_details text order closing

-- returns the start of a run, for a program in this version of the format
abbrev pub begins : Version → List Procedure → RunOrder → PlainView
begins version program order = record { version = version; program = program; layout = order.options.layout; state = opening program order.inputs }

-- Holds if this is the requested output: the report, also with statistics or the order, a JSON line, or a timeline, which is XML of printed bytes.
-- Tasks that were cut off have executed `cut` local instructions.
abbrev pub IsRunText : RunAnswer → Option (List ℕ) → List Procedure → RunOrder → List Event → ℕ → State → Closing → List ℕ → Type 0
IsRunText Report text program order events cut s closing printed = printed ≡ run_report text program order s closing
IsRunText Json text program order events cut s closing printed = printed ≡ run_line program events cut s closing
IsRunText Order text program order events cut s closing printed =
    (found : Option CopyInsertion) × (lines : List ℕ) × IsFirstContest program order.inputs order.options.layout events found × IsOrderText text closing found lines × (printed ≡ run_report text program order s closing ++ lines)
IsRunText OrderJson text program order events cut s closing printed =
    (found : Option CopyInsertion) × IsFirstContest program order.inputs order.options.layout events found × (printed ≡ order_line closing found (members_of program events cut s closing))
IsRunText Numbers text program order events cut s closing printed =
    (numbers : List ℕ) × (printed ≡ run_report text program order s closing ++ numbers)
IsRunText (Picture shown) text program order events cut s closing printed = IsXml printed × IsPrinted printed

-- returns the start of the run
abbrev pub start_of : List Procedure → RunOrder → Start
start_of program order = record { program = program; inputs = order.inputs; layout = order.options.layout }

-- holds if these are the lines at the end, for a program that was read from this text
abbrev pub AreClosingDetails : List ℕ → List Procedure → RunOrder → List Event → State → Closing → List ℕ → Type 0
AreClosingDetails text program order events s (Stuck rules) more = PrintsCircle text (start_of program order) events (circle program s) more
AreClosingDetails text program order events s Quiet more = more ≡ []
AreClosingDetails text program order events s Limit more = more ≡ []
AreClosingDetails text program order events s Stopped more = more ≡ []

-- holds if these are the lines after a report; none if the program wasn't read from a text
abbrev pub AreReportedDetails : Option (List ℕ) → List Procedure → RunOrder → List Event → State → Closing → List ℕ → Type 0
AreReportedDetails None program order events s closing more = more ≡ []
AreReportedDetails (Some text) program order events s closing more = AreClosingDetails text program order events s closing more

-- holds if these are the lines at the end; a JSON line and a timeline have none
abbrev pub AreRunDetails : RunAnswer → Option (List ℕ) → List Procedure → RunOrder → List Event → State → Closing → List ℕ → Type 0
AreRunDetails Report text program order events s closing more = AreReportedDetails text program order events s closing more
AreRunDetails Numbers text program order events s closing more = AreReportedDetails text program order events s closing more
AreRunDetails Order text program order events s closing more = AreReportedDetails text program order events s closing more
AreRunDetails Json text program order events s closing more = more ≡ []
AreRunDetails OrderJson text program order events s closing more = more ≡ []
AreRunDetails (Picture shown) text program order events s closing more = more ≡ []

-- holds for the requested output and the lines at the end
abbrev pub IsRunOutput : RunAnswer → Option (List ℕ) → List Procedure → RunOrder → List Event → ℕ → State → Closing → List ℕ → Type 0
IsRunOutput answer text program order events cut s closing lines =
    (printed : List ℕ) × (more : List ℕ) × IsRunText answer text program order events cut s closing printed × AreRunDetails answer text program order events s closing more × (lines ≡ printed ++ more)
