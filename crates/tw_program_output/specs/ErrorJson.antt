-- The error of which a reply may be, and replies as JSON.
use Rattle.std.specs.Prelude.{◌≡◌, Option, Some, None}
use Rattle.tw_json_output.specs.Lines.{IsJsonLine}
use Rattle.tw_source.specs.Reply.{Reply}
use Rattle.tw_source.specs.declared.close.Close.{Close}
use Rattle.tw_source.specs.declared.close.Close.TheVariants.{CommandLine, Limit, Refused, Stuck, Success, Trapped, Unreadable}
use Rattle.tw_source.specs.declared.failure.Failure.{Failure}

-- returns the error with which a session ends, if it ends with one
abbrev pub failure_in : Close → Option Failure
failure_in Success = None
failure_in (Refused f) = Some f
failure_in CommandLine = None
failure_in (Unreadable f) = Some f
failure_in Stuck = None
failure_in Limit = None
failure_in (Trapped f) = Some f

-- holds for a line of JSON in place of a reply's text
abbrev pub IsJsonReply : Reply → Reply → Type 0
IsJsonReply text r = (r.close ≡ text.close) × IsJsonLine r.text
