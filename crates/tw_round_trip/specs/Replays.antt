-- Replays of the traces of runs.
use Rattle.std.specs.Prelude.{◌≡◌, ◌≤◌, ◌++◌, ℕ, List, length, Option, Some}
use Rattle.tw_types.specs.declared.ending.Ending.{Ending}
use Rattle.tw_types.specs.declared.ending.Ending.TheVariants as ending
use Rattle.tw_types.specs.declared.event.Event.{Event}
use Rattle.tw_types.specs.Layout.{IsLayout}
use Rattle.tw_types.specs.Outcome.{Went}
use Rattle.tw_code.specs.declared.procedure.Procedure.{Procedure}
use Rattle.tw_code.specs.declared.version.Version.{Version}
use Rattle.tw_code.specs.machine.Ending as machine
use Rattle.tw_code.specs.machine.Inputs.{AreInputsOf}
use Rattle.tw_code.specs.machine.Opening.{reached}
use Rattle.tw_code.specs.machine.State.{State}
use Rattle.tw_pool.specs.declared.answer.Closing.{Closing}
use Rattle.tw_pool.specs.declared.answer.Closing.TheVariants as closing
use Rattle.tw_order.specs.declared.runs.Answer.TheVariants.{Report}
use Rattle.tw_order.specs.declared.runs.ReplayOrder.{ReplayOrder}
use Rattle.tw_order.specs.declared.runs.RunAnswer.TheVariants as run
use Rattle.tw_order.specs.declared.runs.RunOrder.{RunOrder}
use Rattle.tw_source.specs.Reply.{Reply, reply}
use Rattle.tw_replay_output.specs.Replay.{RepliesByLines}
use Rattle.tw_run_output.specs.Run.{AreRunDetails, IsRunText, close_of}
use Rattle.tw_round_trip.specs.Traces.{trace_lines}

-- returns how the host says that a run ended by itself
abbrev pub closing_of : Ending → Closing
closing_of ending.Quiet = closing.Quiet
closing_of (ending.Stuck rules) = closing.Stuck rules

-- returns the order to replay a run's trace, for its report
abbrev pub replay_of : RunOrder → ReplayOrder
replay_of order = record { answer = Report; layout = order.options.layout; inputs = order.inputs }

-- holds for the report of a run that ended so, with its details, if the program was read from a text
abbrev pub IsReportOf : Option (List ℕ) → List Procedure → RunOrder → List Event → State → Ending → Reply → Type 0
IsReportOf text program order events s e r =
    (printed more : List ℕ) × IsRunText run.Report text program order events 0 s (closing_of e) printed × AreRunDetails run.Report text program order events s (closing_of e) more
    × (r ≡ reply (printed ++ more) (close_of (closing_of e)))

-- each reply to the replay of what `run --trace` writes, for a run that ended by itself, is the report of this run
abbrev pub ReplaysPrintReports : List Procedure → Type 0
ReplaysPrintReports program =
    (version : Version) (text : Option (List ℕ)) (order : RunOrder) (events : List Event) (s : State) (e : Ending) (rest : List ℕ) (r : Reply)
    → AreInputsOf program order.inputs → IsLayout order.options.layout → length events ≤ 1000000 → reached program order.inputs order.options.layout events ≡ Went s → machine.ending s ≡ Some e
    → RepliesByLines text (replay_of order) (trace_lines events rest) (record { version = version; procedures = program }) r → IsReportOf text program order events s e r
