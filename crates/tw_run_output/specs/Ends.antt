-- The report of a run on the pool that is over. It describes the state to which the trace leads, for each run that may have ended so.
use Rattle.std.specs.Prelude.{◌≡◌, ℕ, Bool, true, false, List, codes, Option, Some, None}
use Rattle.tw_types.specs.declared.pending.Link.{Link}
use Rattle.tw_code.specs.declared.procedure.Procedure.{Procedure}
use Rattle.tw_code.specs.machine.Pending.{circle}
use Rattle.tw_code.specs.machine.State.{State}
use Rattle.tw_pool.specs.declared.answer.Closing.{Closing}
use Rattle.tw_pool.specs.declared.answer.Closing.TheVariants.{Quiet, Stuck, Stopped, Limit}
use Rattle.tw_types.specs.declared.ending.Ending.TheVariants as ending
use Rattle.tw_pool.specs.Ends.{FinalView, IsClosedPool}
use Rattle.tw_pool.specs.History.{HistoryView}
use Rattle.tw_pool.specs.PoolView.{PoolView}
use Rattle.tw_report.specs.Report.{ending_lines, report}

-- returns the lines that say why a run on the pool ended: by itself, because it was stopped, or at its limit of events; or that it hasn't ended
abbrev pub closing_lines : Option Closing → Option (List Link) → List ℕ
closing_lines (Some Quiet) found = ending_lines (Some ending.Quiet) found
closing_lines (Some (Stuck rules)) found = ending_lines (Some (ending.Stuck rules)) found
closing_lines (Some Stopped) found = codes "stopped\n"
closing_lines (Some Limit) found = codes "limit\n"
closing_lines None found = ending_lines None found

abbrev pub end_report : List Procedure → State → Option Closing → List ℕ
end_report program s over = report s.store.live s.outputs (closing_lines over (circle program s))

abbrev pub InEachState : FinalView → (List Procedure → State → Type 0) → Type 0
InEachState final Holds = (p : PoolView) (history : HistoryView) (shut : IsClosedPool p final history) → Holds p.program.program shut.state

-- hold for the report of a run that ended so; and for that of a run by its own end
abbrev pub IsReportAs : FinalView → Option Closing → List ℕ → Type 0
IsReportAs final over text = InEachState final (λ program s. text ≡ end_report program s over)

abbrev pub IsEndReport : FinalView → List ℕ → Type 0
IsEndReport final text = IsReportAs final final.closing text

abbrev pub IsEndCircle : FinalView → Option (List Link) → Type 0
IsEndCircle final found = InEachState final (λ program s. found ≡ circle program s)

-- returns whether a run ended by itself, and wasn't stopped or at its limit of events
abbrev pub has_ended : Option Closing → Bool
has_ended None = false
has_ended (Some Quiet) = true
has_ended (Some (Stuck rules)) = true
has_ended (Some Stopped) = false
has_ended (Some Limit) = false
