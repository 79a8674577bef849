-- The facts about a run that is over.
use Rattle.std.specs.Prelude.{◌≡◌, ◌≤◌, ℕ, List, Option, Some, None, length}
use Rattle.serde_json.specs.Data as json
use Rattle.tw_types.specs.declared.event.Event.{Event}
use Rattle.tw_types.specs.Outcome.{Went}
use Rattle.tw_code.specs.declared.procedure.Procedure.{Procedure}
use Rattle.tw_code.specs.machine.Inputs.{AreInputsOf}
use Rattle.tw_code.specs.machine.Opening.{reached}
use Rattle.tw_code.specs.machine.State.{State}
use Rattle.tw_order.specs.declared.runs.RunOrder.{RunOrder}
use Rattle.tw_pool.specs.declared.answer.Closing.{Closing}
use Rattle.tw_pool.specs.declared.answer.Closing.TheVariants.{Quiet, Stuck, Stopped, Limit}
use Rattle.tw_pool.specs.Ends.{FinalView}
use Rattle.tw_code.specs.machine.Bounds.{AreBelow, opening_bound}
use Rattle.tw_replay_output.specs.Counted.{AreShort}
use Rattle.tw_run_output.specs.declared.ended.Begun.{Begun}
use Rattle.tw_run_output.specs.Ends.{IsReportAs, end_report}
use Rattle.tw_run_output.specs.Json.{AreEndMembers, IsEndLine, members_of, run_line}
use Rattle.tw_run_output.specs.Run.{begins}
use Rattle.tw_source.specs.declared.source.SourceText.{SourceText}

-- a finished run: main takes its inputs, there are no more events than allowed, and all succeed from its start
pub record IsFinished (program : List Procedure) (order : RunOrder) (events : List Event) : Type 0 where
  pub inputs : AreInputsOf program order.inputs
  pub few : length events ≤ order.options.limit
  pub state : State
  pub reaches : reached program order.inputs order.options.layout events ≡ Went state

-- a run that is over: its events lead to a state of which the host reports this
pub record IsRunOver (program : List Procedure) (order : RunOrder) (final : FinalView) (events : List Event) (closing : Closing) : Type 0 where
  pub state : State
  pub few : length events ≤ order.options.limit
  pub reaches : reached program order.inputs order.options.layout events ≡ Went state
  pub reports : (printed : List ℕ) → IsReportAs final (Some closing) printed → printed ≡ end_report program state (Some closing)
  pub members : (cut : ℕ) (found : json.Members) → AreEndMembers final events cut closing found → found ≡ members_of program events cut state closing
  pub shows : (cut : ℕ) (line : List ℕ) → IsEndLine final events cut closing line → line ≡ run_line program events cut state closing

-- returns the text of the program, if it was read from one and the run is stuck
abbrev pub stuck_source : Option SourceText → Closing → Option SourceText
stuck_source source (Stuck rules) = source
stuck_source source Quiet = None
stuck_source source Stopped = None
stuck_source source Limit = None

-- the machine at the start of a run, and its events, of which no task executes more than it may
pub record IsBegun (program : List Procedure) (order : RunOrder) (history : List Event) (b : Begun) : Type 0 where
  pub first : b.first ≡ begins b.first.version program order
  pub events : b.events.items ≡ history
  pub below : AreBelow opening_bound b.first.state
  pub short : AreShort b.events.items
  pub few : length b.events.items ≤ 16777217
