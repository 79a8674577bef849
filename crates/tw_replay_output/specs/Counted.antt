-- Outcomes of events that are counted.
use Rattle.std.specs.Prelude.{◌≡◌, ◌≤◌, List, Result, Ok, Err}
use Rattle.std.specs.List.{AllByRecursion}
use Rattle.tw_types.specs.declared.event.Event.{Event}
use Rattle.tw_code.specs.accepting.Walk.{greatest_budget}
use Rattle.tw_code.specs.machine.Bounds.{size_of}
use Rattle.tw_code.specs.machine.Machine.{run}
use Rattle.tw_machine.specs.PlainView.{PlainView}
use Rattle.tw_stats.specs.Sums.{AddsUp}
use Rattle.tw_replay_output.specs.declared.disabled.Unplayed.{Unplayed}
use Rattle.tw_replay_output.specs.declared.numbers.Counted.{Counted}
use Rattle.tw_replay_output.specs.Replay.{ByOutcome, played_from}
use Rattle.tw_replay_output.specs.Stuck.{IsReplayFrom}
use Rattle.tw_source.specs.Reply.{reply}

-- holds if the event executes no more instructions than a task may
abbrev pub IsShort : Event → Type 0
IsShort event = size_of event ≤ greatest_budget

abbrev pub AreShort : List Event → Type 0
AreShort events = AllByRecursion IsShort events

-- holds if all events were executed, and their statistics add up; or if one failed, and this is the reply
abbrev pub IsCounting : PlainView → List Event → Result Counted Unplayed → Type 0
IsCounting first events (Ok c) = IsReplayFrom first events c.replaying × AddsUp c.stats
IsCounting first events (Err u) = ByOutcome (run first.program first.layout events first.state) (λ s. ⊥) (reply u.reply.text.items u.reply.close ≡ played_from first events)
