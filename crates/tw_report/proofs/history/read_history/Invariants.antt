use Rattle.tw_report.proofs.Names.{IsReadTo, length, ◌+◌, ◌≤◌}
use Rattle.tw_report.proofs.history.read_history.Given as goal

abbrev pub invariant-loop-events : goal.invariant-loop-events
invariant-loop-events l = record {
  read : IsReadTo l.text l.events.items l.count l.rest;
  within : l.count + length l.rest ≤ length l.text;
}

abbrev pub decreases-loop-events : goal.decreases-loop-events
decreases-loop-events l = length l.rest
