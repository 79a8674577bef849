use Rattle.std.proofs.Common.{◌≡◌, ◌≤◌, ◌*◌, take}
use Rattle.tw_bounds.specs.Runs.{instructions_in}
use Rattle.tw_replay_output.proofs.state_json.instructions_in.Given as goal

abbrev pub invariant-loop-event : goal.invariant-loop-event
invariant-loop-event l = record {
  sum : l.sum ≡ instructions_in (take l.event-index l.events);
  small : l.sum ≤ l.event-index * 18446744073709551615;
}
