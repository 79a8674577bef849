use Rattle.std.proofs.Common.{◌≡◌, ◌≤◌, ◌*◌, take}
use Rattle.tw_bounds.specs.Runs.{instructions_in}
use Rattle.tw_run_output.proofs.json.instructions_in.Given as goal

abbrev pub invariant-loop-index : goal.invariant-loop-index
invariant-loop-index l = record {
  sum : l.sum ≡ instructions_in (take l.index l.history.events);
  small : l.sum ≤ l.index * 18446744073709551615;
}
