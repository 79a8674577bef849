use Rattle.tw_handles.proofs.Names.{take, tasks_in, ◌≡◌, ◌≤◌}
use Rattle.tw_handles.proofs.meter.tasks_in.Given as goal

abbrev pub invariant-loop-index : goal.invariant-loop-index
invariant-loop-index l = record {
  tasks : l.tasks ≡ tasks_in (take l.index l.history.events);
  small : l.tasks ≤ l.index;
}
