use Rattle.tw_workers.proofs.Names.{Bool, Drives, FoldsTo, List, None, Step, ◌++◌}
use Rattle.tw_host.specs.Sees.{IsDoneOf}
use Rattle.tw_workers.proofs.driver.drive_at.Given as goal

abbrev pub invariant-loop : goal.invariant-loop
invariant-loop g l = record {
  next : (goal.iterator-loop g).can_next l.iterator';
  finite : (goal.iterator-loop g).is_finite l.iterator';
  program : IsDoneOf g.D.DriverCalls.program l.done;
  driven : (past : List Step) × FoldsTo g.D.DriverCalls.does l.fn.seat past l.seat × ((rest : List Step) (memory : Bool) → Drives l.done rest memory → Drives None (past ++ rest) memory);
}
