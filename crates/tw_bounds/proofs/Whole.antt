-- Main's bounds hold for each run.
use Rattle.tw_bounds.proofs.Names.{AreRight, AreRunBounds, BoundsRuns, IsProgram, List, Procedure, RunBounds, Typings, events_alone}
use Rattle.tw_bounds.proofs.Along.{run_within}
use Rattle.tw_bounds.proofs.Ending.{runs_end}
use Rattle.tw_bounds.proofs.Reporting.{main_bound}

pub bounds_runs : (program : List Procedure) (typings : Typings) → IsProgram program → AreRight program typings → (bounds : RunBounds) → AreRunBounds program bounds → BoundsRuns program bounds
bounds_runs program typings is are bounds all = record {
  within = λ inputs layout events s given e. run_within program typings is are inputs layout events s given e bounds all;
  ends = λ n at. runs_end program typings is are n (main_bound program events_alone bounds.events.items n all.events at);
}
