-- The invariant of the data under the lock.
use Rattle.std.specs.Prelude.{◌≡◌, ◌≤◌, ℕ, length}
use Rattle.tw_types.specs.Layout.{IsLayout}
use Rattle.tw_code.specs.accepting.Needs.{HasTargets}
use Rattle.tw_code.specs.machine.Inputs.{AreInputsOf}
use Rattle.tw_pool.specs.PoolView.{PoolView}
use Rattle.tw_host.specs.declared.sleepers.Sleepers.{Sleepers}
use Rattle.tw_host.specs.Run.{Run, run_of}
use Rattle.tw_host.specs.Seats.{actor_count}
use Rattle.tw_host.specs.Sleeping.{AreWoken}

-- The pool is the run's, and the ledger's total counts its events. The ledger has a part for each seat, and none is left over. No sleeper has to be
-- woken.
pub record IsKept (run : Run) (parts total spare_parts spare_amount : ℕ) (pool : PoolView) (sleepers : Sleepers) : Type 0 where
  pub of_run : run_of pool ≡ run
  pub layout : IsLayout run.layout
  pub given : AreInputsOf run.program.program run.inputs
  pub targets : HasTargets run.program.program run.layout
  pub within : length pool.history ≤ run.limit
  pub counted : total ≡ length pool.history
  pub seats : parts ≡ actor_count run.layout
  pub no_part : spare_parts ≡ 0
  pub no_amount : spare_amount ≡ 0
  pub woken : AreWoken pool sleepers.asleep sleepers.out sleepers.is_over
