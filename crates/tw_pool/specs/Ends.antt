-- The results of a finished run.
use Rattle.std.specs.Prelude.{◌≡◌, ℕ, List, Option}
use Rattle.tw_types.specs.declared.pending.Pending.{Pending}
use Rattle.tw_store.specs.Served.{Served}
use Rattle.tw_code.specs.declared.procedure.Procedure.{Procedure}
use Rattle.tw_code.specs.machine.Pending.{pending_rules}
use Rattle.tw_code.specs.machine.State.{State}
use Rattle.tw_pool.specs.declared.answer.Closing.{Closing}
use Rattle.tw_pool.specs.History.{HistoryView}
use Rattle.tw_pool.specs.PoolView.{PoolView, HasState}
use Rattle.tw_pool.specs.Turns.{closing_at}

-- The store, the ids of the outputs by the order of main's parameters, the rules that were pending, and why the run is over. Each
-- rule has the data for which it waits and those that it may write.
pub record FinalView : Type 0 where
  pub store : Served
  pub outputs : List ℕ
  pub pending : List Pending
  pub closing : Option Closing

-- the results are those of this state of the program; the rules are by rising number, and their data by rising parameter
pub record IsLeftOf (program : List Procedure) (s : State) (final : FinalView) : Type 0 where
  pub store : final.store.store ≡ s.store
  pub outputs : final.outputs ≡ s.outputs
  pub pending : final.pending ≡ pending_rules program s

-- the results are those of the state that the events reach
pub record IsClosedPool (p : PoolView) (final : FinalView) (history : HistoryView) : Type 0 where
  pub state : State
  pub has_state : HasState p state
  pub left : IsLeftOf p.program.program state final
  pub closing : final.closing ≡ closing_at p state
  pub events : history.events ≡ p.history
