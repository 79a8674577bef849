-- The results of two runs that are the same run.
use Rattle.std.specs.Prelude.{◌≡◌}
use Rattle.tw_pool.specs.Ends.{FinalView}

-- the data, the outputs and the pending rules are equal, and so is why the run is over; capacity and places of data may differ
pub record AreSameFinals (one other : FinalView) : Type 0 where
  pub store : one.store.store ≡ other.store.store
  pub outputs : one.outputs ≡ other.outputs
  pub pending : one.pending ≡ other.pending
  pub closing : one.closing ≡ other.closing
