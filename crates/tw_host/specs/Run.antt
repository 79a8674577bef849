-- The parameters of one run.
use Rattle.std.specs.Prelude.{ℕ, List}
use Rattle.tw_types.specs.declared.input.Input.{Input}
use Rattle.tw_types.specs.Layout.{ActorCounts}
use Rattle.tw_verify.specs.Typed.{TypedProgram}
use Rattle.tw_pool.specs.PoolView.{PoolView}

-- the program, its inputs, the layout, and the limit of events
pub record Run : Type 0 where
  pub program : TypedProgram
  pub inputs : List Input
  pub layout : ActorCounts
  pub limit : ℕ

-- returns the run of a pool
abbrev pub run_of : PoolView → Run
run_of p = record { program = p.program; inputs = p.inputs; layout = p.layout; limit = p.limit }
