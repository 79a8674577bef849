-- The model of a reference machine.
use Rattle.std.specs.Prelude.{List}
use Rattle.tw_types.specs.Layout.{ActorCounts}
use Rattle.tw_code.specs.declared.procedure.Procedure.{Procedure}
use Rattle.tw_code.specs.declared.version.Version.{Version}
use Rattle.tw_code.specs.machine.State.{State}

pub record PlainView : Type 0 where
  pub version : Version
  pub program : List Procedure
  pub layout : ActorCounts
  pub state : State
