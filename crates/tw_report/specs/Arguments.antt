-- Arguments of rules: a walk uses only their data. No public clause uses this file.
use Rattle.std.specs.Prelude.{ℕ, List, Option, Some, None}
use Rattle.tw_types.specs.declared.param.Param.{Param}
use Rattle.tw_types.specs.declared.pending.Pending.{Pending}
use Rattle.tw_types.specs.declared.stage.Stage.{Stage}
use Rattle.tw_types.specs.Task.{Arg, ValueArg, RightArg}
use Rattle.tw_code.specs.machine.Pending.{waited_for, written_by}

-- returns the id of its datum, if it is a right
abbrev pub right_of : Arg → Option ℕ
right_of (ValueArg value) = None
right_of (RightArg id) = Some id

abbrev pub pending_from : ℕ → List Param → List Stage → List Arg → Pending
pending_from number params stages args = record { number = number; waits = waited_for stages args; writes = written_by params args }
