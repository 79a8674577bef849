-- The pending rules of a state of the machine, and the circle when it is stuck.
use Rattle.std.specs.Prelude.{ℕ, if◌then◌else◌, List, [], ◌∷◌, map, Option, None}
use Rattle.std.specs.FinMap as fin
use Rattle.tw_types.specs.declared.param.Param.{Param}
use Rattle.tw_types.specs.declared.stage.Stage.{Stage}
use Rattle.tw_types.specs.declared.pending.Link.{Link}
use Rattle.tw_types.specs.declared.pending.Pending.{Pending}
use Rattle.tw_types.specs.Circle.{circle_of}
use Rattle.tw_types.specs.Mode.{is_write}
use Rattle.tw_types.specs.Rule.{Rule, is_waiting}
use Rattle.tw_types.specs.Task.{Arg, ValueArg, RightArg}
use Rattle.tw_code.specs.declared.procedure.Procedure.{Procedure}
use Rattle.tw_code.specs.machine.Arguments.{params_of}
use Rattle.tw_code.specs.machine.Ending.{is_quiet}
use Rattle.tw_code.specs.machine.State.{State}

-- returns the data for which parameters wait
abbrev pub waited_for : List Stage → List Arg → List ℕ
waited_for [] args = []
waited_for (stage ∷ stages) [] = []
waited_for (stage ∷ stages) (ValueArg x ∷ args) = waited_for stages args
waited_for (stage ∷ stages) (RightArg id ∷ args) = if is_waiting stage then id ∷ waited_for stages args else waited_for stages args

-- returns the data of `write` arguments
abbrev pub written_by : List Param → List Arg → List ℕ
written_by [] args = []
written_by (p ∷ params) [] = []
written_by (p ∷ params) (ValueArg x ∷ args) = written_by params args
written_by (p ∷ params) (RightArg id ∷ args) = if is_write p.mode then id ∷ written_by params args else written_by params args

abbrev pub pending_of : List Procedure → ℕ × Rule → Pending
pending_of program e = record { number = e.0; waits = waited_for e.1.stages e.1.args; writes = written_by (params_of program e.1.procedure) e.1.args }

-- returns them by rising number
abbrev pub pending_rules : List Procedure → State → List Pending
pending_rules program s = map (pending_of program) (fin.entries s.rules)

-- returns the circle of a quiet state, if there is one; a state that isn't quiet has none
abbrev pub circle : List Procedure → State → Option (List Link)
circle program s = if is_quiet s then circle_of (pending_rules program s) else None
