-- Rights held by arguments, by their parameters.
use Rattle.tw_soundness.proofs.MachineNames.{Arg, List, Option, Param, RightType, ℕ, id_of, map, over, right_of}

-- `over_args`, if the procedure is known
abbrev pub over_params : (Option RightType → Option ℕ → ℕ) → List Param → List Arg → ℕ
over_params by params args = over by (map right_of params) (map id_of args)
