-- The values that RULE and PUT copy.
use Rattle.std.specs.Prelude.{ℕ, if◌then◌else◌, List, [], ◌∷◌, Option, slice_get}
use Rattle.tw_types.specs.declared.param.Param.{Param}
use Rattle.tw_types.specs.declared.value.Value.{Value}
use Rattle.tw_types.specs.Mode.{is_val}

-- returns for each value parameter in order what is in the register that is named for it
abbrev pub named_values : List Value → List Param → List ℕ → List (Option Value)
named_values values [] registers = []
named_values values (p ∷ params) [] = []
named_values values (p ∷ params) (register ∷ registers) =
    if is_val p.mode then slice_get values register ∷ named_values values params registers else named_values values params registers
