-- A pending rule, made of its arguments without rights. proofs/Pendings shows that it is the machine's.
use Rattle.std.specs.Prelude.{ℕ, if◌then◌else◌, List, [], ◌∷◌, ◌++◌}
use Rattle.std.specs.List.{flat_map}
use Rattle.tw_types.specs.declared.pending.Pending.{Pending}
use Rattle.tw_types.specs.declared.stage.Stage.{Stage}
use Rattle.tw_types.specs.Rule.{is_waiting}
use Rattle.tw_rules.specs.declared.erased.ErasedArg.{ErasedArg}
use Rattle.tw_rules.specs.declared.erased.ErasedArg.TheVariants as plain
use Rattle.tw_rules.specs.declared.erased.ErasedRule.{ErasedRule}

-- returns the datum for which a parameter waits
abbrev pub waited_at : Stage → ErasedArg → List ℕ
waited_at stage plain.Val = []
waited_at stage (plain.Read id) = if is_waiting stage then id ∷ [] else []
waited_at stage (plain.Write id) = if is_waiting stage then id ∷ [] else []

abbrev pub waits_in : List Stage → List ErasedArg → List ℕ
waits_in [] args = []
waits_in (stage ∷ stages) [] = []
waits_in (stage ∷ stages) (arg ∷ args) = waited_at stage arg ++ waits_in stages args

-- returns the datum of a write right
abbrev pub written_at : ErasedArg → List ℕ
written_at plain.Val = []
written_at (plain.Read id) = []
written_at (plain.Write id) = id ∷ []

abbrev pub pending_with_data : ErasedRule → Pending
pending_with_data rule = record { number = rule.number; waits = waits_in rule.stages rule.args; writes = flat_map written_at rule.args }
