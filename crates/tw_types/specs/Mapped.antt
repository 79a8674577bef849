-- A finite map with each value replaced, and tasks and rules with each argument replaced.
use Rattle.std.specs.Prelude.{map as each}
use Rattle.std.specs.declared.cmp.Ordering.{Ordering}
use Rattle.std.specs.FinMap as map
use Rattle.std.specs.FinMap.{FinMap}
use Rattle.tw_types.specs.Rule.{RuleOf}
use Rattle.tw_types.specs.Task.{TaskOf}

abbrev pub entry_by : {K X Y : Type 0} → (X → Y) → K × X → K × Y
entry_by f e = (e.0, f e.1)

-- returns the map with the same keys, and f of each value
unfoldable pub mapped : {K X Y : Type 0} {R : K → K → Ordering} → (X → Y) → FinMap R X → FinMap R Y
mapped f m = map.from_sorted (each (entry_by f) (map.entries m))

-- returns the task with f of each argument
abbrev pub task_by : {A B : Type 0} → (A → B) → TaskOf A → TaskOf B
task_by f t = record { kind = t.kind; procedure = t.procedure; priority = t.priority; target = t.target; args = each f t.args }

abbrev pub rule_by : {A B : Type 0} → (A → B) → RuleOf A → RuleOf B
rule_by f r = record { engine = r.engine; procedure = r.procedure; priority = r.priority; target = r.target; args = each f r.args; stages = r.stages }
