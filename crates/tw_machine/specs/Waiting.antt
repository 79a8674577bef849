-- Waiting tasks and pending rules, each with the next number.
use Rattle.std.specs.Prelude.{ℕ, ◌+◌, Option, Some, None, slice_get, if◌then◌else◌}
use Rattle.std.specs.FinMap.{insert, get, remove}
use Rattle.std.specs.Option.{option_and_then}
use Rattle.tw_types.specs.declared.stage.Stage.{Stage}
use Rattle.tw_types.specs.Rule.{Rule, Rules, at_stage, is_unasked}
use Rattle.tw_types.specs.Task.{Arg, ValueArg, RightArg, Task, Tasks}

pub record TaskTable : Type 0 where
  pub waiting : Tasks
  pub next : ℕ

pub record RuleTable : Type 0 where
  pub pending : Rules
  pub next : ℕ

abbrev pub task_put : TaskTable → Task → TaskTable
task_put t task = record { waiting = insert t.waiting t.next task; next = t.next + 1 }

abbrev pub task_taken : TaskTable → ℕ → TaskTable
task_taken t number = record t { waiting = remove t.waiting number }

abbrev pub rule_made : RuleTable → Rule → RuleTable
rule_made t rule = record { pending = insert t.pending t.next rule; next = t.next + 1 }

abbrev pub rule_released : RuleTable → ℕ → RuleTable
rule_released t number = record t { pending = remove t.pending number }

-- changes the stage of a rule's parameter, if the rule is pending
abbrev pub staged_in : RuleTable → ℕ → ℕ → Stage → Option Rule → RuleTable
staged_in t number parameter stage None = t
staged_in t number parameter stage (Some rule) = record t { pending = insert t.pending number (at_stage rule parameter stage) }

abbrev pub staged : RuleTable → ℕ → ℕ → Stage → RuleTable
staged t number parameter stage = staged_in t number parameter stage (get t.pending number)

-- returns the id of the datum on which an argument is a right
abbrev pub id_in : Arg → Option ℕ
id_in (ValueArg x) = None
id_in (RightArg id) = Some id

-- returns the id of the datum of an unasked parameter
abbrev pub unasked_id : Rule → ℕ → Option ℕ
unasked_id rule parameter = option_and_then (λ stage. if is_unasked stage then option_and_then id_in (slice_get rule.args parameter) else None) (slice_get rule.stages parameter)
