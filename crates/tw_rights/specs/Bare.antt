-- Arguments, tasks, rules and right registers in the machine's definitions: a right is the bare id of its datum.
use Rattle.std.specs.Prelude.{ℕ, List, Option, map as each, option_map}
use Rattle.tw_types.specs.Mapped.{rule_by, task_by}
use Rattle.tw_types.specs.Rule.{Rule, RuleOf}
use Rattle.tw_types.specs.Task.{Arg as BareArg, ValueArg, RightArg, Task, TaskOf}
use Rattle.tw_rights.specs.declared.arg.Arg.{Arg}
use Rattle.tw_rights.specs.declared.arg.Arg.TheVariants.{Val, Read, Write}
use Rattle.tw_rights.specs.declared.held.Held.{Held}
use Rattle.tw_rights.specs.Held.{id_of}

abbrev pub bare_arg : Arg → BareArg
bare_arg (Val value) = ValueArg value
bare_arg (Read right) = RightArg right.id
bare_arg (Write right) = RightArg right.id

abbrev pub bare_task : TaskOf Arg → Task
bare_task = task_by bare_arg

abbrev pub bare_rule : RuleOf Arg → Rule
bare_rule = rule_by bare_arg

abbrev pub bare_file : List (Option Held) → List (Option ℕ)
bare_file file = each (option_map id_of) file
