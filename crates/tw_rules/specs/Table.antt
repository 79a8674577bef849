-- The model of the table of rules.
use Rattle.std.specs.Prelude.{ℕ, Bool, false, List, map as each, Option, Some, None, IsSome, slice_get, slice_index_or}
use Rattle.std.specs.List.{AllZip}
use Rattle.std.specs.Option.{option_and_then}
use Rattle.std.specs.FinMap as map
use Rattle.tw_types.specs.declared.param.Mode.{Mode}
use Rattle.tw_types.specs.declared.param.Mode.TheVariants as mode
use Rattle.tw_types.specs.declared.param.Param.{Param}
use Rattle.tw_types.specs.declared.stage.Stage.{Stage}
use Rattle.tw_types.specs.declared.stage.Stage.TheVariants.{Free, Unasked, Waiting, Ready}
use Rattle.tw_types.specs.Rule.{RuleOf, RulesOf, at_stage, first_stage}
use Rattle.tw_rights.specs.declared.arg.Arg.{Arg}
use Rattle.tw_rights.specs.declared.arg.Arg.TheVariants.{Val, Read, Write}
use Rattle.tw_rights.specs.Rights.{Right}
use Rattle.tw_rules.specs.declared.planned.PlannedTask.{PlannedTask}
use Rattle.tw_rules.specs.declared.erased.ErasedArg.{ErasedArg}
use Rattle.tw_rules.specs.declared.erased.ErasedArg.TheVariants as plain
use Rattle.tw_rules.specs.declared.erased.ErasedRule.{ErasedRule}

-- the pending rules, by their numbers; the number of the next one; and for each engine whether a rule of it can be added without an
-- allocation
pub record Table : Type 0 where
  pub rules : RulesOf Arg
  pub next : ℕ
  pub rooms : List Bool

-- returns whether a rule of this engine can be added without an allocation
abbrev pub room_for : ℕ → Table → Bool
room_for engine table = slice_index_or table.rooms engine false

-- ---- one rule

-- returns a rule of an engine for such a task, with every `closed` parameter unasked
abbrev pub new_rule : ℕ → List Param → PlannedTask → List Arg → RuleOf Arg
new_rule engine params action args = record {
  engine = engine;
  procedure = action.procedure;
  priority = action.priority;
  target = action.target;
  args = args;
  stages = each (λ p. first_stage p.mode) params;
}

abbrev pub action_of : RuleOf Arg → PlannedTask
action_of rule = record { procedure = rule.procedure; priority = rule.priority; target = rule.target }

-- returns the right of an argument, if it is a read right
abbrev pub read_right : Arg → Option Right
read_right (Val value) = None
read_right (Read right) = Some right
read_right (Write right) = None

-- ---- arguments that fit

abbrev pub IsValue : Arg → Type 0
IsValue (Val value) = Unit {0}
IsValue (Read right) = ⊥
IsValue (Write right) = ⊥

abbrev pub IsWrite : Arg → Type 0
IsWrite (Val value) = ⊥
IsWrite (Read right) = ⊥
IsWrite (Write right) = Unit {0}

-- holds if an argument suits the mode
abbrev pub SuitsMode : Mode → Arg → Type 0
SuitsMode mode.Val arg = IsValue arg
SuitsMode mode.Closed arg = IsSome (read_right arg)
SuitsMode mode.Ref arg = IsSome (read_right arg)
SuitsMode mode.Write arg = IsWrite arg

-- holds if each parameter has an argument of its mode
abbrev pub AreArgsOf : List Param → List Arg → Type 0
AreArgsOf params args = AllZip (λ p arg. SuitsMode p.mode arg) params args

-- holds if the argument is a read right, or the parameter isn't asked for
abbrev pub SuitsStage : Arg → Stage → Type 0
SuitsStage arg Free = Unit {0}
SuitsStage arg Unasked = IsSome (read_right arg)
SuitsStage arg Waiting = IsSome (read_right arg)
SuitsStage arg Ready = IsSome (read_right arg)

-- holds if each argument has a stage, which suits it
abbrev pub FitsStages : RuleOf Arg → Type 0
FitsStages rule = AllZip SuitsStage rule.args rule.stages

-- ---- one of the rules

-- returns the stage of a parameter, if the rule and the parameter are there
abbrev pub stage_at : RulesOf Arg → ℕ → ℕ → Option Stage
stage_at rules number parameter = option_and_then (λ rule. slice_get rule.stages parameter) (map.get rules number)

-- returns the argument of a parameter, if the rule and the parameter are there
abbrev pub arg_at : RulesOf Arg → ℕ → ℕ → Option Arg
arg_at rules number parameter = option_and_then (λ rule. slice_get rule.args parameter) (map.get rules number)

-- returns the right that is the argument of a parameter, if it is a read right
abbrev pub right_at : RulesOf Arg → ℕ → ℕ → Option Right
right_at rules number parameter = option_and_then read_right (arg_at rules number parameter)

-- changes the stage of the parameter
abbrev pub staged : RulesOf Arg → ℕ → ℕ → Stage → RulesOf Arg
staged rules number parameter stage = staged_by (map.get rules number)
  where
    staged_by : Option (RuleOf Arg) → RulesOf Arg
    staged_by None = rules
    staged_by (Some rule) = map.insert rules number (at_stage rule parameter stage)

-- ---- rules without rights

abbrev pub erased_arg : Arg → ErasedArg
erased_arg (Val value) = plain.Val
erased_arg (Read right) = plain.Read right.id
erased_arg (Write right) = plain.Write right.id

-- returns a rule with its number, without rights
abbrev pub erasure : ℕ × RuleOf Arg → ErasedRule
erasure e = record { number = e.0; engine = e.1.engine; action = action_of e.1; args = each erased_arg e.1.args; stages = e.1.stages }
