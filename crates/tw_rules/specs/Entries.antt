-- The entries of the hash map of rules.
use Rattle.std.specs.Prelude.{ℕ, List, map, Option, nat_eq}
use Rattle.std.specs.FinMap.{from_entries}
use Rattle.std.specs.Map.{lookup}
use Rattle.tw_types.specs.Rule.{RuleOf, RulesOf}
use Rattle.tw_rights.specs.declared.arg.Arg.{Arg}
use Rattle.tw_rules.specs.declared.pending.Pending.{Pending}

-- returns the rule of an entry
abbrev pub rule_in : Pending → RuleOf Arg
rule_in p = record {
  engine = p.engine;
  procedure = p.action.procedure;
  priority = p.action.priority;
  target = p.action.target;
  args = p.args;
  stages = p.stages;
}

abbrev pub rules_in : List (ℕ × Pending) → RulesOf Arg
rules_in entries = from_entries (map (λ e. (e.0, rule_in e.1)) entries)

-- returns the entry of a number
abbrev pub entry_of : List (ℕ × Pending) → ℕ → Option Pending
entry_of entries number = lookup (nat_eq number) entries
