-- The weighted sum of a run, which is at most the bound of main's task.
use Rattle.std.specs.Prelude.{◌≡◌, ℕ, ◌+◌, ◌*◌, ◌≤◌, List, Option, Some}
use Rattle.std.specs.List.{sum_by}
use Rattle.tw_types.specs.declared.event.Event.{Event}
use Rattle.tw_types.specs.declared.event.Event.TheVariants.{Take, Local, Call, End, Ask, Deliver, Release}
use Rattle.tw_types.specs.declared.input.Input.{Input}
use Rattle.tw_types.specs.Layout.{ActorCounts}
use Rattle.tw_types.specs.Outcome.{Went}
use Rattle.tw_code.specs.declared.procedure.Procedure.{Procedure}
use Rattle.tw_code.specs.machine.Inputs.{AreInputsOf}
use Rattle.tw_code.specs.machine.Opening.{opening, reached}
use Rattle.tw_code.specs.machine.State.{State}
use Rattle.tw_bounds.specs.declared.weights.Weights.{Weights}
use Rattle.tw_bounds.specs.Bounds.{AreBounds, bound_at}
use Rattle.tw_bounds.specs.Contents.{members_held, texts_held}

-- returns how many tasks an event takes
abbrev pub tasks_by : Event → ℕ
tasks_by (Take actor) = 1
tasks_by (Local actor n) = 0
tasks_by (Call actor) = 0
tasks_by (End actor) = 0
tasks_by (Ask engine rule parameter) = 0
tasks_by (Deliver server datum rule parameter) = 0
tasks_by (Release engine rule) = 0

-- returns how many instructions an event executes; an End executes the RET
abbrev pub instructions_by : Event → ℕ
instructions_by (Take actor) = 0
instructions_by (Local actor n) = n
instructions_by (Call actor) = 1
instructions_by (End actor) = 1
instructions_by (Ask engine rule parameter) = 0
instructions_by (Deliver server datum rule parameter) = 0
instructions_by (Release engine rule) = 0

-- returns 1 for an event of a rule, else 0
abbrev pub rule_events_by : Event → ℕ
rule_events_by (Take actor) = 0
rule_events_by (Local actor n) = 0
rule_events_by (Call actor) = 0
rule_events_by (End actor) = 0
rule_events_by (Ask engine rule parameter) = 1
rule_events_by (Deliver server datum rule parameter) = 1
rule_events_by (Release engine rule) = 1

abbrev pub tasks_in : List Event → ℕ
tasks_in events = sum_by tasks_by events

abbrev pub instructions_in : List Event → ℕ
instructions_in events = sum_by instructions_by events

abbrev pub rule_events_in : List Event → ℕ
rule_events_in events = sum_by rule_events_by events

-- returns the weight of the data and rules made so far, by the next numbers: each NEW takes one, each RULE takes one;
-- and of the members and texts that the state holds now
abbrev pub weight_made : Weights → State → ℕ
weight_made weights s = weights.datum * s.store.next + weights.rule * s.next_rule + weights.member * members_held s.store + weights.text * texts_held s

-- holds for a bound of main's task
abbrev pub IsBoundOfMain : List Procedure → Weights → ℕ → Type 0
IsBoundOfMain program weights bound = (bounds : List (Option ℕ)) × AreBounds program weights bounds × (bound_at bounds 0 ≡ Some bound)

-- holds if, with any inputs, layout and events, the weighted sum of the run is at most main's bound
abbrev pub IsWithinBound : List Procedure → Weights → ℕ → Type 0
IsWithinBound program weights bound =
    (inputs : List Input) (layout : ActorCounts) (events : List Event) (s : State) → AreInputsOf program inputs → reached program inputs layout events ≡ Went s
    → weights.task * tasks_in events + weights.instr * instructions_in events + weights.rule_event * rule_events_in events + weight_made weights s ≤ weight_made weights (opening program inputs) + bound

-- ---- one kind each

abbrev pub tasks_alone : Weights
tasks_alone = record { task = 1; instr = 0; datum = 0; rule = 0; rule_event = 0; member = 0; text = 0 }

abbrev pub instructions_alone : Weights
instructions_alone = record { task = 0; instr = 1; datum = 0; rule = 0; rule_event = 0; member = 0; text = 0 }

abbrev pub data_alone : Weights
data_alone = record { task = 0; instr = 0; datum = 1; rule = 0; rule_event = 0; member = 0; text = 0 }

abbrev pub rules_alone : Weights
rules_alone = record { task = 0; instr = 0; datum = 0; rule = 1; rule_event = 0; member = 0; text = 0 }

abbrev pub members_alone : Weights
members_alone = record { task = 0; instr = 0; datum = 0; rule = 0; rule_event = 0; member = 1; text = 0 }

-- weighs each text by the most bytes that one has
abbrev pub bytes_alone : Weights
bytes_alone = record { task = 0; instr = 0; datum = 0; rule = 0; rule_event = 0; member = 0; text = 4096 }

-- weighs each task that is taken, each instruction, and each event of a rule: a run has no more events than these
abbrev pub events_alone : Weights
events_alone = record { task = 1; instr = 1; datum = 0; rule = 0; rule_event = 1; member = 0; text = 0 }
