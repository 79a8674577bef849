-- The members and texts that a state holds.
use Rattle.std.specs.Prelude.{ℕ, ◌+◌, ◌*◌, Bool, true, false, ◌&&◌, if◌then◌else◌, List, filter, length}
use Rattle.tw_types.specs.declared.data_type.Scalar.{Scalar}
use Rattle.tw_types.specs.declared.data_type.Scalar.TheVariants as scalar
use Rattle.tw_types.specs.declared.value.Value.{Value}
use Rattle.tw_types.specs.DataType.{has_subscripts_by, is_map, is_scalar}
use Rattle.tw_types.specs.Nesting.{NestedScalar}
use Rattle.tw_types.specs.Rule.{Rule}
use Rattle.tw_types.specs.Store.{Datum, Store}
use Rattle.tw_types.specs.StoreCalls.{count_in}
use Rattle.tw_types.specs.Task.{Task}
use Rattle.tw_types.specs.Totals.{total}
use Rattle.tw_types.specs.Value.{scalar_of}
use Rattle.tw_code.specs.machine.State.{Frame, State, values_in}

abbrev pub is_text : Scalar → Bool
is_text scalar.Int = false
is_text scalar.Text = true

abbrev pub is_text_scalar : NestedScalar → Bool
is_text_scalar ty = is_scalar ty && is_text ty.scalar

-- returns whether it is a map whose values are texts
abbrev pub is_map_to_texts : NestedScalar → Bool
is_map_to_texts ty = is_map ty && is_text ty.scalar

-- ---- in a store

-- counts the members of a container, or the values of a map; a scalar has none
abbrev pub member_count : Datum → ℕ
member_count x = count_in x.content

-- counts the texts in a datum: a scalar of texts is one, even while it is unset, and so is each subscript that is a text, and each value of
-- a map that is one
abbrev pub text_count : Datum → ℕ
text_count x = (if is_text_scalar x.ty then 1 else 0) + ((if has_subscripts_by scalar.Text x.ty then member_count x else 0) + (if is_map_to_texts x.ty then member_count x else 0))

abbrev pub members_held : Store → ℕ
members_held s = total member_count s.live

abbrev pub texts_stored : Store → ℕ
texts_stored s = total text_count s.live

-- ---- in tasks and rules

-- counts the values that are texts
abbrev pub texts_among : List Value → ℕ
texts_among values = length (filter (λ x. is_text (scalar_of x)) values)

-- count the texts in the registers of a running task, and in the arguments of a waiting task or a rule
abbrev pub frame_texts : Frame → ℕ
frame_texts frame = texts_among frame.position.values

abbrev pub task_texts : Task → ℕ
task_texts task = texts_among (values_in task.args)

abbrev pub rule_texts : Rule → ℕ
rule_texts rule = texts_among (values_in rule.args)

-- ---- in a state

-- counts the texts of a state, wherever they are: in its data, rules, waiting tasks and running tasks
abbrev pub texts_held : State → ℕ
texts_held s = texts_stored s.store + (total rule_texts s.rules + (total task_texts s.tasks + total frame_texts s.frames))

-- returns the most bytes that the texts of a state have: the longest text has 4,096
abbrev pub bytes_held : State → ℕ
bytes_held s = 4096 * texts_held s
