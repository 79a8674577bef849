-- The bounds that a limit of events gives. They hold for programs without bounds of their own, too.
use Rattle.std.specs.Prelude.{◌≡◌, ℕ, ◌+◌, ◌*◌, ◌<◌, ◌≤◌, Bool, true, false, if◌then◌else◌, nat_le, max, List, [], ◌∷◌, length, Some, slice_get}
use Rattle.std.specs.List.{list_any}
use Rattle.tw_types.specs.declared.event.Event.{Event}
use Rattle.tw_types.specs.declared.input.Input.{Input}
use Rattle.tw_types.specs.Layout.{ActorCounts}
use Rattle.tw_types.specs.Outcome.{Went}
use Rattle.tw_code.specs.declared.instr.DataInstr.{DataInstr}
use Rattle.tw_code.specs.declared.instr.DataInstr.TheVariants as on_data
use Rattle.tw_code.specs.declared.instr.Instr.{Instr}
use Rattle.tw_code.specs.declared.instr.Instr.TheVariants as instr
use Rattle.tw_code.specs.declared.procedure.Procedure.{Procedure}
use Rattle.tw_code.specs.accepting.Flow.{flows}
use Rattle.tw_code.specs.accepting.Walk.{IsBudget}
use Rattle.tw_code.specs.machine.Inputs.{AreInputsOf}
use Rattle.tw_code.specs.machine.Opening.{opening, reached}
use Rattle.tw_code.specs.machine.State.{State}
use Rattle.tw_bounds.specs.declared.bound.Bound.TheVariants.{AtMost}
use Rattle.tw_bounds.specs.declared.limited.LimitedBounds.{LimitedBounds}
use Rattle.tw_bounds.specs.Bounds.{text_registers, texts_added}
use Rattle.tw_bounds.specs.Contents.{bytes_held, members_held}
use Rattle.tw_bounds.specs.Reports.{reported}
use Rattle.tw_bounds.specs.Runs.{instructions_in, tasks_in}

-- ---- what one event does at most

-- holds if each of the first `count` procedures has a budget up to this, and no smaller number is enough
pub record IsLargestOf (program : List Procedure) (count most : ℕ) : Type 0 where
  pub each : (k : ℕ) (p : Procedure) (budget : ℕ) → k < count → slice_get program k ≡ Some p → IsBudget (flows p.code) budget → budget ≤ most
  pub least : (n : ℕ) → ((k : ℕ) (p : Procedure) (budget : ℕ) → k < count → slice_get program k ≡ Some p → IsBudget (flows p.code) budget → budget ≤ n) → most ≤ n

abbrev pub IsLargestBudget : List Procedure → ℕ → Type 0
IsLargestBudget program most = IsLargestOf program (length program) most

abbrev pub makes_datum_by : DataInstr → Bool
makes_datum_by (on_data.New write read ty) = true
makes_datum_by i = false

-- holds for a NEW
abbrev pub makes_datum : Instr → Bool
makes_datum (instr.Data i) = makes_datum_by i
makes_datum (instr.Local i) = false
makes_datum (instr.Rule action) = false
makes_datum (instr.Put action) = false
makes_datum instr.Ret = false

-- holds for an instruction on data that passes the test
abbrev pub is_on_data : (DataInstr → Bool) → Instr → Bool
is_on_data test (instr.Data i) = test i
is_on_data test (instr.Local i) = false
is_on_data test (instr.Rule action) = false
is_on_data test (instr.Put action) = false
is_on_data test instr.Ret = false

-- holds for an INS, MINS or MADD
abbrev pub adds_member : DataInstr → Bool
adds_member (on_data.Insert by container subscript member skip) = true
adds_member (on_data.InsertValue map subscript from skip) = true
adds_member (on_data.AddValue map subscript from) = true
adds_member i = false

-- holds if the procedure has an instruction that adds at least so many texts
abbrev pub adds_texts : ℕ → Procedure → Bool
adds_texts least p = list_any (is_on_data (λ i. nat_le least (texts_added p.registers i))) p.code

-- holds for a RULE
abbrev pub makes_rule : Instr → Bool
makes_rule (instr.Rule action) = true
makes_rule (instr.Local i) = false
makes_rule (instr.Data i) = false
makes_rule (instr.Put action) = false
makes_rule instr.Ret = false

-- holds if an instruction of the program passes the test
abbrev pub has_instr : (Instr → Bool) → List Procedure → Bool
has_instr test program = list_any (λ p. list_any test p.code) program

-- returns one for each event if an instruction passes the test, else none
abbrev pub one_each : (Instr → Bool) → List Procedure → ℕ → ℕ
one_each test program limit = if has_instr test program then limit else 0

-- returns the most texts that an instruction of the program adds to the data
abbrev pub most_added : List Procedure → ℕ
most_added program = (if list_any (adds_texts 1) program then 1 else 0) + (if list_any (adds_texts 2) program then 1 else 0)

-- returns the most registers of texts that a procedure has
abbrev pub most_text_registers : List Procedure → ℕ
most_text_registers [] = 0
most_text_registers (p ∷ program) = max (text_registers p.registers) (most_text_registers program)

-- returns the most texts that an event adds: to the data, or as the registers or arguments of one task
abbrev pub most_texts : List Procedure → ℕ
most_texts program = max (most_added program) (most_text_registers program)

-- ---- bounds by the limit

-- Each event takes at most one task, executes at most the largest budget of instructions, and makes at most one datum or rule. It adds at
-- most one member or value, and the most texts of the program, of at most 4,096 bytes each.
pub record AreLimitedBounds (program : List Procedure) (limit : ℕ) (bounds : LimitedBounds) : Type 0 where
  pub tasks : bounds.tasks ≡ reported (Some limit)
  pub most : ℕ
  pub largest : IsLargestBudget program most
  pub instructions : bounds.instructions ≡ reported (Some (limit * most))
  pub new_data : bounds.data ≡ reported (Some (one_each makes_datum program limit))
  pub rules : bounds.rules ≡ reported (Some (one_each makes_rule program limit))
  pub members : bounds.members ≡ reported (Some (one_each (is_on_data adds_member) program limit))
  pub bytes : bounds.bytes ≡ reported (Some (4096 * (limit * most_texts program)))
  pub events : bounds.events ≡ reported (Some limit)

-- a run with these events, which led to this state, is within these bounds
pub record IsRunWithinLimited (program : List Procedure) (bounds : LimitedBounds) (inputs : List Input) (events : List Event) (s : State) : Type 0 where
  pub tasks : (n : ℕ) → bounds.tasks ≡ AtMost n → tasks_in events ≤ n
  pub instructions : (n : ℕ) → bounds.instructions ≡ AtMost n → instructions_in events ≤ n
  pub new_data : (n : ℕ) → bounds.data ≡ AtMost n → s.store.next ≤ (opening program inputs).store.next + n
  pub rules : (n : ℕ) → bounds.rules ≡ AtMost n → s.next_rule ≤ (opening program inputs).next_rule + n
  pub members : (n : ℕ) → bounds.members ≡ AtMost n → members_held s.store ≤ members_held (opening program inputs).store + n
  pub bytes : (n : ℕ) → bounds.bytes ≡ AtMost n → bytes_held s ≤ bytes_held (opening program inputs) + n
  pub few : (n : ℕ) → bounds.events ≡ AtMost n → length events ≤ n

-- with any inputs and layout, each run of at most so many events is within the bounds
pub record LimitsRuns (program : List Procedure) (limit : ℕ) (bounds : LimitedBounds) : Type 0 where
  pub within : (inputs : List Input) (layout : ActorCounts) (events : List Event) (s : State) → AreInputsOf program inputs → length events ≤ limit → reached program inputs layout events ≡ Went s
      → IsRunWithinLimited program bounds inputs events s
