-- The total weight of a task of a procedure, with all tasks that descend from it.
use Rattle.std.specs.Prelude.{◌≡◌, ℕ, ◌+◌, ◌*◌, ◌<◌, ◌⊎◌, false, get_or, List, length, filter, map, Option, Some, slice_get, if◌then◌else◌}
use Rattle.std.specs.Option.{option_flatten, option_map, option_map_or}
use Rattle.tw_types.specs.declared.data_type.Scalar.{Scalar}
use Rattle.tw_types.specs.declared.param.Param.{Param}
use Rattle.tw_types.specs.Mode.{is_closed_mode}
use Rattle.tw_code.specs.declared.instr.Action.{Action}
use Rattle.tw_code.specs.declared.instr.DataInstr.{DataInstr}
use Rattle.tw_code.specs.declared.instr.DataInstr.TheVariants as on_data
use Rattle.tw_code.specs.declared.instr.Instr.{Instr}
use Rattle.tw_code.specs.declared.instr.Instr.TheVariants as instr
use Rattle.tw_code.specs.declared.procedure.Procedure.{Procedure}
use Rattle.tw_code.specs.accepting.Flow.{flows}
use Rattle.tw_code.specs.machine.Arguments.{params_of}
use Rattle.tw_bounds.specs.declared.weights.Weights.{Weights}
use Rattle.tw_bounds.specs.Contents.{is_text, is_text_scalar}
use Rattle.tw_bounds.specs.Cost.{IsGreatestCost}

-- returns the bound of a procedure, if it has one
abbrev pub bound_at : List (Option ℕ) → ℕ → Option ℕ
bound_at bounds q = option_flatten (slice_get bounds q)

-- returns 1 for a register of texts, else 0
abbrev pub text_in : List Scalar → ℕ → ℕ
text_in registers register = if option_map_or is_text (slice_get registers register) false then 1 else 0

-- counts the texts that an instruction adds at most, by the types of the procedure's registers
abbrev pub texts_added : List Scalar → DataInstr → ℕ
texts_added registers (on_data.New write read ty) = if is_text_scalar ty then 1 else 0
texts_added registers (on_data.Insert by container subscript member skip) = if is_text by then 1 else 0
texts_added registers (on_data.InsertValue map subscript from skip) = text_in registers subscript + text_in registers from
texts_added registers (on_data.AddValue map subscript from) = text_in registers subscript
texts_added registers i = 0

-- returns the weight of the datum, member or value that an instruction adds
abbrev pub weight_added : Weights → DataInstr → ℕ
weight_added weights (on_data.New write read ty) = weights.datum
weight_added weights (on_data.Insert by container subscript member skip) = weights.member
weight_added weights (on_data.InsertValue map subscript from skip) = weights.member
weight_added weights (on_data.AddValue map subscript from) = weights.member
weight_added weights i = 0

-- returns what an instruction on data adds to its own weight
abbrev pub data_weight : Weights → List Scalar → DataInstr → ℕ
data_weight weights registers i = weight_added weights i + weights.text * texts_added registers i

-- returns the greatest number of events after a RULE: an Ask and a Deliver for each `closed` parameter, and a Release
abbrev pub rule_events : List Param → ℕ
rule_events params = 1 + 2 * length (filter (λ p. is_closed_mode p.mode) params)

-- returns the weight of an instruction of a procedure with such registers: its own, and the bound of the task of its RULE or PUT, if that
-- has one
abbrev pub weight_of : List Procedure → Weights → List (Option ℕ) → List Scalar → Instr → Option ℕ
weight_of program weights bounds registers (instr.Local i) = Some weights.instr
weight_of program weights bounds registers (instr.Data i) = Some (weights.instr + data_weight weights registers i)
weight_of program weights bounds registers (instr.Rule action) = option_map (λ b. weights.instr + weights.rule + weights.rule_event * rule_events (params_of program action.procedure) + b) (bound_at bounds action.procedure)
weight_of program weights bounds registers (instr.Put action) = option_map (λ b. weights.instr + b) (bound_at bounds action.procedure)
weight_of program weights bounds registers instr.Ret = Some weights.instr

-- holds if these are the costs of the places
abbrev pub AreCosts : List Procedure → Weights → List (Option ℕ) → List Scalar → List Instr → List ℕ → Type 0
AreCosts program weights bounds registers code costs = map (weight_of program weights bounds registers) code ≡ map Some costs

abbrev pub cost_in : List ℕ → ℕ → ℕ
cost_in costs place = get_or costs place 0

-- counts the registers of texts: a task has a text in each of them
abbrev pub text_registers : List Scalar → ℕ
text_registers registers = length (filter is_text registers)

-- the bound of a task of the procedure: the weight of the task and of its registers, and the cost of the most expensive walk
pub record IsBoundOf (program : List Procedure) (weights : Weights) (bounds : List (Option ℕ)) (p : Procedure) (bound : ℕ) : Type 0 where
  pub costs : List ℕ
  pub are : AreCosts program weights bounds p.registers p.code costs
  pub walk : ℕ
  pub greatest_cost : IsGreatestCost (flows p.code) (cost_in costs) walk
  pub sum : bound ≡ weights.task + weights.text * text_registers p.registers + walk

-- each bound in the list is that of its procedure
pub record AreBounds (program : List Procedure) (weights : Weights) (bounds : List (Option ℕ)) : Type 0 where
  pub each : (k : ℕ) (p : Procedure) (bound : ℕ) → slice_get program k ≡ Some p → bound_at bounds k ≡ Some bound → IsBoundOf program weights bounds p bound

-- ---- procedures with a bound

-- holds if a RULE or PUT of the one names the other
abbrev pub Calls : List Procedure → ℕ → ℕ → Type 0
Calls program k q = (p : Procedure) × (place : ℕ) × (action : Action) × (slice_get program k ≡ Some p)
    × ((slice_get p.code place ≡ Some (instr.Rule action)) ⊎ (slice_get p.code place ≡ Some (instr.Put action))) × (action.procedure ≡ q)

-- holds if its calls end: no chain of them is infinite, so none forms a circle
pub data CallsEnd (program : List Procedure) : ℕ → Type 0 where
  end : {k : ℕ} → ((q : ℕ) → Calls program k q → CallsEnd program q) → CallsEnd program k

-- exactly the procedures whose calls end have a bound
pub record AreAllBounds (program : List Procedure) (weights : Weights) (bounds : List (Option ℕ)) : Type 0 where
  pub each : AreBounds program weights bounds
  pub long : length bounds ≡ length program
  pub found : (k : ℕ) → k < length program → CallsEnd program k → (b : ℕ) × (bound_at bounds k ≡ Some b)
  pub only : (k b : ℕ) → bound_at bounds k ≡ Some b → CallsEnd program k
