-- The state while the bounds of all procedures are computed.
use Rattle.std.specs.Prelude.{◌≡◌, ℕ, ◌<◌, ◌≤◌, min, List, length, map, Option, Some, None, slice_get}
use Rattle.std.specs.Option.{option_map}
use Rattle.tw_types.specs.declared.data_type.Scalar.{Scalar}
use Rattle.tw_code.specs.declared.instr.Instr.{Instr}
use Rattle.tw_code.specs.declared.procedure.Procedure.{Procedure}
use Rattle.tw_code.specs.accepting.Structure.{IsStructured}
use Rattle.tw_bounds.specs.declared.weights.Weights.{Weights}
use Rattle.tw_bounds.specs.Bounds.{AreAllBounds, Calls, IsBoundOf, bound_at, weight_of}
use Rattle.tw_bounds.specs.Rows.{cap}

-- a program whose bounds can be computed: its structure is accepted, and it calls only its own procedures
pub record IsBoundable (program : List Procedure) : Type 0 where
  pub structured : (k : ℕ) (p : Procedure) → slice_get program k ≡ Some p → IsStructured p.code
  pub inside : (k q : ℕ) → Calls program k q → q < length program

-- holds if the known numbers are the exact ones, capped
abbrev pub AreCapped : List (Option ℕ) → List (Option ℕ) → Type 0
AreCapped known exact = known ≡ map (option_map (λ b. min b cap)) exact

abbrev pub AreCappedBounds : List Procedure → Weights → List (Option ℕ) → Type 0
AreCappedBounds program weights known = (exact : List (Option ℕ)) × AreAllBounds program weights exact × AreCapped known exact

-- holds for a procedure's bound, capped
abbrev pub IsCappedBound : List Procedure → Weights → List (Option ℕ) → Procedure → ℕ → Type 0
IsCappedBound program weights exact p b = (n : ℕ) × IsBoundOf program weights exact p n × (b ≡ min n cap)

abbrev pub AreWithin : List (Option ℕ) → Type 0
AreWithin known = (q b : ℕ) → bound_at known q ≡ Some b → b ≤ cap

-- holds if some place calls a procedure whose bound isn't known
abbrev pub CallsUnknown : List Procedure → Weights → List (Option ℕ) → List Scalar → List Instr → Type 0
CallsUnknown program weights known registers code = (place : ℕ) × (i : Instr) × (slice_get code place ≡ Some i) × (weight_of program weights known registers i ≡ None)

-- holds if each procedure whose bound isn't known calls one whose bound isn't known
abbrev pub IsFixpoint : List Procedure → Weights → List (Option ℕ) → Type 0
IsFixpoint program weights known = (k : ℕ) (p : Procedure) → slice_get program k ≡ Some p → slice_get known k ≡ Some None → CallsUnknown program weights known p.registers p.code

-- the bound of a procedure whose bound wasn't known
pub record IsNext (program : List Procedure) (weights : Weights) (known exact : List (Option ℕ)) (k b : ℕ) : Type 0 where
  pub procedure : Procedure
  pub here : slice_get program k ≡ Some procedure
  pub unknown : slice_get known k ≡ Some None
  pub is : IsCappedBound program weights exact procedure b
