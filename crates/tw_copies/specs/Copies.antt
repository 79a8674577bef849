-- Right registers that may hold a copy of a write right, or a write right that was copied. The text of the program decides.
use Rattle.std.specs.Prelude.{◌≡◌, ◌⊎◌, ◌≤◌, ◌<◌, ℕ, ◌+◌, false, if◌then◌else◌, List, [], ◌∷◌, MatchOption, Option, Some, slice_get}
use Rattle.tw_types.specs.declared.param.Param.{Param}
use Rattle.tw_types.specs.Mode.{is_val}
use Rattle.tw_code.specs.declared.instr.Action.{Action}
use Rattle.tw_code.specs.declared.instr.DataInstr.TheVariants as on_data
use Rattle.tw_code.specs.declared.instr.Instr.{Instr}
use Rattle.tw_code.specs.declared.instr.Instr.TheVariants as instr
use Rattle.tw_code.specs.declared.procedure.Procedure.{Procedure}
use Rattle.tw_code.specs.machine.Arguments.{params_of}
use Rattle.tw_copies.specs.declared.check.CopyInsertion.{CopyInsertion}

-- holds if the procedure of this number has the instruction at the place
abbrev pub IsAt : List Procedure → ℕ → ℕ → Instr → Type 0
IsAt program number place i = (p : Procedure) × (slice_get program number ≡ Some p) × (slice_get p.code place ≡ Some i)

-- Holds if the argument in right register `from` is for the parameter that fills right register `into`. The first of these parameters
-- that is a right fills `next`.
abbrev pub Passes : ℕ → List Param → List ℕ → ℕ → ℕ → Type 0
Passes next [] args from into = ⊥
Passes next (p ∷ params) [] from into = ⊥
Passes next (p ∷ params) (arg ∷ args) from into =
    ((is_val p.mode ≡ false) × (arg ≡ from) × (next ≡ into)) ⊎ Passes (if is_val p.mode then next else next + 1) params args from into

-- holds if the task that an action names gets the right in register `from` in its register `into`
abbrev pub PassesRight : List Procedure → Action → ℕ → ℕ → Type 0
PassesRight program action from into = Passes 0 (params_of program action.procedure) action.args from into

-- Holds if a right in the register of the procedure may be a copy, or have been copied: a DUPW names the register, or a RULE or PUT
-- passes a right that may be a copy.
pub data MayBeCopy (program : List Procedure) : ℕ → ℕ → Type 0 where
  copied_to : {number place to from : ℕ} → IsAt program number place (instr.Data (on_data.CopyWrite to from)) → MayBeCopy program number to
  copied_from : {number place to from : ℕ} → IsAt program number place (instr.Data (on_data.CopyWrite to from)) → MayBeCopy program number from
  by_rule : {number place from into : ℕ} (action : Action) → IsAt program number place (instr.Rule action) → PassesRight program action from into → MayBeCopy program number from → MayBeCopy program action.procedure into
  by_put : {number place from into : ℕ} (action : Action) → IsAt program number place (instr.Put action) → PassesRight program action from into → MayBeCopy program number from → MayBeCopy program action.procedure into

-- ---- insertions

-- holds for an INS or TINS into the container of this register, and for a MINS into its map
abbrev pub InsertsInto : Instr → ℕ → Type 0
InsertsInto (instr.Data (on_data.Insert by container subscript member skip)) register = container ≡ register
InsertsInto (instr.Data (on_data.InsertValue map subscript from skip)) register = map ≡ register
InsertsInto (instr.Data i) register = ⊥
InsertsInto (instr.Local i) register = ⊥
InsertsInto (instr.Rule action) register = ⊥
InsertsInto (instr.Put action) register = ⊥
InsertsInto instr.Ret register = ⊥

-- at the place is an insertion by a right that may be a copy
pub record IsCopyInsertion (program : List Procedure) (number place : ℕ) : Type 0 where
  pub i : Instr
  pub at : IsAt program number place i
  pub container : ℕ
  pub inserts : InsertsInto i container
  pub copy : MayBeCopy program number container

-- ---- the first place

-- holds for the first place, by procedure and by place, with P
pub record IsFirst (P : ℕ → ℕ → Type 0) (number place : ℕ) : Type 0 where
  pub is : P number place
  pub first : (n q : ℕ) → P n q → (number < n) ⊎ ((number ≡ n) × (place ≤ q))

-- holds if there is no place with P
abbrev pub Nowhere : (ℕ → ℕ → Type 0) → Type 0
Nowhere P = (number place : ℕ) → P number place → ⊥

-- holds for the first insertion by a right that may be a copy; for none if there is none
abbrev pub IsFirstCopyInsertion : List Procedure → Option CopyInsertion → Type 0
IsFirstCopyInsertion program found = MatchOption found (Nowhere (IsCopyInsertion program)) (λ at. IsFirst (IsCopyInsertion program) at.procedure at.place)
