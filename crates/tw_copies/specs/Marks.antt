-- Marks of the right registers of all procedures, in one list. For private functions: no promise to callers depends on them.
use Rattle.std.specs.Prelude.{◌≡◌, ◌⊎◌, ◌<◌, ℕ, ◌+◌, ◌*◌, Bool, true, false, List, Option, Some, None, slice_get}
use Rattle.tw_types.specs.declared.param.Param.{Param}
use Rattle.tw_code.specs.declared.instr.DataInstr.{DataInstr}
use Rattle.tw_code.specs.declared.instr.DataInstr.TheVariants as on_data
use Rattle.tw_code.specs.declared.instr.Instr.{Instr}
use Rattle.tw_code.specs.declared.instr.Instr.TheVariants as instr
use Rattle.tw_code.specs.declared.procedure.Procedure.{Procedure}
use Rattle.tw_code.specs.machine.Arguments.{params_of}
use Rattle.tw_copies.specs.Copies.{InsertsInto, IsAt, MayBeCopy, Passes}

-- returns the place of a procedure's right register in the list
abbrev pub slot : ℕ → ℕ → ℕ
slot number register = number * 16 + register

abbrev pub is_set : Option Bool → Bool
is_set None = false
is_set (Some mark) = mark

abbrev pub is_marked : List Bool → ℕ → ℕ → Bool
is_marked marks number register = is_set (slice_get marks (slot number register))

abbrev pub IsMarked : List Bool → ℕ → ℕ → Type 0
IsMarked marks number register = is_marked marks number register ≡ true

-- ---- what marks require: registers of procedures that have to be marked

-- holds for a procedure's register if a DUPW of it names the register
abbrev pub CopyRequires : ℕ → DataInstr → ℕ → ℕ → Type 0
CopyRequires number (on_data.CopyWrite to from) owner register = (owner ≡ number) × ((register ≡ to) ⊎ (register ≡ from))
CopyRequires number i owner register = ⊥

-- holds for the callee's register if a marked argument is passed for it
abbrev pub ArgsRequire : List Bool → ℕ → ℕ → ℕ → List Param → List ℕ → ℕ → ℕ → Type 0
ArgsRequire marks number callee next params args owner register = (owner ≡ callee) × (from : ℕ) × IsMarked marks number from × Passes next params args from register

abbrev pub Requires : List Procedure → List Bool → ℕ → Instr → ℕ → ℕ → Type 0
Requires program marks number (instr.Data i) = CopyRequires number i
Requires program marks number (instr.Rule action) = ArgsRequire marks number action.procedure 0 (params_of program action.procedure) action.args
Requires program marks number (instr.Put action) = ArgsRequire marks number action.procedure 0 (params_of program action.procedure) action.args
Requires program marks number (instr.Local i) = λ owner register. ⊥
Requires program marks number instr.Ret = λ owner register. ⊥

-- holds if each register with P is marked
abbrev pub IsMet : List Bool → (ℕ → ℕ → Type 0) → Type 0
IsMet marks P = (owner register : ℕ) → P owner register → IsMarked marks owner register

-- the slot of a register with P that isn't marked
pub record IsUnmet (marks : List Bool) (P : ℕ → ℕ → Type 0) (k : ℕ) : Type 0 where
  pub owner : ℕ
  pub register : ℕ
  pub required : P owner register
  pub at : k ≡ slot owner register
  pub unmarked : IsMarked marks owner register → ⊥

-- holds if the marks are as each instruction of a code requires
abbrev pub CodeMet : List Procedure → List Bool → ℕ → List Instr → Type 0
CodeMet program marks number code = (place : ℕ) (i : Instr) → slice_get code place ≡ Some i → IsMet marks (Requires program marks number i)

abbrev pub CodeUnmet : List Procedure → List Bool → ℕ → List Instr → ℕ → Type 0
CodeUnmet program marks number code k = (place : ℕ) × (i : Instr) × (slice_get code place ≡ Some i) × IsUnmet marks (Requires program marks number i) k

-- likewise of the procedures before one
abbrev pub MetBefore : List Procedure → List Bool → ℕ → Type 0
MetBefore program marks end = (number place : ℕ) (i : Instr) → number < end → IsAt program number place i → IsMet marks (Requires program marks number i)

abbrev pub AllMet : List Procedure → List Bool → Type 0
AllMet program marks = (number place : ℕ) (i : Instr) → IsAt program number place i → IsMet marks (Requires program marks number i)

abbrev pub SomeUnmet : List Procedure → List Bool → ℕ → Type 0
SomeUnmet program marks k = (number : ℕ) × (place : ℕ) × (i : Instr) × IsAt program number place i × IsUnmet marks (Requires program marks number i) k

-- holds if only registers are marked that may hold copies
abbrev pub OnlyCopies : List Procedure → List Bool → Type 0
OnlyCopies program marks = (number register : ℕ) → register < 16 → IsMarked marks number register → MayBeCopy program number register

-- ---- insertions into marked containers

pub record InsertsMarked (marks : List Bool) (number : ℕ) (code : List Instr) (place : ℕ) : Type 0 where
  pub i : Instr
  pub at : slice_get code place ≡ Some i
  pub container : ℕ
  pub inserts : InsertsInto i container
  pub marked : IsMarked marks number container

pub record IsMarkedInsertion (program : List Procedure) (marks : List Bool) (number place : ℕ) : Type 0 where
  pub p : Procedure
  pub here : slice_get program number ≡ Some p
  pub inserts : InsertsMarked marks number p.code place
