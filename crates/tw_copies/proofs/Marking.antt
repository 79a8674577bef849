-- Marks of right registers by places: at a marked register and place, the right may be a copy, or may have been copied. A program that
-- inserts only by rights that aren't marked has no contested insertion.
use Rattle.std.specs.Prelude.{◌≡◌, ℕ, suc, ◌==◌, Bool, true, false, not, ◌&&◌, ◌||◌, if◌then◌else◌, List, [], ◌∷◌, Some, slice_get}
use Rattle.tw_copies.proofs.Names.{Action, DataInstr, InsertsInto, Instr, IsEndOf, Param, Procedure, Way, flow_of, is_val, onward, params_of}
use Rattle.tw_code.specs.declared.instr.DataInstr.TheVariants as on_data
use Rattle.tw_code.specs.declared.instr.Instr.TheVariants as instr

-- ---- marks

-- which right registers are marked at a place
abbrev pub Marked : Type 0
Marked = ℕ → Bool

-- by procedure and place; what is marked at the first place are the parameters of rights, in their order
abbrev pub Marks : Type 0
Marks = ℕ → ℕ → Marked

-- returns what is marked after an instruction: DUPW marks both registers, and a new right isn't marked
abbrev pub marked_by : DataInstr → Marked → Marked
marked_by (on_data.New write read ty) marked = λ register. not (register == write) && marked register
marked_by (on_data.CopyWrite to from) marked = λ register. (register == to) || ((register == from) || marked register)
marked_by i marked = marked

abbrev pub marked_after : Instr → Marked → Marked
marked_after (instr.Data i) marked = marked_by i marked
marked_after (instr.Local i) marked = marked
marked_after (instr.Rule action) marked = marked
marked_after (instr.Put action) marked = marked
marked_after instr.Ret marked = marked

-- ---- marks that fit a program

-- holds if each parameter is marked whose argument is; `to` says which of the parameters of rights are, from here on
abbrev pub AreHanded : Marked → Marked → List Param → List ℕ → Type 0
AreHanded marked to [] args = Unit {0}
AreHanded marked to (p ∷ params) [] = Unit {0}
AreHanded marked to (p ∷ params) (arg ∷ args) =
    (is_val p.mode ≡ false → marked arg ≡ true → to 0 ≡ true) × AreHanded marked (if is_val p.mode then to else (λ k. to (suc k))) params args

abbrev pub HandsMarks : List Procedure → Marks → Marked → Action → Type 0
HandsMarks program marks marked action = AreHanded marked (marks action.procedure 0) (params_of program action.procedure) action.args

-- marks are at least those that the code leads to, so joins and loops have those of all ways there
pub record AreClosed (program : List Procedure) (marks : Marks) : Type 0 where
  -- each later successor, with either outcome
  pub later : (number place next register : ℕ) (p : Procedure) (i : Instr) (way : Way) → slice_get program number ≡ Some p → slice_get p.code place ≡ Some i → onward way place (flow_of i) ≡ Some next
      → marked_after i (marks number place) register ≡ true → marks number next register ≡ true
  -- a loop's first place, from its END
  pub loops : (number place first register : ℕ) (p : Procedure) → slice_get program number ≡ Some p → IsEndOf p.code first place → marks number place register ≡ true → marks number first register ≡ true
  -- the parameters, from each RULE and PUT that names their procedure
  pub rules : (number place : ℕ) (p : Procedure) (action : Action) → slice_get program number ≡ Some p → slice_get p.code place ≡ Some (instr.Rule action) → HandsMarks program marks (marks number place) action
  pub puts : (number place : ℕ) (p : Procedure) (action : Action) → slice_get program number ≡ Some p → slice_get p.code place ≡ Some (instr.Put action) → HandsMarks program marks (marks number place) action

-- no insertion has a marked container or map
abbrev pub InsertsUnmarked : List Procedure → Marks → Type 0
InsertsUnmarked program marks = (number place register : ℕ) (i : Instr) (p : Procedure) → slice_get program number ≡ Some p → slice_get p.code place ≡ Some i → InsertsInto i register → marks number place register ≡ false

-- ---- the programs that pass

-- there are such marks
pub record IsMarkable (program : List Procedure) : Type 0 where
  pub marks : Marks
  pub closed : AreClosed program marks
  pub inserts : InsertsUnmarked program marks
