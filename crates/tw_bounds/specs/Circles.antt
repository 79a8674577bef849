-- Calls that lead back to their own procedure.
use Rattle.std.specs.Prelude.{◌≡◌, ℕ, List, Some, slice_get}
use Rattle.tw_code.specs.declared.instr.Instr.{Instr}
use Rattle.tw_code.specs.declared.instr.Instr.TheVariants as instr
use Rattle.tw_code.specs.declared.procedure.Procedure.{Procedure}
use Rattle.tw_bounds.specs.declared.bound.Bound.{Bound}
use Rattle.tw_bounds.specs.declared.bound.Bound.TheVariants.{Endless}
use Rattle.tw_bounds.specs.declared.circles.Circle.{Circle}
use Rattle.tw_bounds.specs.Bounds.{Calls}

-- one procedure leads to another by a chain of calls, or is the same
pub data LeadsTo (program : List Procedure) : ℕ → ℕ → Type 0 where
  here : {k : ℕ} → LeadsTo program k k
  on : {k q r : ℕ} → LeadsTo program k q → Calls program q r → LeadsTo program k r

-- main's calls lead to the procedure, and the call at this place of it leads back to it
pub record IsCircle (program : List Procedure) (circle : Circle) : Type 0 where
  pub from_main : LeadsTo program 0 circle.procedure
  pub callee : ℕ
  pub call : Calls program circle.procedure callee
  pub at : call.1 ≡ circle.place
  pub back : LeadsTo program callee circle.procedure

abbrev pub IsEndless : List Bound → ℕ → Type 0
IsEndless bounds q = slice_get bounds q ≡ Some Endless

-- holds if the instruction calls this procedure
abbrev pub IsCall : Instr → ℕ → Type 0
IsCall (instr.Rule action) q = action.procedure ≡ q
IsCall (instr.Put action) q = action.procedure ≡ q
IsCall (instr.Local i) q = ⊥
IsCall (instr.Data i) q = ⊥
IsCall instr.Ret q = ⊥

-- holds if the instruction at the place calls this procedure, which has no bound
abbrev pub CallsEndless : List Bound → List Instr → ℕ → ℕ → Type 0
CallsEndless bounds code place q = (i : Instr) × (slice_get code place ≡ Some i) × IsCall i q × IsEndless bounds q
