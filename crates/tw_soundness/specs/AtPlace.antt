-- A procedure of an accepted program, and the position of a task in it.
use Rattle.std.specs.Prelude.{ℕ, List, length}
use Rattle.tw_code.specs.declared.procedure.Procedure.{Procedure}
use Rattle.tw_code.specs.accepting.Flow.{flows}
use Rattle.tw_code.specs.accepting.Walk.{IsBudget}
use Rattle.tw_code.specs.accepting.WellTyped.{IsWellTyped}
use Rattle.tw_code.specs.format.Program.{IsProcedure}
use Rattle.tw_code.specs.machine.Position.{Position}
use Rattle.tw_code.specs.machine.Rights.{Typing}
use Rattle.tw_budget.specs.Frames.{IsWithinBudget}
use Rattle.tw_budget.specs.Sound.{IsSound}
use Rattle.tw_soundness.specs.Invariant.{AreBegun, ValuesFit}

-- it has these typings, its jumps and loops are sound, and it has a budget
pub record Accepts (program : List Procedure) (typings : List Typing) (p : Procedure) : Type 0 where
  pub typed : IsWellTyped program p typings (length p.code)
  pub sound : IsSound (flows p.code)
  pub budget : (n : ℕ) × IsBudget (flows p.code) n
  pub limits : IsProcedure p

-- the values are of the registers' types, the loops were begun here, and the budget suffices for the rest
pub record IsAtPosition (p : Procedure) (spent : ℕ) (at : Position) : Type 0 where
  pub values : ValuesFit p.registers at.values
  pub begun : AreBegun (flows p.code) at.loops
  pub within : (budget : ℕ) → IsBudget (flows p.code) budget → IsWithinBudget (flows p.code) budget spent at.place at.loops
