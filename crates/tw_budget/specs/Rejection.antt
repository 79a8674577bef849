-- The codes of the errors.
use Rattle.std.specs.Prelude.{ℕ}
use Rattle.tw_budget.specs.declared.rejection.BudgetError.{BudgetError}
use Rattle.tw_budget.specs.declared.rejection.BudgetError.TheVariants.{TooLarge, NoMemory}

-- returns the code without the letter B
abbrev pub budget_error_code : BudgetError → ℕ
budget_error_code TooLarge = 1
budget_error_code NoMemory = 2
