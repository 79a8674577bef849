use Rattle.tw_bounds.proofs.Accepting.{budget_is_greatest, greatest_is_budget}
use Rattle.tw_bounds.proofs.theorems.budgets_are_costs.Goals as goal

pub returns-clause-costs : goal.returns-clause-costs
returns-clause-costs c = λ code n b. budget_is_greatest code n b

pub returns-clause-budgets : goal.returns-clause-budgets
returns-clause-budgets c = λ code n d. greatest_is_budget code n d
