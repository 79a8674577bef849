-- Costs of walks when each place has a cost, and the greatest of them. A budget is the case where each place costs 1.
use Rattle.std.specs.Prelude.{◌≡◌, ℕ, ◌+◌, ◌≤◌, List, [], ◌∷◌}
use Rattle.tw_code.specs.declared.flow.Flow.{Flow}
use Rattle.tw_code.specs.accepting.Walk.{IsWalk}

-- adds up the costs of its places
abbrev pub cost_of : (ℕ → ℕ) → List ℕ → ℕ
cost_of cost [] = 0
cost_of cost (place ∷ places) = cost place + cost_of cost places

-- n is the greatest cost of a walk
pub record IsGreatestCost (code : List Flow) (cost : ℕ → ℕ) (n : ℕ) : Type 0 where
  pub some : (walk : List ℕ) × IsWalk code walk × (cost_of cost walk ≡ n)
  pub most : (walk : List ℕ) → IsWalk code walk → cost_of cost walk ≤ n
