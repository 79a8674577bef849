-- The greatest cost of a path from a place to the END of its own loop, computed from the code's end.
use Rattle.std.specs.Prelude.{ℕ, zero, suc, ◌+◌, ◌*◌, ◌-◌, max, List, [], ◌∷◌, Option, Some, None}
use Rattle.tw_code.specs.declared.flow.Flow.{Flow}
use Rattle.tw_code.specs.declared.flow.Flow.TheVariants.{Straight, Branch, Jump, Begin, Close, Stop}
use Rattle.tw_code.specs.accepting.Structure.{end_from}

-- returns the cost after an END, from the costs `on` from a place
abbrev pub after_loop : ℕ → (ℕ → ℕ) → Option ℕ → ℕ
after_loop place on None = 0
after_loop place on (Some end) = on (end - place)

-- returns the cost from a place with this cost, from the costs `on` from the next place
abbrev pub by_flow : ℕ → ℕ → List Flow → (ℕ → ℕ) → Flow → ℕ
by_flow cost place rest on Straight = cost + on 0
by_flow cost place rest on (Branch skip) = cost + max (on 0) (on skip)
by_flow cost place rest on (Jump skip) = cost + on skip
by_flow cost place rest on (Begin iterations) = cost + iterations * on 0 + after_loop place on (end_from (place + 1) 0 rest)
by_flow cost place rest on Close = cost
by_flow cost place rest on Stop = cost

-- returns the cost from the k-th instruction of the code after a place
abbrev pub greatest_cost_in : (ℕ → ℕ) → ℕ → List Flow → ℕ → ℕ
greatest_cost_in cost place [] k = 0
greatest_cost_in cost place (i ∷ rest) zero = by_flow (cost place) place rest (greatest_cost_in cost (place + 1) rest) i
greatest_cost_in cost place (i ∷ rest) (suc k) = greatest_cost_in cost (place + 1) rest k

abbrev pub greatest_cost : (ℕ → ℕ) → List Flow → ℕ → ℕ
greatest_cost cost code place = greatest_cost_in cost 0 code place
