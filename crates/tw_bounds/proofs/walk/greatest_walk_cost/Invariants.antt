use Rattle.tw_bounds.proofs.Names.{RowsFrom, cost_in, flows}
use Rattle.tw_bounds.proofs.walk.greatest_walk_cost.Given as goal

-- the rows from here on are known
abbrev pub invariant-loop-place : goal.invariant-loop-place
invariant-loop-place l = RowsFrom (cost_in l.costs) (flows l.code) l.rows.items l.place
