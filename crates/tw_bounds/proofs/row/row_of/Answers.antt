use Rattle.tw_bounds.proofs.Names.{arith, cost_in, flow_of, flows, length-map}
use Rattle.tw_bounds.proofs.Tables.{known_row, capped_bound}
use Rattle.tw_bounds.proofs.row.row_of.Goals as goal

pub returns-clause-row : goal.returns-clause-row
returns-clause-row c = known_row (cost_in c.args.costs.now) (flows c.args.code.now) c.args.rows.now c.args.from c.args.place _ c.requires.known c.requires.ahead (omega (arith, c.requires.known.long, c.requires.within, length-map c.args.code.now flow_of))

pub returns-clause-bound : goal.returns-clause-bound
returns-clause-bound c = capped_bound _ _ _ _ (returns-clause-row c)
