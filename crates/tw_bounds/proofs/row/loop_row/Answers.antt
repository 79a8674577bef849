use Rattle.tw_bounds.proofs.Names.{arith, cost_in, flow_of, flows, length-map}
use Rattle.tw_bounds.proofs.Tables.{begin_row, begun_ends}
use Rattle.tw_bounds.proofs.row.loop_row.Goals as goal

pub overflow_add-end : goal.overflow_add-end
overflow_add-end c = let e = (begun_ends (cost_in c.args.costs.now) (flows c.args.code.now) c.requires.sound c.args.place c.args.iterations c.requires.begins c.row_of-body.result c.row_of-body.ensures.row).1 c.in-Some.end c.in-Some.is in omega (arith, e.1, length-map c.args.code.now flow_of)

pub row_of-on-requires-clause-ahead : goal.row_of-on-requires-clause-ahead
row_of-on-requires-clause-ahead c = let e = (begun_ends (cost_in c.args.costs.now) (flows c.args.code.now) c.requires.sound c.args.place c.args.iterations c.requires.begins c.row_of-body.result c.row_of-body.ensures.row).1 c.in-Some.end c.in-Some.is in omega (arith, e.0)

pub row_of-on-requires-clause-within : goal.row_of-on-requires-clause-within
row_of-on-requires-clause-within c = let e = (begun_ends (cost_in c.args.costs.now) (flows c.args.code.now) c.requires.sound c.args.place c.args.iterations c.requires.begins c.row_of-body.result c.row_of-body.ensures.row).1 c.in-Some.end c.in-Some.is in omega (arith, e.1, length-map c.args.code.now flow_of)

pub returns : goal.returns
returns c = begin_row (cost_in c.args.costs.now) (flows c.args.code.now) c.requires.sound c.args.place c.args.iterations c.row_of-body.result c.row_of-on.result c.in-Some.end c.requires.begins c.row_of-body.ensures.row c.in-Some.is c.row_of-on.ensures.row c.capped.result (omega (arith, c.capped.ensures))
