use Rattle.tw_bounds.proofs.Names.{Some, ap, arith, cost_in, flows, ◌∙◌}
use Rattle.tw_bounds.proofs.Tables.{straight_row, branch_row, jump_row, close_row, stop_row}
use Rattle.tw_bounds.proofs.row.row_at.Goals as goal

pub returns-in-Straight : goal.returns-in-Straight
returns-in-Straight c = straight_row (cost_in c.args.costs.now) (flows c.args.code.now) c.args.place c.row_of-on.result (c.flow_at.ensures ∙ ap Some c.in-Straight.is) c.row_of-on.ensures.row c.capped.result (omega (arith, c.capped.ensures))

pub returns-in-Branch : goal.returns-in-Branch
returns-in-Branch c = branch_row (cost_in c.args.costs.now) (flows c.args.code.now) c.args.place c.in-Branch.skip c.row_of-on-in-Branch.result c.row_of-skipped.result (c.flow_at.ensures ∙ ap Some c.in-Branch.is) c.row_of-on-in-Branch.ensures.row c.row_of-skipped.ensures.row c.capped-in-Branch.result (omega (arith, c.capped-in-Branch.ensures, c.max.ensures))

pub returns-in-Jump : goal.returns-in-Jump
returns-in-Jump c = jump_row (cost_in c.args.costs.now) (flows c.args.code.now) c.requires.sound c.args.place c.in-Jump.skip c.row_of-on-in-Jump.result (c.flow_at.ensures ∙ ap Some c.in-Jump.is) c.row_of-on-in-Jump.ensures.row c.capped-in-Jump.result (omega (arith, c.capped-in-Jump.ensures))

pub returns-in-Close : goal.returns-in-Close
returns-in-Close c = close_row (cost_in c.args.costs.now) (flows c.args.code.now) c.args.place (c.flow_at.ensures ∙ ap Some c.in-Close.is) c.capped-in-Close.result (omega (arith, c.capped-in-Close.ensures))

pub returns-in-Stop : goal.returns-in-Stop
returns-in-Stop c = stop_row (cost_in c.args.costs.now) (flows c.args.code.now) c.requires.sound c.args.place (c.flow_at.ensures ∙ ap Some c.in-Stop.is) c.capped-in-Stop.result (omega (arith, c.capped-in-Stop.ensures))
