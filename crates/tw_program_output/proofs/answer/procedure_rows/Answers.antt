use Rattle.std.proofs.Common.{◌∙◌}
use Rattle.tw_program_output.proofs.Checks.{read_row}
use Rattle.tw_program_output.proofs.answer.procedure_rows.Goals as goal

pub loop-number-preserved : goal.loop-number-preserved
loop-number-preserved c =
    read_row c.args.verified.now.program c.procedures-procedure-items.result.now c.loop-number.number c.budget-budget.result c.procedure-item.result c.loop-number.rows.items c.push.new.self.items
    (c.procedures-procedure-items.ensures.is ∙ c.program.ensures.is) c.loop-number.invariant c.loop-number-test.true c.procedure-item.is c.budget-budget.ensures.is c.in_ok-push.ensures.items
