use Rattle.tw_cli.proofs.Names.{ap, bare_line, fold, take_all, with_row, ◌∙◌}
use Rattle.tw_cli.proofs.Tables.{one_row_more}
use Rattle.tw_cli.proofs.command.line_of.Goals as goal

pub loop-row-init : goal.loop-row-init
loop-row-init c = c.in_ok-bare.ensures

pub loop-row-preserved : goal.loop-row-preserved
loop-row-preserved c =
    one_row_more with_row _ _ _ c.args.rows.now _ c.loop-row.row-index c.loop-row-test.true c.loop-row.invariant
    (c.in_ok-line.ensures _ c.command_of.ensures.app)

pub returns : goal.returns
returns c = c.loop-row.invariant ∙ ap (λ rows. fold with_row bare_line rows) (take_all c.loop-row.row-index c.args.rows.now c.loop-row-test.false)
