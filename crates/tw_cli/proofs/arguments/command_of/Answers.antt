use Rattle.tw_cli.proofs.Names.{ap, ap₂, fold, new_app, refl, take_all, with_argument, with_rule, ◌||◌, ◌∙◌}
use Rattle.tw_cli.proofs.Tables.{one_row_more}
use Rattle.tw_cli.proofs.arguments.command_of.Goals as goal

pub loop-argument_row-preserved : goal.loop-argument_row-preserved
loop-argument_row-preserved c = (
  one_row_more with_argument _ _ _ c.args.row.now.arguments.now _ c.loop-argument_row.argument_row-index c.loop-argument_row-test.true c.loop-argument_row.invariant.0
      (c.in_ok-command.ensures.shape c.argument.ensures.local ∙ ap₂ with_rule refl c.argument.ensures.rule),
  c.in_ok-command.ensures.globals ∙ ap₂ ◌||◌ c.loop-argument_row.invariant.1 c.argument.ensures.local,
)

pub returns-clause-app : goal.returns-clause-app
returns-clause-app c = c.loop-argument_row.invariant.0
    ∙ ap (λ rows. fold with_argument (new_app c.args.row.now.name.now) rows) (take_all c.loop-argument_row.argument_row-index c.args.row.now.arguments.now c.loop-argument_row-test.false)

pub returns-clause-local : goal.returns-clause-local
returns-clause-local c = c.loop-argument_row.invariant.1
