use Rattle.tw_cli.proofs.Names.{app_of, false, fold, new_app, take, with_argument, ◌≡◌}
use Rattle.clap.specs.declared.Command.TheViews.{out-Command}
use Rattle.tw_cli.proofs.arguments.command_of.Given as goal

abbrev pub invariant-loop-argument_row : goal.invariant-loop-argument_row
invariant-loop-argument_row l = (app_of l.command ≡ fold with_argument (new_app l.row.name.now) (take l.argument_row-index l.row.arguments.now)) × ((out-Command l.command).has_globals ≡ false)
